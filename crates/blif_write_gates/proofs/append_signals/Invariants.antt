use Prim.Native.Nat.{ℕ}
use mathlib.Core.List.{map}
use lib.ListN.{length, drop}
use Rattle.signal.specs.Cell.{sig_of}
use Rattle.blif_writing.specs.Names.{name_bytes}
use Rattle.blif_writing.specs.Text.{spaced}
use Rattle.blif_write_names.proofs.Parts.{Before}
use Rattle.blif_write_gates.proofs.append_signals.Given as goal

abbrev pub invariant-loop-cell : goal.invariant-loop-cell
invariant-loop-cell l = Before (λ (j k : ℕ). spaced (map name_bytes (map sig_of (drop j l.cells)))) (length l.cells) l.initial.out l.at l.out l.end l.cell-index
