use Prim.Native.Nat.{ℕ}
use Rattle.network.specs.Cells.{cell_gates}
use Rattle.blif_write_names.proofs.Parts.{Before}
use Rattle.blif_write.specs.Between.Parts.{covers_text}
use Rattle.blif_write.proofs.append_covers.Given as goal

abbrev pub invariant-loop-g : goal.invariant-loop-g
invariant-loop-g l = Before (λ (h k : ℕ). covers_text h (cell_gates l.gates l.pins h k)) l.n l.initial.out l.at l.out l.end l.g
