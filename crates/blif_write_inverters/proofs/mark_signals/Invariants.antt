use mathlib.Core.List.{map}
use lib.ListN.{drop}
use Rattle.signal.specs.Cell.{sig_of}
use Rattle.blif_write_inverters.proofs.Marking.{Marking}
use Rattle.blif_write_inverters.proofs.mark_signals.Given as goal

abbrev pub invariant-loop-cell : goal.invariant-loop-cell
invariant-loop-cell l = Marking (map sig_of (drop l.cell-index l.cells)) (map sig_of l.cells) l.initial.gate_marks l.initial.input_marks l.gate_marks l.input_marks
