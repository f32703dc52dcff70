use Prim.Native.Nat.{◌-◌}
use Rattle.network.specs.Cells.{cell_gates}
use Rattle.blif_write_inverters.specs.Between.Marks.{named_in}
use Rattle.blif_write_inverters.proofs.Marking.{Marking}
use Rattle.blif_write.proofs.get_inverted_signals.Given as goal

abbrev pub invariant-loop-g : goal.invariant-loop-g
invariant-loop-g l = Marking (named_in (cell_gates l.gates l.pins l.g (l.n - l.g))) (named_in (cell_gates l.gates l.pins 0 l.n)) l.initial.gate_marks l.initial.input_marks l.gate_marks l.input_marks
