use Rattle.blif_write_inverters.proofs.Inverters.{InputsTurned}
use Rattle.blif_write_inverters.proofs.append_input_inverters.Given as goal

abbrev pub invariant-loop-i : goal.invariant-loop-i
invariant-loop-i l = InputsTurned l.marks l.n l.initial.out l.at l.out l.end l.i
