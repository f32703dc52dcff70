use Rattle.blif_write_names.proofs.Parts.{Before}
use Rattle.blif_write_inverters.specs.Between.Marks.{gate_inverters}
use Rattle.blif_write_inverters.proofs.append_gate_inverters.Given as goal

abbrev pub invariant-loop-g : goal.invariant-loop-g
invariant-loop-g l = Before (gate_inverters l.marks) l.n l.initial.out l.at l.out l.end l.g
