use Rattle.blif_read_names.proofs.Entering.{Entering}
use Rattle.blif_read_names.proofs.enter_inputs.Given as goal

abbrev pub invariant-loop-j : goal.invariant-loop-j
invariant-loop-j l = Entering l.text l.names l.initial.index l.inputs l.index l.j
