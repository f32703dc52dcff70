use Rattle.network.proofs.Records.{Following}
use Rattle.network.proofs.records_fit.Given as goal

abbrev pub invariant-loop-g : goal.invariant-loop-g
invariant-loop-g l = Following l.gates l.n l.at l.g
