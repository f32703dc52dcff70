use Rattle.blif_write.proofs.Walks.{Narrow}
use Rattle.blif_write.proofs.any_wide.Given as goal

abbrev pub invariant-loop-g : goal.invariant-loop-g
invariant-loop-g l = Narrow l.gates l.n l.g
