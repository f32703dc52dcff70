use Rattle.sort.proofs.Uses.{CountedTo}
use Rattle.sort.proofs.count_uses.Given as goal

abbrev pub invariant-loop-g : goal.invariant-loop-g
invariant-loop-g l = CountedTo l.gates l.pins l.n l.counts l.g
