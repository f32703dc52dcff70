use Rattle.blif_read_gates.proofs.JoinLaws.{Joining}
use Rattle.blif_read_gates.proofs.put_joins.Given as goal

abbrev pub invariant-loop-k : goal.invariant-loop-k
invariant-loop-k l = Joining l.initial.pins l.pins l.at l.next l.count l.k
