use Rattle.sort.proofs.Moving.{Tabling}
use Rattle.sort.proofs.number_gates.Given as goal

abbrev pub invariant-loop-i : goal.invariant-loop-i
invariant-loop-i l = Tabling l.order l.table l.i
