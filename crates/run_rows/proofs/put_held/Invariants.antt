use Rattle.run_rows.proofs.Stepping.{Putting}
use Rattle.run_rows.proofs.put_held.Given as goal

abbrev pub invariant-loop-i : goal.invariant-loop-i
invariant-loop-i l = Putting l.flops l.next l.initial.bits l.bits l.i
