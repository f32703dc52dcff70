use Rattle.run_rows.proofs.Stepping.{Taking}
use Rattle.run_rows.proofs.take_data.Given as goal

abbrev pub invariant-loop-i : goal.invariant-loop-i
invariant-loop-i l = Taking l.flops l.slots l.bits l.initial.next l.next l.i
