use Prim.Native.Nat.{◌-◌}
use lib.ListN.{length}
use Rattle.pass_report.proofs.CountRows.{Counting}
use Rattle.pass_report.proofs.count_verdicts.Given as goal

abbrev pub invariant-loop-at : goal.invariant-loop-at
invariant-loop-at l = Counting l.width l.rows l.at l.accepted l.rejected

abbrev pub decreases-loop-at : goal.decreases-loop-at
decreases-loop-at l = length l.rows - l.at
