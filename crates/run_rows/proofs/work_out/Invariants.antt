use lib.ListN.{length}
use Rattle.run_rows.proofs.Working.{Working}
use Rattle.run_rows.proofs.work_out.Given as goal

abbrev pub invariant-loop-g : goal.invariant-loop-g
invariant-loop-g l = Working l.gates l.pins (length l.tables) l.initial.bits l.bits l.g
