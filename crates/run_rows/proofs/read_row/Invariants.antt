use Rattle.run_rows.proofs.RowTexts.{Reading}
use Rattle.run_rows.proofs.read_row.Given as goal

abbrev pub invariant-loop-i : goal.invariant-loop-i
invariant-loop-i l = Reading l.row l.initial.bits l.bits l.i
