use Rattle.run_rows.proofs.RowTexts.{Writing}
use Rattle.run_rows.proofs.write_row.Given as goal

abbrev pub invariant-loop-i : goal.invariant-loop-i
invariant-loop-i l = Writing l.bits l.outputs l.initial.line l.line l.i
