-- `count_verdicts` looks at the first character of each row. Assumes nothing.
use native.Mathlib.Omega.{arith}
use Rattle.pass_report.proofs.CountRows.{row_inside, counting-next, counting-done}
use Rattle.pass_report.proofs.count_verdicts.Goals as goal

pub overflow_add-at : goal.overflow_add-at
overflow_add-at c = omega (arith, row_inside c.loop-at.invariant c.loop-at-test.true c.requires)

pub loop-at-preserved : goal.loop-at-preserved
loop-at-preserved c = counting-next c.loop-at.invariant c.loop-at-test.true c.requires

pub returns : goal.returns
returns c = counting-done c.loop-at.invariant c.loop-at-test.false
