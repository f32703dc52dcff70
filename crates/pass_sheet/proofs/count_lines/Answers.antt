-- `count_lines` passes one line after the other. Assumes nothing.
use Rattle.pass_sheet.proofs.Lines.{count_next, count-done}
use Rattle.pass_sheet.proofs.count_lines.Goals as goal

pub loop-at-preserved : goal.loop-at-preserved
loop-at-preserved c = count_next c.loop-at.invariant c.loop-at-test.true c.line_after-at.ensures

pub returns : goal.returns
returns c = count-done c.loop-at.invariant c.loop-at-test.false
