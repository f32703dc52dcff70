-- `write_row` writes one character after the other, then the LF. Assumes nothing.
use mathlib.Core.Path.{ap, ◌∙◌}
use Rattle.run_rows.specs.Rows.{digit}
use Rattle.run_rows.proofs.RowTexts.{digit-is, writing-next, writing-done}
use Rattle.run_rows.proofs.write_row.Goals as goal

pub loop-i-preserved : goal.loop-i-preserved
loop-i-preserved c = writing-next c.loop-i.invariant c.loop-i-test.true
    (digit-is c.signal_bit.result ∙ ap digit c.signal_bit.ensures)

pub returns : goal.returns
returns c = writing-done c.loop-i.invariant c.requires.room c.loop-i-test.false
