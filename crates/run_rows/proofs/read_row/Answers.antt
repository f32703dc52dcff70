-- `read_row` takes one character after the other. Assumes nothing.
use mathlib.Core.Path.{sym, ◌∙◌}
use Rattle.run_rows.proofs.RowTexts.{reading-next, reading-fails, reading-done}
use Rattle.run_rows.proofs.read_row.Goals as goal

pub returns-then-not-is_digit : goal.returns-then-not-is_digit
returns-then-not-is_digit c = reading-fails c.requires.row_room c.loop-i.invariant
    c.loop-i-test.true (sym c.is_digit.ensures ∙ c.if-not-is_digit.true)

pub loop-i-preserved : goal.loop-i-preserved
loop-i-preserved c = rw c.put_bit.ensures
    (reading-next c.requires.row_room c.loop-i.invariant c.requires.bits_len c.loop-i-test.true
    (sym c.is_digit.ensures ∙ c.if-not-is_digit.false))

pub returns : goal.returns
returns c = reading-done c.requires.row_room c.loop-i.invariant c.loop-i-test.false
