-- `read_sheet` asks whether the text is whole, and finds the first two lines. Assumes nothing.
use mathlib.Core.Path.{sym, ◌∙◌}
use Rattle.pass_sheet.proofs.Found.{not-whole, one_line, two-lines, by_lines}
use Rattle.pass_sheet.proofs.read_sheet.Goals as goal

pub returns-then-not-is_whole : goal.returns-then-not-is_whole
returns-then-not-is_whole c = not-whole _ (sym c.is_whole.ensures ∙ c.if-not-is_whole.true)

pub read_lines-requires : goal.read_lines-requires
read_lines-requires c = two-lines _ (sym c.is_whole.ensures ∙ c.if-not-is_whole.false) c.line_after-second.ensures c.if-second-text.true c.line_after.ensures

pub returns-then-second-text : goal.returns-then-second-text
returns-then-second-text c = c.read_lines.ensures ∙ by_lines _ (sym c.is_whole.ensures ∙ c.if-not-is_whole.false)

pub returns-else-second-text : goal.returns-else-second-text
returns-else-second-text c = one_line _ (sym c.is_whole.ensures ∙ c.if-not-is_whole.false) c.line_after-second.ensures c.if-second-text.false
