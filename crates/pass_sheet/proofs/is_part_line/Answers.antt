-- `is_part_line` compares the key, then looks at what is behind it. Assumes nothing.
use borrow.Author.Rules.{rules}
use Rattle.pass_sheet.proofs.HeadTests.{part-line-short, part-line-other, part-line-with}
use Rattle.pass_sheet.proofs.is_part_line.Goals as goal

pub returns-then-equal : goal.returns-then-equal
returns-then-equal c = search (part-line-with, rules)

pub returns-else-equal : goal.returns-else-equal
returns-else-equal c = search (part-line-short, part-line-other, rules)
