-- `is_part` looks at the length, then at each byte. Assumes nothing.
use borrow.Author.Rules.{rules}
use Rattle.pass_sheet.proofs.HeadTests.{part-empty, part-long, part-wrong, part_right}
use Rattle.pass_sheet.proofs.is_part.Goals as goal

pub returns-then-is_empty : goal.returns-then-is_empty
returns-then-is_empty c = search (part-empty, part-long, rules)

pub returns-then-not-is_letter_or_digit : goal.returns-then-not-is_letter_or_digit
returns-then-not-is_letter_or_digit c = search (part-wrong, rules)

pub returns : goal.returns
returns c = search (part_right, rules)
