-- `is_letter_or_digit` is std's test of a letter or digit. Assumes nothing.
use borrow.Author.Rules.{rules}
use borrow.Author.Tests.{tests}
use Rattle.pass_sheet.specs.Sheet.{is_letter_or_digit}
use Rattle.pass_sheet.proofs.is_letter_or_digit.Goals as goal

pub returns : goal.returns
unfolding is_letter_or_digit
returns c = search (rules, tests)
