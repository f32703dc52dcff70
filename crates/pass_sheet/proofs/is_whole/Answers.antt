-- `is_whole` looks at the last byte, then at the length. Assumes nothing.
use borrow.Author.Rules.{rules}
use borrow.Author.Tests.{tests}
use Rattle.std.proofs.Common.{arith}
use Rattle.std.proofs.lemmas.Grind.{common_steps}
use Rattle.blif_text.specs.Lines.{ends_in_lf}
use Rattle.pass_sheet.specs.Sheet.{is_whole}
use Rattle.pass_sheet.proofs.is_whole.Goals as goal

pub returns-then-eq : goal.returns-then-eq
unfolding ends_in_lf is_whole
returns-then-eq c = search (rules, tests)

pub returns-else-eq : goal.returns-else-eq
unfolding ends_in_lf is_whole
returns-else-eq c = grind (arith, common_steps)
