use Rattle.lists.proofs.Range.{Tested}
use Rattle.pass_sheet.specs.Sheet.{is_letter_or_digit}
use Rattle.pass_sheet.proofs.is_part.Given as goal

abbrev pub invariant-loop-c : goal.invariant-loop-c
invariant-loop-c l = Tested is_letter_or_digit l.part l.c-index
