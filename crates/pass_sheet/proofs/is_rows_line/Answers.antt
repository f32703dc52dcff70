-- `is_rows_line` writes the line that is wanted and compares. Assumes nothing.
use mathlib.Core.Path.{sym, ◌∙◌}
use borrow.Author.Rules.{rules}
use lib.Seq.{length-take-le}
use Rattle.pass_sheet.proofs.HeadTests.{rows-line-none, rows-line-many, wanted-inside, rows-line-is}
use Rattle.pass_sheet.proofs.is_rows_line.Goals as goal

pub returns-then-n-eq0 : goal.returns-then-n-eq0
returns-then-n-eq0 c = search (rows-line-none, rows-line-many, rules)

pub slice_bounds-wanted-end : goal.slice_bounds-wanted-end
slice_bounds-wanted-end c = wanted-inside c.if-n-gt128.false c.append-at.ensures c.append_number-end.ensures

pub slice_bounds-equal-end : goal.slice_bounds-equal-end
slice_bounds-equal-end c = sym (length-take-le _ _ (wanted-inside c.if-n-gt128.false c.append-at.ensures c.append_number-end.ensures))

pub returns : goal.returns
returns c = c.equal.ensures ∙ rows-line-is c.if-n-gt128.false c.append-at.ensures c.append_number-end.ensures _ c.if-n-eq0.false
