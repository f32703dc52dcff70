-- `cube_lines` passes one cube line after the other. Assumes nothing.
use mathlib.Core.Path.{sym, ap, ◌∙◌}
use Rattle.blif_text.specs.Keywords.{leading_dot}
use Rattle.blif_text.proofs.KeywordLaws.{no-dot-first}
use Rattle.blif_declarations.proofs.RowStarts.{row_is}
use Rattle.blif_declarations.proofs.LineWalk.{passed-next, passed-stop, passed-end}
use Rattle.blif_declarations.proofs.cube_lines.Goals as goal

pub returns-then-has_leading_dot : goal.returns-then-has_leading_dot
returns-then-has_leading_dot c = let dot = sym (c.has_leading_dot.ensures ∙ ap leading_dot c.token.ensures) ∙ c.if-has_leading_dot.true in
    passed-stop c.loop-i.invariant c.loop-i-test.true dot

pub loop-i-preserved : goal.loop-i-preserved
loop-i-preserved c = let inv = c.loop-i.invariant in
    let first = ap leading_dot c.token.ensures in
    let no-dot = sym (c.has_leading_dot.ensures ∙ first) ∙ c.if-has_leading_dot.false in
    passed-next inv (row_is inv.rest c.loop-i-test.true c.row_end-i.ensures (sym (no-dot-first _ no-dot)))

pub returns : goal.returns
returns c = passed-end c.loop-i.invariant c.loop-i-test.false
