-- `refusal_at` asks for the statement of a row with a leading dot alone. Assumes nothing.
use mathlib.Core.Path.{sym, ap, ◌∙◌}
use Rattle.std.proofs.lemmas.Result.{err_from_is_err_and}
use Rattle.blif_text.specs.Keywords.{leading_dot}
use Rattle.blif_text.specs.Between.PlacedStatements.{statement_of, refusal_in}
use Rattle.blif_text.specs.declared.Keyword.{Keyword}
use Rattle.blif_text.proofs.KeywordLaws.{no-dot-first}
use Rattle.blif_text.proofs.refusal_at.Goals as goal

pub returns-then-not-has_leading_dot : goal.returns-then-not-has_leading_dot
returns-then-not-has_leading_dot c = let s = c.args in
    let no-dot = sym (c.has_leading_dot.ensures ∙ ap leading_dot c.token.ensures) ∙ c.if-not-has_leading_dot.true in
    sym (ap (λ (k : Keyword). refusal_in (statement_of s.text.now s.cells.now k s.at s.end)) (no-dot-first _ no-dot))

pub returns-in_err-statement_at : goal.returns-in_err-statement_at
returns-in_err-statement_at c = let p = err_from_is_err_and c.from_residual.result c.from_residual.ensures.1 in
    rw (p.1, p.2) (sym (ap refusal_in (sym c.statement_at.ensures ∙ c.in_err-statement_at.was)))

pub returns : goal.returns
returns c = sym (ap refusal_in (sym c.statement_at.ensures ∙ c.in_ok-statement_at.was))
