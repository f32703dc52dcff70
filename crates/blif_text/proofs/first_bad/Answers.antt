-- `first_bad` passes one row after the other. Assumes nothing.
use mathlib.Core.Path.{sym, ◌∙◌}
use Rattle.std.proofs.lemmas.Result.{err_from_is_err_and}
use native.Mathlib.Omega.{arith}
use Rattle.blif_text.proofs.RefusalLaws.{passing-start, passing-done, passing-stop, passing-next}
use Rattle.blif_text.proofs.first_bad.Goals as goal

pub loop-at-init : goal.loop-at-init
loop-at-init c = passing-start c.requires (omega arith)

pub returns-in_err-refusal_at : goal.returns-in_err-refusal_at
returns-in_err-refusal_at c = let v = c.loop-at.invariant in
    let p = err_from_is_err_and c.from_residual.result c.from_residual.ensures.1 in
    rw (p.1, p.2) (passing-stop v c.loop-at-test.true c.row_end-end.ensures (sym c.refusal_at.ensures ∙ c.in_err-refusal_at.was))

pub loop-at-preserved : goal.loop-at-preserved
loop-at-preserved c = let v = c.loop-at.invariant in
    let taken = c.loop-at-test.true in
    let w = c.row_end-end.ensures in
    passing-next v taken w (sym c.refusal_at.ensures ∙ c.in_ok-refusal_at.was)

pub returns : goal.returns
returns c = passing-done c.loop-at.invariant c.loop-at-test.false
