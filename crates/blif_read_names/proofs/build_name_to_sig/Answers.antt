-- `build_name_to_sig` passes one declaration after the other. Assumes nothing.
use Rattle.std.proofs.lemmas.Result.{err_from_is_err_and}
use mathlib.Core.Path.{refl, ◌∙◌, subst}
use Rattle.blif_read_names.specs.Between.Naming.{Steps}
use Rattle.blif_read_names.proofs.Walking.{going_start, going_done, going_next, going-stop}
use Rattle.blif_read_names.proofs.build_name_to_sig.Goals as goal

pub loop-w-init : goal.loop-w-init
loop-w-init c = (going_start c.requires.stmts_at.0 c.requires.stmts_at.1 c.requires.tokens_value c.requires.index_value.0 c.requires.index_value.1 c.requires.index_value.2, refl, refl, refl)

pub loop-w-preserved : goal.loop-w-preserved
loop-w-preserved c = let v = c.loop-w.invariant in
    let s = going_next (subst (Steps _ _ _ _ _ _ _) c.in_ok-w.was c.define_declaration.ensures) in
    (s.1, c.define_declaration.auto.index ∙ v.1, c.define_declaration.auto.out_names ∙ v.2, c.define_declaration.auto.blocks ∙ v.3)

pub returns-in_err-w : goal.returns-in_err-w
returns-in_err-w c = let p = err_from_is_err_and c.from_residual.result c.from_residual.ensures.1 in
    rw (p.1, p.2) (going-stop (subst (Steps _ _ _ _ _ _ _) c.in_err-w.was c.define_declaration.ensures))

pub returns : goal.returns
returns c = going_done c.loop-w.invariant.0 c.loop-w-test.false
