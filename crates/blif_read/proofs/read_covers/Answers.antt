-- `read_covers` checks the covers. Assumes nothing.
use Rattle.std.proofs.lemmas.Result.{err_from_is_err_and}
use mathlib.Core.Path.{sym, ◌∙◌}
use Rattle.blif_read.proofs.Refusing.{holds-refused, refused-by}
use Rattle.blif_read.proofs.Naming.{covers-left}
use Rattle.blif_read.proofs.read_covers.Goals as goal

pub returns-in_err-check_covers : goal.returns-in_err-check_covers
returns-in_err-check_covers c = let p = err_from_is_err_and c.from_residual.result c.from_residual.ensures.1 in
    rw (p.1, p.2) (holds-refused _ _ _ _ _ (refused-by _ (covers-left c.requires.placing ∙ sym c.check_covers.ensures ∙ c.in_err-check_covers.was)))
