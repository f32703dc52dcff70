-- `read_names` enters the names. Assumes nothing.
use Rattle.std.proofs.lemmas.Result.{err_from_is_err_and}
use mathlib.Core.Path.{subst}
use Rattle.blif_read_names.specs.Between.Tables.{DefinedBy}
use Rattle.blif_read.proofs.Refusing.{holds-refused}
use Rattle.blif_read.proofs.Naming.{name-refused, names-entered}
use Rattle.blif_read.proofs.read_names.Goals as goal

pub read_outputs-requires-clause-defining : goal.read_outputs-requires-clause-defining
read_outputs-requires-clause-defining c = let d = subst (DefinedBy _ _ _ _ _ _ _) c.in_ok-declared.was c.build_name_to_sig.ensures in names-entered c.requires.sized d.0 d.1

pub returns-in_err-declared : goal.returns-in_err-declared
returns-in_err-declared c = let p = err_from_is_err_and c.from_residual.result c.from_residual.ensures.1 in
    rw (p.1, p.2) (holds-refused _ _ _ _ _ (name-refused c.requires.sized (subst (DefinedBy _ _ _ _ _ _ _) c.in_err-declared.was c.build_name_to_sig.ensures)))
