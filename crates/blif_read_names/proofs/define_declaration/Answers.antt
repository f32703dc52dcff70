-- `define_declaration` passes a declaration. Assumes nothing.
use mathlib.Core.Path.{refl, subst}
use Rattle.std.proofs.lemmas.Result.{err_from_is_err_and}
use Rattle.blif_declarations.proofs.NextLaws.{next-as}
use Rattle.blif_read_names.specs.Between.Naming.{Steps}
use Rattle.blif_read_names.proofs.Defining.{outputs-fit, go-none, go-model, go-end, go-inputs, go-outputs, stepped}
use Rattle.blif_read_names.proofs.DefiningGates.{go-latch, go-cover}
use Rattle.blif_read_names.proofs.Walking.{inputs-fit, latch-fit, cover-fit}
use Rattle.blif_read_names.proofs.define_declaration.Goals as goal

pub enter_inputs-requires : goal.enter_inputs-requires
enter_inputs-requires c = inputs-fit c.requires.naming_so_far.0 (next-as c.requires.next_is c.in-Inputs.is)

pub copy_outputs-requires : goal.copy_outputs-requires
copy_outputs-requires c = outputs-fit c.requires.naming_so_far.0 (next-as c.requires.next_is c.in-Outputs.is)

pub define_latch-requires : goal.define_latch-requires
define_latch-requires c = latch-fit c.requires.naming_so_far.0 (next-as c.requires.next_is c.in-Latch.is)

pub define_cover-requires : goal.define_cover-requires
define_cover-requires c = cover-fit c.requires.naming_so_far.0 (next-as c.requires.next_is c.in-Cover.is)

pub returns-in_err-refuse_if-in-Model : goal.returns-in_err-refuse_if-in-Model
returns-in_err-refuse_if-in-Model c = let x = next-as c.requires.next_is c.in-Model.is in
    let p = err_from_is_err_and c.from_residual.result c.from_residual.ensures.1 in
    rw (p.1, p.2) (subst (Steps _ _ _ _ _ _ _) (stepped _ c.refuse_if.ensures c.in_err-refuse_if-in-Model.was) (go-model c.requires.naming_so_far.0 c.requires.naming_so_far.1 x))

pub returns-in_ok-refuse_if-in-Model : goal.returns-in_ok-refuse_if-in-Model
returns-in_ok-refuse_if-in-Model c = let x = next-as c.requires.next_is c.in-Model.is in
    subst (Steps _ _ _ _ _ _ _) (stepped _ c.refuse_if.ensures c.in_ok-refuse_if-in-Model.was) (go-model c.requires.naming_so_far.0 c.requires.naming_so_far.1 x)

pub returns-in_err-refuse_if-in-End : goal.returns-in_err-refuse_if-in-End
returns-in_err-refuse_if-in-End c = let x = next-as c.requires.next_is c.in-End.is in
    let p = err_from_is_err_and c.from_residual-in_err-refuse_if-in-End.result c.from_residual-in_err-refuse_if-in-End.ensures.1 in
    rw (p.1, p.2) (subst (Steps _ _ _ _ _ _ _) (stepped _ c.refuse_if-in-End.ensures c.in_err-refuse_if-in-End.was) (go-end c.requires.naming_so_far.0 c.requires.naming_so_far.1 x))

pub returns-in_ok-refuse_if-in-End : goal.returns-in_ok-refuse_if-in-End
returns-in_ok-refuse_if-in-End c = let x = next-as c.requires.next_is c.in-End.is in
    subst (Steps _ _ _ _ _ _ _) (stepped _ c.refuse_if-in-End.ensures c.in_ok-refuse_if-in-End.was) (go-end c.requires.naming_so_far.0 c.requires.naming_so_far.1 x)

pub returns-in_err-enter_inputs-in-Inputs : goal.returns-in_err-enter_inputs-in-Inputs
returns-in_err-enter_inputs-in-Inputs c = let x = next-as c.requires.next_is c.in-Inputs.is in
    let p = err_from_is_err_and c.from_residual-in_err-enter_inputs-in-Inputs.result c.from_residual-in_err-enter_inputs-in-Inputs.ensures.1 in
    rw (p.1, p.2) (subst (Steps _ _ _ _ _ _ _) (stepped _ refl c.in_err-enter_inputs-in-Inputs.was) (go-inputs c.requires.naming_so_far.0 c.requires.naming_so_far.1 x c.enter_inputs.ensures))

pub returns-in_ok-enter_inputs-in-Inputs : goal.returns-in_ok-enter_inputs-in-Inputs
returns-in_ok-enter_inputs-in-Inputs c = let x = next-as c.requires.next_is c.in-Inputs.is in
    subst (Steps _ _ _ _ _ _ _) (stepped _ refl c.in_ok-enter_inputs-in-Inputs.was) (go-inputs c.requires.naming_so_far.0 c.requires.naming_so_far.1 x c.enter_inputs.ensures)

pub returns-in-Outputs : goal.returns-in-Outputs
returns-in-Outputs c = let x = next-as c.requires.next_is c.in-Outputs.is in
    go-outputs c.requires.naming_so_far.0 c.requires.naming_so_far.1 x c.copy_outputs.ensures c.copy_outputs.auto.out_names

pub returns-in-Latch : goal.returns-in-Latch
returns-in-Latch c = let x = next-as c.requires.next_is c.in-Latch.is in
    go-latch c.requires.naming_so_far.0 c.requires.naming_so_far.1 x c.define_latch.ensures c.define_latch.auto.blocks

pub returns-in-Cover : goal.returns-in-Cover
returns-in-Cover c = let x = next-as c.requires.next_is c.in-Cover.is in
    go-cover c.requires.naming_so_far.0 c.requires.naming_so_far.1 x c.define_cover.ensures c.define_cover.auto.blocks

pub returns-in-None : goal.returns-in-None
returns-in-None c = go-none c.requires.naming_so_far.0 c.requires.naming_so_far.1 (next-as c.requires.next_is c.in-None.is)
