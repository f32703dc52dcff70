-- `copy` copies one byte after the other. Assumes nothing.
use native.Mathlib.Omega.{arith}
use mathlib.Core.Path.{refl}
use lib.ListN.{drop_of_length-le}
use Rattle.lists.proofs.Places.{drop-next}
use Rattle.blif_write_names.proofs.Parts.{putting-start, putting-kept, putting-next, putting-done}
use Rattle.blif_write_names.proofs.copy.Goals as goal

pub loop-i-init : goal.loop-i-init
loop-i-init c = putting-start refl

pub bounds-out-i : goal.bounds-out-i
bounds-out-i c = omega (arith, putting-kept c.loop-i.invariant, c.requires)

pub loop-i-preserved : goal.loop-i-preserved
loop-i-preserved c = putting-next c.loop-i.invariant (drop-next _ _ 0 c.loop-i-test.true) (omega (arith, putting-kept c.loop-i.invariant, c.requires, c.loop-i-test.true))

pub shape_of-out : goal.shape_of-out
shape_of-out c = putting-kept c.loop-i.invariant

pub returns : goal.returns
returns c = (putting-done c.loop-i.invariant (drop_of_length-le _ c.loop-i-test.false)).out
