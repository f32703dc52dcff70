-- `copy_cells` copies one cell after the other. Assumes nothing.
use mathlib.Core.Path.{refl}
use native.Mathlib.Omega.{arith}
use lib.ListN.{drop_of_length-le}
use Rattle.lists.proofs.Laying.{laying-start, laying-next, laying-done}
use Rattle.lists.proofs.Places.{drop-next}
use Rattle.lists.proofs.copy_cells.Goals as goal

pub loop-i-init : goal.loop-i-init
loop-i-init c = laying-start refl (omega arith)

pub bounds-to-at : goal.bounds-to-at
bounds-to-at c = omega (arith, c.loop-i.invariant.kept)

pub loop-i-preserved : goal.loop-i-preserved
loop-i-preserved c = laying-next c.loop-i.invariant (drop-next _ _ 0 c.loop-i-test.true) (omega arith)

pub shape_of-to : goal.shape_of-to
shape_of-to c = c.loop-i.invariant.kept

pub returns : goal.returns
returns c = laying-done c.loop-i.invariant (drop_of_length-le _ c.loop-i-test.false)
