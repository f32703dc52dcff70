-- `visit_all` visits until the stack is empty. Assumes nothing.
use native.Mathlib.Omega.{arith}
use Rattle.sort.proofs.Visiting.{walking_start, walking-next, walking-end, next-budget}
use Rattle.sort.proofs.visit_all.Goals as goal

pub loop-place-init : goal.loop-place-init
loop-place-init c = (walking_start c.requires.cells.valid c.requires.begins c.requires.cells.few, c.requires.within)

pub loop-place-smaller : goal.loop-place-smaller
loop-place-smaller c = let w = c.loop-place.invariant.0 in
    omega (
      arith,
      next-budget c.requires.cells.valid c.requires.cells.few (omega (arith, c.loop-place-test.true)) w (rw w.same at c.visit-place.ensures.visited),
    )

pub loop-place-preserved : goal.loop-place-preserved
loop-place-preserved c = let w = c.loop-place.invariant.0 in (
  walking-next c.requires.cells.valid c.requires.cells.few (omega (arith, c.loop-place-test.true)) w (rw w.same at c.visit-place.ensures.visited)
      c.visit-place.auto.counts c.visit-place.auto.marks c.visit-place.auto.stack c.visit-place.auto.order,
  rw w.same at c.visit-place.ensures.within_2,
)

pub returns : goal.returns
returns c = record { recorded = walking-end c.loop-place-test.false c.loop-place.invariant.0; within_2 = c.loop-place.invariant.1 }
