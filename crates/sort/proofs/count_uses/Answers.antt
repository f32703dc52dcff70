-- `count_uses` counts one gate after the other. Assumes nothing.
use Rattle.sort.proofs.Uses.{counted_start, counted-asks, counted_next, counted-done}
use Rattle.sort.proofs.count_uses.Goals as goal

pub loop-g-init : goal.loop-g-init
loop-g-init c = counted_start c.requires.counts_value

pub count_gate-requires : goal.count_gate-requires
count_gate-requires c = let l = c.loop-g-test.true in
    record { has_run = c.requires.cells.runs _ l; countable = counted-asks c.requires.cells l c.loop-g.invariant }

pub loop-g-preserved : goal.loop-g-preserved
loop-g-preserved c = counted_next c.requires.cells c.loop-g-test.true c.loop-g.invariant c.count_gate.auto.counts c.count_gate.ensures.raised c.count_gate.ensures.rises

pub returns : goal.returns
returns c = let r = counted-done c.loop-g-test.false c.loop-g.invariant in record { counted = r.0; within = r.1 }
