-- `add_uses` counts one pin after the other. Assumes nothing.
use Rattle.sort.proofs.Naming.{counting-asks, counting-next}
use Rattle.sort.proofs.add_uses.Goals as goal

pub add_use-requires : goal.add_use-requires
add_use-requires c = counting-asks c.loop-pin-test.true c.loop-pin.invariant

pub loop-pin-preserved : goal.loop-pin-preserved
loop-pin-preserved c = counting-next c.loop-pin-test.true c.loop-pin.invariant c.add_use.auto.counts c.add_use.ensures.raised c.add_use.ensures.rises
