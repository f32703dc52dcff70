-- `lower_uses` lowers one pin after the other. Assumes nothing.
use Rattle.sort.proofs.Stack.{lowering-asks, lowering-next}
use Rattle.sort.proofs.lower_uses.Goals as goal

pub lower_use-new_top-requires : goal.lower_use-new_top-requires
lower_use-new_top-requires c = let h = c.loop-pin.invariant in
    record { counts_len = (h.counts-long, h.stack-long); lowers = lowering-asks c.loop-pin-test.true h }

pub loop-pin-preserved : goal.loop-pin-preserved
loop-pin-preserved c = lowering-next c.loop-pin-test.true c.loop-pin.invariant c.lower_use-new_top.auto.counts c.lower_use-new_top.auto.stack c.lower_use-new_top.ensures.lowered c.lower_use-new_top.ensures.rises
