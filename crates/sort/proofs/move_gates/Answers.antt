-- `move_gates` copies one gate after the other. Assumes nothing.
use Rattle.sort.proofs.Moving.{moving-next, moving-done}
use Rattle.sort.proofs.move_gates.Goals as goal

pub loop-i-preserved : goal.loop-i-preserved
loop-i-preserved c = moving-next c.requires c.loop-i-test.true c.loop-i.invariant c.move_gate-at.ensures

pub returns : goal.returns
returns c = moving-done c.loop-i-test.false c.loop-i.invariant
