-- `move_pins` copies one pin after the other. Assumes nothing.
use mathlib.Core.Path.{◌∙◌}
use Rattle.sort.proofs.Moving.{copying-next, copying-done}
use Rattle.sort.proofs.move_pins.Goals as goal

pub loop-i-preserved : goal.loop-i-preserved
loop-i-preserved c = copying-next c.loop-i-test.true (c.raw.ensures ∙ c.remap_order.ensures) c.loop-i.invariant

pub returns : goal.returns
returns c = copying-done c.loop-i-test.false c.loop-i.invariant
