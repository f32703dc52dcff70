-- `move_outputs` renumbers one output after the other. Assumes nothing.
use mathlib.Core.Path.{◌∙◌}
use Rattle.sort.proofs.Moving.{renaming-start, renaming-next, renaming-done}
use Rattle.sort.proofs.move_outputs.Goals as goal

pub loop-output-init : goal.loop-output-init
loop-output-init c = renaming-start

pub loop-output-preserved : goal.loop-output-preserved
loop-output-preserved c = renaming-next c.loop-output-test.true (c.raw.ensures ∙ c.remap_order.ensures) c.loop-output.invariant

pub returns : goal.returns
returns c = renaming-done c.args.outs c.args.outputs.now c.loop-output-test.false c.loop-output.invariant
