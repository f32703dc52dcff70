-- `write_masks` passes one mask after the other. Assumes nothing.
use Rattle.blif_write_names.proofs.Parts.{going-full, before-part}
use Rattle.blif_write_cubes.proofs.Lines.{mask-parts, all-masks}
use Rattle.blif_write_cubes.proofs.write_masks.Goals as goal

pub returns-then-at-out : goal.returns-then-at-out
returns-then-at-out c = all-masks _ _ c.requires (going-full c.loop-mask.invariant.going c.if-at-out.true)

pub loop-mask-preserved : goal.loop-mask-preserved
loop-mask-preserved c = before-part (mask-parts _ _ _) c.loop-mask.invariant c.loop-mask-test.true c.if-at-out.false c.write_minterm-at.ensures
