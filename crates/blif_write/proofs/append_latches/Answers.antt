-- `append_latches` passes one gate after the other. Assumes nothing.
use Rattle.blif_write_names.proofs.Laws.{append-past}
use Rattle.blif_write_names.proofs.Parts.{going-full, before-start, before-part, before-done}
use Rattle.blif_write.proofs.Walks.{latch-parts}
use Rattle.blif_write.proofs.append_latches.Goals as goal

pub returns-then-at-out : goal.returns-then-at-out
returns-then-at-out c = append-past c.if-at-out.true

pub loop-g-init : goal.loop-g-init
loop-g-init c = before-start c.if-at-out.false

pub returns-then-end-out : goal.returns-then-end-out
returns-then-end-out c = going-full c.loop-g.invariant.going c.if-end-out.true

pub loop-g-preserved : goal.loop-g-preserved
loop-g-preserved c = before-part (latch-parts _ _ _) c.loop-g.invariant c.loop-g-test.true c.if-end-out.false c.write_latch_at-end.ensures

pub returns : goal.returns
returns c = before-done (latch-parts _ _ _) c.loop-g.invariant c.loop-g-test.false
