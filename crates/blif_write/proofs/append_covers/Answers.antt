-- `append_covers` passes one gate after the other. Assumes nothing.
use Rattle.blif_write_names.proofs.Laws.{append-past}
use Rattle.blif_write_names.proofs.Parts.{going-full, before-start, before-part, before-done}
use Rattle.blif_write.proofs.Walks.{cover-parts, not_wide}
use Rattle.blif_write.proofs.append_covers.Goals as goal

pub returns-then-at-out : goal.returns-then-at-out
returns-then-at-out c = append-past c.if-at-out.true

pub loop-g-init : goal.loop-g-init
loop-g-init c = before-start c.if-at-out.false

pub returns-then-end-out : goal.returns-then-end-out
returns-then-end-out c = going-full c.loop-g.invariant.going c.if-end-out.true

pub write_cover_at-end-requires : goal.write_cover_at-end-requires
write_cover_at-end-requires c = let h = c.requires.0.read _ c.loop-g-test.true in (h, not_wide h c.requires.1 c.loop-g-test.true)

pub loop-g-preserved : goal.loop-g-preserved
loop-g-preserved c = before-part (cover-parts _ _ _) c.loop-g.invariant c.loop-g-test.true c.if-end-out.false c.write_cover_at-end.ensures

pub returns : goal.returns
returns c = before-done (cover-parts _ _ _) c.loop-g.invariant c.loop-g-test.false
