-- `any_wide` tests one gate's record after the other. Assumes nothing.
use borrow.Author.Rules.{rules}
use Rattle.blif_write.proofs.Walks.{narrow_next}
use Rattle.blif_write.proofs.any_wide.Goals as goal

pub loop-g-preserved : goal.loop-g-preserved
loop-g-preserved c = search (narrow_next, rules)
