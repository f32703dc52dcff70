-- `all_valid` tests one cell after the other. Assumes nothing.
use Rattle.lists.proofs.Range.{passed-done}
use Rattle.network.specs.Cells.{all_valid}
use Rattle.network.proofs.all_valid.Goals as goal

pub returns : goal.returns
unfolding all_valid
returns c = passed-done 0 c.loop-cell.invariant c.loop-cell-test.false
