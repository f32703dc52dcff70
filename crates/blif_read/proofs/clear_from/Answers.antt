-- `clear_from` fills the part from the place on. Assumes nothing.
use Rattle.blif_read.proofs.Lending.{clear-part, clear_none}
use Rattle.blif_read.proofs.clear_from.Goals as goal

pub returns-then-at-cells : goal.returns-then-at-cells
returns-then-at-cells c = clear-part _ _ _ c.if-at-cells.true c.fill_zero.ensures

pub returns-else-at-cells : goal.returns-else-at-cells
returns-else-at-cells c = clear_none _ _ c.if-at-cells.false
