-- `read_cells` tests the lent cells first. Assumes nothing.
use mathlib.Core.Path.{sym, ◌∙◌}
use Rattle.blif_read.proofs.Lending.{enough-cells}
use Rattle.blif_read.proofs.read_cells.Goals as goal

pub read_text-requires : goal.read_text-requires
read_text-requires c = enough-cells _ _ _ _ _ (sym c.enough_cells.ensures ∙ c.if-enough_cells.true)
