-- `copy_record` copies the cells of a record and changes its first pin. Assumes nothing.
use Rattle.network.proofs.LaidGates.{copied}
use Rattle.network.proofs.copy_record.Goals as goal

pub returns : goal.returns
returns c = copied c.requires.0 _ _ _ c.copy_cells.ensures
