-- `append_row` writes the columns and the output. Assumes nothing.
use Rattle.blif_write_names.proofs.Laws.{and-append}
use Rattle.blif_write_cubes.proofs.append_row.Goals as goal

pub returns : goal.returns
returns c = and-append c.append-end.ensures c.append_output.ensures
