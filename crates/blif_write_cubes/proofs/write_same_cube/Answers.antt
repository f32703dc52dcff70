-- `write_same_cube` writes the columns and the output. Assumes nothing.
use Rattle.blif_write_cubes.specs.Between.Lines.{same_cube}
use Rattle.blif_write_names.proofs.Laws.{and-append, from_start, to_start}
use Rattle.blif_write_cubes.proofs.write_same_cube.Goals as goal

pub returns : goal.returns
unfolding same_cube
returns c = from_start (and-append (to_start c.put_repeated-at.ensures) c.append_output.ensures)
