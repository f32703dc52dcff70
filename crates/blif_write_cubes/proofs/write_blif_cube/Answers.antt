-- `write_blif_cube` writes the columns and the output. Assumes nothing.
use Rattle.blif_write_cubes.specs.Between.Lines.{cube_of}
use Rattle.blif_write_names.proofs.Laws.{and-append, from_start, to_start}
use Rattle.blif_write_cubes.proofs.write_blif_cube.Goals as goal

pub returns : goal.returns
unfolding cube_of
returns c = from_start (and-append (to_start c.put_columns-at.ensures) c.append_output.ensures)
