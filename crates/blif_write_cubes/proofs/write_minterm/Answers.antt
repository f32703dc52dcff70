-- `write_minterm` writes a line or nothing. Assumes nothing.
use Rattle.blif_write_names.proofs.Laws.{wrote_nothing, as-wrote}
use Rattle.blif_write_cubes.proofs.Lines.{minterm-other, minterm-is}
use Rattle.blif_write_cubes.proofs.write_minterm.Goals as goal

pub returns-then-mask-parity : goal.returns-then-mask-parity
returns-then-mask-parity c = as-wrote (minterm-is c.args.parity c.args.num_vars c.args.mask c.if-mask-parity.true) c.write_blif_cube.ensures

pub returns-else-mask-parity : goal.returns-else-mask-parity
returns-else-mask-parity c = as-wrote (minterm-other c.args.parity c.args.num_vars c.args.mask c.if-mask-parity.false) wrote_nothing
