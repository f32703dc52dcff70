use Rattle.blif_write_names.proofs.Parts.{Before}
use Rattle.blif_write_cubes.specs.Between.Lines.{minterms_from}
use Rattle.blif_write_cubes.proofs.write_masks.Given as goal

abbrev pub invariant-loop-mask : goal.invariant-loop-mask
invariant-loop-mask l = Before (minterms_from l.parity l.num_vars) l.count l.initial.out 0 l.out l.at l.mask
