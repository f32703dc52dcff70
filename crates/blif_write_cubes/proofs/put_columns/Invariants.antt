use Prim.Native.Nat.{◌-◌}
use Rattle.blif_write_names.proofs.Parts.{Putting}
use Rattle.blif_write_cubes.specs.Between.Lines.{mask_columns}
use Rattle.blif_write_cubes.proofs.put_columns.Given as goal

abbrev pub invariant-loop-i : goal.invariant-loop-i
invariant-loop-i l = Putting (mask_columns l.num_vars l.mask) l.initial.out (mask_columns (l.num_vars - l.i) l.left) l.out l.i
