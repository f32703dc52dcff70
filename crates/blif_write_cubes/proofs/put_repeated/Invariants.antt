use Prim.Native.Nat.{◌-◌}
use lib.ListN.{replicate}
use Rattle.blif_write_names.proofs.Parts.{Putting}
use Rattle.blif_write_cubes.proofs.put_repeated.Given as goal

abbrev pub invariant-loop-i : goal.invariant-loop-i
invariant-loop-i l = Putting (replicate l.num_vars l.column) l.initial.out (replicate (l.num_vars - l.i) l.column) l.out l.i
