use lib.ListN.{drop}
use Rattle.blif_write_names.proofs.Parts.{Putting}
use Rattle.blif_write_names.proofs.copy.Given as goal

abbrev pub invariant-loop-i : goal.invariant-loop-i
invariant-loop-i l = Putting l.bytes l.initial.out (drop l.i l.bytes) l.out l.i
