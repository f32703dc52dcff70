use Rattle.run_rows.proofs.LayingOut.{Listing}
use Rattle.run_rows.proofs.list_flops.Given as goal

abbrev pub invariant-loop-g : goal.invariant-loop-g
invariant-loop-g l = Listing l.gates l.n l.initial.flops l.flops l.k l.g
