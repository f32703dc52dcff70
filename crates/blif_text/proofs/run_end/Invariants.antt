use Rattle.blif_text.specs.Between.Scan.{other_than, NoneTo}
use Rattle.blif_text.proofs.run_end.Given as goal

abbrev pub invariant-loop-i : goal.invariant-loop-i
invariant-loop-i l = NoneTo (other_than l.byte) l.text l.at l.i
