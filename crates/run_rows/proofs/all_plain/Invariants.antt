use Rattle.lists.proofs.Range.{TestedTo}
use Rattle.gates.specs.Gate.{is_plain}
use Rattle.network.proofs.FittingRecords.{held_at}
use Rattle.run_rows.proofs.all_plain.Given as goal

abbrev pub invariant-loop-g : goal.invariant-loop-g
invariant-loop-g l = TestedTo (λ i. is_plain (held_at l.gates l.pins i)) l.n l.g
