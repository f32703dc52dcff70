use Rattle.lists.proofs.Range.{TestedTo}
use Rattle.network.specs.Net.{inputs_lower}
use Rattle.network.proofs.FittingRecords.{held_at}
use Rattle.network.proofs.is_topo_sorted.Given as goal

abbrev pub invariant-loop-g : goal.invariant-loop-g
invariant-loop-g l = TestedTo (λ i. inputs_lower i (held_at l.gates l.pins i)) l.n l.g
