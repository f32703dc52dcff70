use Rattle.signal.specs.Cell.{node_of}
use Rattle.lists.proofs.Range.{PassedTo}
use Rattle.network.specs.Cells.{valid_node}
use Rattle.network.proofs.all_valid.Given as goal

abbrev pub invariant-loop-cell : goal.invariant-loop-cell
invariant-loop-cell l = PassedTo (λ c. valid_node l.inputs l.gates (node_of c)) l.cells l.valid l.cell-index
