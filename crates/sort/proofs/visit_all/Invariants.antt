use lib.ListN.{length}
use Rattle.network.specs.Cells.{pins_below}
use Rattle.sort_order.proofs.Walk.{budget}
use Rattle.sort.specs.Between.Steps.{cell_graph, from_top, Within}
use Rattle.sort.proofs.Visiting.{Walking}
use Rattle.sort.proofs.visit_all.Given as goal

abbrev pub invariant-loop-place : goal.invariant-loop-place
invariant-loop-place l = Walking (cell_graph l.gates l.pins (length l.initial.order)) l.initial.order l.counts l.marks l.stack l.place.top l.order l.place.at × Within (pins_below l.gates (length l.initial.order)) l.counts

abbrev pub decreases-loop-place : goal.decreases-loop-place
decreases-loop-place l = budget (cell_graph l.gates l.pins (length l.initial.order)) l.counts (from_top l.place.top l.stack)
