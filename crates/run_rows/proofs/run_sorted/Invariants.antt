use mathlib.Core.Path.{◌≡◌}
use Prim.Native.Nat.{◌-◌}
use lib.ListN.{length}
use Rattle.network.specs.Cells.{cell_net}
use Rattle.run_rows.proofs.Clocking.{Clocking}
use Rattle.run_rows.proofs.run_sorted.Given as goal

abbrev pub invariant-loop-at : goal.invariant-loop-at
invariant-loop-at l = (length l.next ≡ 1024) × Clocking (cell_net l.inputs l.gates l.pins l.n l.outputs) l.gates l.n l.rows l.initial.out l.out l.bits l.at l.to

abbrev pub decreases-loop-at : goal.decreases-loop-at
decreases-loop-at l = length l.rows - l.at
