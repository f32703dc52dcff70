use Prim.Native.Nat.{◌+◌}
use lib.ListN.{drop}
use Rattle.lists.proofs.Laying.{Laying}
use Rattle.lists.proofs.copy_cells.Given as goal

-- `copy_cells` copies one cell after the other. Assumes nothing.
abbrev pub invariant-loop-i : goal.invariant-loop-i
invariant-loop-i l = Laying l.cells l.initial.to l.at (drop l.i l.cells) l.to (l.at + l.i)
