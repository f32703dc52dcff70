use Prim.Native.Nat.{◌+◌, ◌≤◌}
use lib.ListN.{length}
use Rattle.blif_text.specs.Between.Places.{is_first}
use Rattle.blif_text.specs.Between.Scan.{NoneTo}
use Rattle.blif_text.proofs.row_end.Given as goal

abbrev pub invariant-loop-i : goal.invariant-loop-i
invariant-loop-i l = NoneTo is_first l.cells (l.at + 1) l.i × (l.i ≤ length l.cells)
