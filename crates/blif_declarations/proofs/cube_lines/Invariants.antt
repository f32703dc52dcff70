use Prim.Native.Nat.{◌-◌}
use lib.ListN.{length}
use Rattle.blif_declarations.proofs.LineWalk.{Passed}
use Rattle.blif_declarations.proofs.cube_lines.Given as goal

abbrev pub invariant-loop-i : goal.invariant-loop-i
invariant-loop-i l = Passed l.text l.tokens (length l.tokens) l.at l.count l.i

abbrev pub decreases-loop-i : goal.decreases-loop-i
decreases-loop-i l = length l.tokens - l.i
