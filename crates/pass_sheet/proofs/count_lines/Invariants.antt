use Prim.Native.Nat.{◌-◌}
use lib.ListN.{length}
use Rattle.pass_sheet.proofs.Lines.{Counted}
use Rattle.pass_sheet.proofs.count_lines.Given as goal

abbrev pub invariant-loop-at : goal.invariant-loop-at
invariant-loop-at l = Counted l.text l.n l.at

abbrev pub decreases-loop-at : goal.decreases-loop-at
decreases-loop-at l = length l.text - l.at
