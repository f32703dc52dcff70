use Prim.Native.Nat.{◌-◌}
use lib.ListN.{length}
use Rattle.blif_text.proofs.RefusalLaws.{Passing}
use Rattle.blif_text.proofs.first_bad.Given as goal

abbrev pub invariant-loop-at : goal.invariant-loop-at
invariant-loop-at l = Passing l.text l.cells (length l.cells) l.at

abbrev pub decreases-loop-at : goal.decreases-loop-at
decreases-loop-at l = length l.cells - l.at
