use Prim.Native.Nat.{◌-◌}
use lib.ListN.{length}
use Rattle.blif_read_sizes.proofs.Counting.{Counting}
use Rattle.blif_read_sizes.proofs.too_large.Given as goal

abbrev pub invariant-loop-at : goal.invariant-loop-at
invariant-loop-at l = Counting l.text l.tokens (length l.tokens) l.at l.sizes

abbrev pub decreases-loop-at : goal.decreases-loop-at
decreases-loop-at l = length l.tokens - l.at
