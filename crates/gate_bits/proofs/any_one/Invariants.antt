use mathlib.Core.Bool.{false}
use Prim.Native.Nat.{◌-◌}
use lib.ListN.{length}
use Rattle.lists.specs.Lists.{any}
use Rattle.signal.specs.Signal.{invert_if}
use Rattle.gate_bits.proofs.PinBits.{MadeOf}
use Rattle.gate_bits.proofs.any_one.Given as goal

abbrev pub invariant-loop-at : goal.invariant-loop-at
invariant-loop-at l = MadeOf (any (invert_if l.inverted)) l.bits l.run false l.at

abbrev pub decreases-loop-at : goal.decreases-loop-at
decreases-loop-at l = length l.run - l.at
