-- Plain flip-flops, by the test and by their signals. Assumes nothing.
use mathlib.Core.Path.{◌≡◌, refl, ap₂}
use mathlib.Core.Bool.{Bool, true, false, ◌&&◌, not, false≢true}
use Rattle.lists.proofs.Tests.{and_left, and_right}
use Rattle.signal.specs.Signal.{Node, Const, Input, Var, Signal, zero_s, one_s, const_node, is_zero_s, is_one_s}
use Rattle.gates.specs.Gate.{FlipFlop, PlainFlop, Dff, is_plain}

one-is : (n : Node) (i : Bool) → (const_node n && i) ≡ true → ◌≡◌ {A = Signal} (record { node = n; inv = i }) one_s
one-is Const true t = refl
one-is Const false t = absurd (false≢true t)
one-is (Input v) i t = absurd (false≢true t)
one-is (Var v) i t = absurd (false≢true t)

zero_is : (n : Node) (i : Bool) → (const_node n && not i) ≡ true → ◌≡◌ {A = Signal} (record { node = n; inv = i }) zero_s
zero_is Const true t = absurd (false≢true t)
zero_is Const false t = refl
zero_is (Input v) i t = absurd (false≢true t)
zero_is (Var v) i t = absurd (false≢true t)

pub plain-flop : (ff : FlipFlop) → is_plain (Dff ff) ≡ true → PlainFlop ff
plain-flop ff t = record {
  enable_one = one-is ff.enable.node ff.enable.inv (and_left (is_one_s ff.enable) (is_zero_s ff.reset) t);
  reset_zero = zero_is ff.reset.node ff.reset.inv (and_right (is_one_s ff.enable) (is_zero_s ff.reset) t);
}

pub flop-plain : (ff : FlipFlop) → PlainFlop ff → is_plain (Dff ff) ≡ true
flop-plain ff p = ap₂ (λ (e r : Signal). is_one_s e && is_zero_s r) p.enable_one p.reset_zero
