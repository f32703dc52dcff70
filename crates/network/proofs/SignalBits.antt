-- The bit of an inverted signal. Assumes nothing.
use mathlib.Core.Path.{◌≡◌, refl}
use mathlib.Core.Bool.{Bool, true, false, not}
use mathlib.Core.List.{List}
use Prim.Native.Nat.{ℕ}
use Rattle.signal.specs.Signal.{Signal, invert_if, invert}
use Rattle.network.specs.Clock.{node_bit, sig_bit}

not-invert_if : (i b : Bool) → invert_if (not i) b ≡ not (invert_if i b)
not-invert_if false b = refl
not-invert_if true false = refl
not-invert_if true true = refl

-- "Inversion turns a bit over"
pub invert-bit : (row : List Bool) (bits : ℕ → Bool) (s : Signal) → sig_bit row bits (invert s) ≡ not (sig_bit row bits s)
invert-bit row bits s = not-invert_if s.inv (node_bit row bits s.node)
