-- Sizes within their limits. Assumes nothing.
use mathlib.Core.Path.{◌≡◌}
use mathlib.Core.Bool.{Bool, false, ◌||◌}
use Prim.Native.Nat.{ℕ}
use lib.Dec.{ltb}
use borrow.Author.Tests.{le-ltb, ltb-false}
use Rattle.lists.proofs.Tests.{or_left, or_right}
use Rattle.network.specs.Sizes.{max_inputs, max_outputs, max_gates, max_pins, over_sizes}
use Rattle.network.specs.Between.Sizes.{WithinSizes}

-- each size is within its limit where none is passed
pub not-over : (i o g p : ℕ) → over_sizes i o g p ≡ false → WithinSizes i o g p
not-over i o g p e =
    let a : Bool = ltb max_inputs i in
    let b : Bool = ltb max_outputs o in
    let c : Bool = ltb max_gates g in
    let d : Bool = ltb max_pins p in
    let abc = or_left (a || b || c) d e in
    let ab = or_left (a || b) c abc in
    record {
      inputs = ltb-false max_inputs i (or_left a b ab);
      outputs = ltb-false max_outputs o (or_right a b ab);
      gates = ltb-false max_gates g (or_right (a || b) c abc);
      pins = ltb-false max_pins p (or_right (a || b || c) d e);
    }

-- no size is passed where each is within its limit
pub within-over : (i o g p : ℕ) → WithinSizes i o g p → over_sizes i o g p ≡ false
within-over i o g p w = rw (le-ltb max_inputs i w.inputs, le-ltb max_outputs o w.outputs, le-ltb max_gates g w.gates, le-ltb max_pins p w.pins)
