-- What a flip-flop does at a clock, a law for each part of document 01's sentence: "a reset of one gives zero, else an enable of
-- one takes the data, else the value is held". Assumes nothing.
use mathlib.Core.Path.{◌≡◌, ap, ap₂, ◌∙◌}
use mathlib.Core.Bool.{Bool, true, false, cond}
use mathlib.Core.List.{List}
use Prim.Native.Nat.{ℕ}
use Rattle.signal.specs.Signal.{Signal}
use Rattle.gates.specs.Gate.{Form, FlipFlop, Comb, Dff}
use Rattle.network.specs.Net.{Net, GateIs}
use Rattle.network.specs.Clock.{Clock, sig_bit}

module _ {net : Net} {held next : ℕ → Bool} {row out : List Bool} (c : Clock net held row out next) where
  -- the bit that a signal has at this clock
  abbrev pub now : Signal → Bool
  now = sig_bit row c.bits

  module _ {g : ℕ} {s : FlipFlop} (is : GateIs net g (Dff s)) where
    -- "A flip-flop's bit is its held one"
    pub shows-held : c.bits g ≡ held g
    shows-held = c.fits g (Dff s) is

    -- "a reset of one gives zero", whatever enable and data are
    pub reset-clears : now s.reset ≡ true → next g ≡ false
    reset-clears r = c.steps g (Dff s) is ∙ ap (λ (b : Bool). cond b false (cond (now s.enable) (now s.data_in) (held g))) r

    -- "else an enable of one takes the data"
    pub enable-takes : now s.reset ≡ false → now s.enable ≡ true → next g ≡ now s.data_in
    enable-takes r e = c.steps g (Dff s) is ∙ ap₂ (λ (b d : Bool). cond b false (cond d (now s.data_in) (held g))) r e

    -- "else the value is held"
    pub else-holds : now s.reset ≡ false → now s.enable ≡ false → next g ≡ held g
    else-holds r e = c.steps g (Dff s) is ∙ ap₂ (λ (b d : Bool). cond b false (cond d (now s.data_in) (held g))) r e

  -- "nothing else changes a held bit"
  pub others_keep : {g : ℕ} {f : Form} {ps : List Signal} → GateIs net g (Comb f ps) → next g ≡ held g
  others_keep {g} {f} {ps} is = c.steps g (Comb f ps) is
