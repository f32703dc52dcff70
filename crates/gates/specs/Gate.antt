-- Gates as data, and what a form makes of bits (document 01, src/network/gates.rs). Assumes nothing: these are definitions.
use Rattle.std.specs.Prelude.{◌≡◌, Bool, true, false, not, ◌&&◌, cond, List, [], ◌∷◌, get_or}
use Rattle.lists.specs.Lists.{all, any}
use Rattle.signal.specs.Signal.{Signal, zero_s, one_s, is_zero_s, is_one_s, invert_if}

-- the combinational forms with their types, in document 01's order: "Binary (And, Xor), Ternary (And, Xor, Maj, Mux),
-- Nary (And, Or, Nand, Nor, Xor, Xnor), Buf"
pub data Form : Type 0 where
  And2 Xor2 And3 Xor3 Maj3 Mux3 AndN OrN NandN NorN XorN XnorN Buf : Form

-- what feeds a flip-flop: "Dff (data, enable, reset)"
pub record FlipFlop : Type 0 where
  -- "takes the data"
  pub data_in : Signal
  -- "an enable of one"
  pub enable : Signal
  -- "a reset of one"
  pub reset : Signal
  -- what it holds before the first clock: "a flip-flop's start value, 0 or 1" (document 02, CR 4)
  pub start : Bool

-- a plain flip-flop: it takes the data at each clock
pub record PlainFlop (ff : FlipFlop) : Type 0 where
  -- its enable is one
  pub enable_one : ff.enable ≡ one_s
  -- its reset is zero
  pub reset_zero : ff.reset ≡ zero_s

-- a gate: a combinational form with its inputs in order, or a flip-flop
pub data Gate : Type 0 where
  Comb : Form → List Signal → Gate
  Dff : FlipFlop → Gate

-- a gate's inputs in order
abbrev pub pins : Gate → List Signal
pins (Comb f ps) = ps
pins (Dff ff) = ff.data_in ∷ ff.enable ∷ ff.reset ∷ []

-- whether a gate is no flip-flop, or a plain one
abbrev pub is_plain : Gate → Bool
is_plain (Comb f ps) = true
is_plain (Dff ff) = is_one_s ff.enable && is_zero_s ff.reset

-- what a gate holds before the first clock: "a flip-flop's start value, 0 or 1, and else zero"
abbrev pub start_bit : Gate → Bool
start_bit (Comb f ps) = false
start_bit (Dff ff) = ff.start

-- "Every form but Dff is combinational"
abbrev pub is_comb : Gate → Bool
is_comb (Comb f ps) = true
is_comb (Dff ff) = false

-- ---- what a form makes of its inputs' bits

-- all ones; of nothing it is one
abbrev pub all_of : List Bool → Bool
all_of bs = all (λ b. b) bs

-- a one among them; of nothing it is zero
abbrev pub any_of : List Bool → Bool
any_of bs = any (λ b. b) bs

-- "Xor an odd number" of ones
abbrev pub odd : List Bool → Bool
odd [] = false
odd (b ∷ bs) = invert_if b (odd bs)

-- "Maj wants two ones or more"
abbrev pub at_least_two : List Bool → Bool
at_least_two [] = false
at_least_two (true ∷ bs) = any_of bs
at_least_two (false ∷ bs) = at_least_two bs

-- "Mux is first ? second : third"
abbrev pub mux : List Bool → Bool
mux bs = cond (get_or bs 0 false) (get_or bs 1 false) (get_or bs 2 false)

-- "a combinational gate's what its form makes of its inputs' bits"; "And, Nor and Xnor of nothing are one; Or, Nand and Xor of nothing
-- are zero"
abbrev pub form_bit : Form → List Bool → Bool
form_bit And2 bs = all_of bs
form_bit Xor2 bs = odd bs
form_bit And3 bs = all_of bs
form_bit Xor3 bs = odd bs
form_bit Maj3 bs = at_least_two bs
form_bit Mux3 bs = mux bs
form_bit AndN bs = all_of bs
form_bit OrN bs = any_of bs
form_bit NandN bs = not (all_of bs)
form_bit NorN bs = not (any_of bs)
form_bit XorN bs = odd bs
form_bit XnorN bs = not (odd bs)
form_bit Buf bs = get_or bs 0 false
