-- Form numbers, pin counts and start values (document 01, src/network/gates.rs): "In lent cells these are the form numbers 1 to 14, in this order".
-- Assumes nothing: these are definitions.
use Rattle.std.specs.Prelude.{Bool, true, false, cond, List, [], ◌∷◌, ℕ, eqb, leb, length, if◌then◌else◌}
use Rattle.std.proofs.Math.Option.{Option, none, some}
use Rattle.std.proofs.Math.ListN.{get_elem?}
use Rattle.lists.specs.Lists.{filter, optional}
use Rattle.signal.specs.Signal.{Signal}
use Rattle.signal.specs.Cell.{bit_of}
use Rattle.gates.specs.Gate.{Form, And2, Xor2, And3, Xor3, Maj3, Mux3, AndN, OrN, NandN, NorN, XorN, XnorN, Buf, Gate, Comb, Dff, start_bit}

-- the number of a combinational form: "the form numbers 1 to 14, in this order"
abbrev pub form_number : Form → ℕ
form_number And2 = 1
form_number Xor2 = 2
form_number And3 = 3
form_number Xor3 = 4
form_number Maj3 = 5
form_number Mux3 = 6
form_number AndN = 7
form_number OrN = 8
form_number NandN = 9
form_number NorN = 10
form_number XorN = 11
form_number XnorN = 12
form_number Buf = 13

-- the number of Dff, the last
abbrev pub flop_number : ℕ
flop_number = 14

-- the number that a gate's form has in lent cells
abbrev pub form_cell : Gate → ℕ
form_cell (Comb f ps) = form_number f
form_cell (Dff ff) = flop_number

-- the cell of a gate's start value: "0 or 1, and else zero"
abbrev pub start_cell : Gate → ℕ
start_cell x = bit_of (start_bit x)

-- the pin counts that a form can have: two for Binary, three for Ternary, any for Nary ("Nary may have no inputs"), one for Buf
abbrev pub can_have : Form → ℕ → Bool
can_have And2 n = eqb n 2
can_have Xor2 n = eqb n 2
can_have And3 n = eqb n 3
can_have Xor3 n = eqb n 3
can_have Maj3 n = eqb n 3
can_have Mux3 n = eqb n 3
can_have AndN n = true
can_have OrN n = true
can_have NandN n = true
can_have NorN n = true
can_have XorN n = true
can_have XnorN n = true
can_have Buf n = eqb n 1

-- a gate with as many inputs as its form can have
abbrev pub formed : Gate → Bool
formed (Comb f ps) = can_have f (length ps)
formed (Dff ff) = true

-- ---- from a number

-- the combinational forms
abbrev pub forms : List Form
forms = And2 ∷ Xor2 ∷ And3 ∷ Xor3 ∷ Maj3 ∷ Mux3 ∷ AndN ∷ OrN ∷ NandN ∷ NorN ∷ XorN ∷ XnorN ∷ Buf ∷ []

-- the combinational form that has this number, if one has
abbrev pub form_of : ℕ → Option Form
form_of n = get_elem? (filter (λ f. eqb n (form_number f)) forms) 0

-- whether a gate of this form number can have so many pins: "an unknown form" cannot, and Dff has three
abbrev pub can_take : ℕ → ℕ → Bool
can_take n count = if eqb n flop_number then eqb count 3 else optional (λ f. can_have f count) false (form_of n)

-- whether a gate of this form number can have this start value: "a flip-flop's start value, 0 or 1, and else zero"
abbrev pub can_start : ℕ → ℕ → Bool
can_start n start = if eqb n flop_number then leb start 1 else eqb start 0

-- a combinational gate of these pins, if its form can have so many
abbrev pub comb_from : Form → List Signal → Option Gate
comb_from f ps = cond (can_have f (length ps)) (some (Comb f ps)) none

-- a flip-flop of a start value and three pins: data, enable, reset
abbrev pub flop_from : Bool → List Signal → Option Gate
flop_from v [] = none
flop_from v (d ∷ []) = none
flop_from v (d ∷ e ∷ []) = none
flop_from v (d ∷ e ∷ r ∷ []) = some (Dff (record { data_in = d; enable = e; reset = r; start = v }))
flop_from v (d ∷ e ∷ r ∷ s ∷ ps) = none

-- the gate of a form number and pins, a flip-flop with this start value; none for "an unknown form, a pin count its form cannot have"
abbrev pub gate_with : ℕ → ℕ → List Signal → Option Gate
gate_with n start ps = if eqb n flop_number then flop_from (eqb start 1) ps else optional (λ f. comb_from f ps) none (form_of n)

-- the same; none for a start value that the form cannot have
unfoldable pub gate_from : ℕ → ℕ → List Signal → Option Gate
gate_from n start ps = if can_start n start then gate_with n start ps else none
