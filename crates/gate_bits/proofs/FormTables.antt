-- The tables say what the forms make of up to six bits: one computed test over all forms and all lists of at most six bits. Only a Nary form
-- can have more. Assumes nothing.
use mathlib.Core.Path.{◌≡◌, refl, sym}
use mathlib.Core.Bool.{Bool, true, false, not, ◌&&◌, ◌||◌, beq, false≢true}
use mathlib.Core.List.{List, [], ◌∷◌}
use Prim.Native.Nat.{ℕ, zero, suc, ◌≤◌, ◌<◌}
use native.Mathlib.Omega.{arith}
use lib.Dec.{eqb}
use lib.ListN.{length}
use borrow.Author.Tests.{eqb-true}
use Rattle.lists.proofs.Tests.{and_left, and_right}
use Rattle.gates.specs.Gate.{Form, And2, Xor2, And3, Xor3, Maj3, Mux3, AndN, OrN, NandN, NorN, XorN, XnorN, Buf, form_bit}
use Rattle.gates.specs.Forms.{can_have}
use Rattle.gates.specs.Between.Forms.{kind_of_form}
use Rattle.gate_bits.specs.Between.Tables.{truth_bit, form_table, form_pad, padded, kind_table, kind_pad, wide_bit}

-- ---- every short list of bits

-- whether every list of at most n bits passes the test
abbrev all_lists : ℕ → (List Bool → Bool) → Bool
all_lists zero p = p []
all_lists (suc n) p = p [] && (all_lists n (λ bs. p (false ∷ bs)) && all_lists n (λ bs. p (true ∷ bs)))

lists-pass : (n : ℕ) (p : List Bool → Bool) → all_lists n p ≡ true → (bs : List Bool) → length bs ≤ n → p bs ≡ true
lists-pass zero p t [] h = t
lists-pass zero p t (b ∷ bs) h = absurd (omega arith)
lists-pass (suc n) p t [] h = and_left (p []) _ t
lists-pass (suc n) p t (false ∷ bs) h = lists-pass n (λ l. p (false ∷ l)) (and_left _ _ (and_right (p []) _ t)) bs (omega arith)
lists-pass (suc n) p t (true ∷ bs) h = lists-pass n (λ l. p (true ∷ l)) (and_right (all_lists n (λ l. p (false ∷ l))) _ (and_right (p []) _ t)) bs (omega arith)

-- ---- every form

-- what the form's table makes of bits, those that are not there being the pad
abbrev tabled : Form → List Bool → Bool
tabled f bs = truth_bit (form_table f) (padded 6 (eqb (form_pad f) 1) bs)

-- the table says what the form makes of these bits, if it can have so many
abbrev agrees : Form → List Bool → Bool
agrees f bs = not (can_have f (length bs)) || beq (tabled f bs) (form_bit f bs)

-- the computed tests of a form, and what it makes of more than six bits
record Computed (f : Form) : Type 0 where
  short : all_lists 6 (agrees f) ≡ true
  table : kind_table (kind_of_form f) ≡ form_table f
  pad : kind_pad (kind_of_form f) ≡ form_pad f
  wide : (bs : List Bool) → 6 < length bs → can_have f (length bs) ≡ true → wide_bit (kind_of_form f) bs ≡ form_bit f bs

-- a form that has n inputs, at most six, has no more
few : (f : Form) (n : ℕ) → n ≤ 6 → (bs : List Bool) → 6 < length bs → eqb (length bs) n ≡ true → false ≡ form_bit f bs
few f n h bs l t = absurd (omega (arith, eqb-true (length bs) n t))

computed : (f : Form) → Computed f
computed And2 = record { short = refl; table = refl; pad = refl; wide = few And2 2 (omega arith) }
computed Xor2 = record { short = refl; table = refl; pad = refl; wide = few Xor2 2 (omega arith) }
computed And3 = record { short = refl; table = refl; pad = refl; wide = few And3 3 (omega arith) }
computed Xor3 = record { short = refl; table = refl; pad = refl; wide = few Xor3 3 (omega arith) }
computed Maj3 = record { short = refl; table = refl; pad = refl; wide = few Maj3 3 (omega arith) }
computed Mux3 = record { short = refl; table = refl; pad = refl; wide = few Mux3 3 (omega arith) }
computed AndN = record { short = refl; table = refl; pad = refl; wide = λ bs l t. refl }
computed OrN = record { short = refl; table = refl; pad = refl; wide = λ bs l t. refl }
computed NandN = record { short = refl; table = refl; pad = refl; wide = λ bs l t. refl }
computed NorN = record { short = refl; table = refl; pad = refl; wide = λ bs l t. refl }
computed XorN = record { short = refl; table = refl; pad = refl; wide = λ bs l t. refl }
computed XnorN = record { short = refl; table = refl; pad = refl; wide = λ bs l t. refl }
computed Buf = record { short = refl; table = refl; pad = refl; wide = few Buf 1 (omega arith) }

agrees-is : (h a b : Bool) → (not h || beq a b) ≡ true → h ≡ true → a ≡ b
agrees-is true true true t e = refl
agrees-is true true false t e = sym t
agrees-is true false true t e = t
agrees-is true false false t e = refl
agrees-is false a b t e = absurd (false≢true e)

pub table-form : (f : Form) (bs : List Bool) → length bs ≤ 6 → can_have f (length bs) ≡ true → truth_bit (form_table f) (padded 6 (eqb (form_pad f) 1) bs) ≡ form_bit f bs
table-form f bs h t = agrees-is (can_have f (length bs)) (tabled f bs) (form_bit f bs) (lists-pass 6 (agrees f) (computed f).short bs h) t

pub kind-table : (f : Form) → kind_table (kind_of_form f) ≡ form_table f
kind-table f = (computed f).table

pub kind-pad : (f : Form) → kind_pad (kind_of_form f) ≡ form_pad f
kind-pad f = (computed f).pad

pub wide_form : (f : Form) (bs : List Bool) → 6 < length bs → can_have f (length bs) ≡ true → wide_bit (kind_of_form f) bs ≡ form_bit f bs
wide_form f = (computed f).wide
