-- The code's `Gate` and the data `Gate`: a kind with its pins is the gate of its number and pins. Assumes nothing.
use Rattle.std.specs.Prelude.{Some, None}
use mathlib.Core.Path.{◌≡◌, refl, sym, ap, ◌∙◌}
use mathlib.Core.Bool.{Bool, true, false, ◌&&◌, false≢true, true≢false}
use mathlib.Core.List.{List, [], ◌∷◌, map}
use mathlib.Core.Option.{none, some}
use Prim.Native.Nat.{ℕ, suc, ◌+◌, ◌≤◌}
use native.Mathlib.Omega.{arith}
use lib.Dec.{eqb}
use lib.ListN.{length, get_or, take, drop, length-map}
use borrow.Author.Tests.{eqb-true, eq-eqb, le-leb}
use Rattle.lists.proofs.Tests.{by-test, and-false}
use Rattle.gates.proofs.Forms.{gate-kind, start-kind, binary-count, ternary-count}
use Rattle.signal.specs.Signal.{Signal}
use Rattle.signal.specs.Cell.{bit_of, sig_of}
use Rattle.gates.specs.Gate as data-gate
use Rattle.gates.specs.Gate.{Comb, Dff, Buf, is_comb}
use Rattle.gates.specs.Forms.{can_have, form_cell, start_cell, comb_from, flop_from, gate_with, gate_from}
use Rattle.gates.specs.Between.Forms.{binary_form, ternary_form, nary_form, kind_of, kind_takes, kind_starts, gate_of_kind, kind_number}
use Rattle.gates.specs.Between.Decode.{run_within, gate_in, start_in, decoded_in, kind_of_gate, kind_comb, kind_gate, with_pins}
use Rattle.gates.specs.declared.Gate.{Gate}
use Rattle.gates.specs.declared.Gate.TheVariants as G
use Rattle.gates.specs.declared.Kind.{Kind}
use Rattle.gates.specs.declared.Kind.TheVariants as K
use Rattle.std.specs.declared.option.Option as std-option

module _ (k : Kind) (i v : ℕ) (ps : List ℕ) where
  pub with_none : kind_takes k (length ps) ≡ false → None ≡ with_pins k i v ps
  unfolding with_pins
  with_none e = rw e

  pub with-no-start : kind_starts k v ≡ false → None ≡ with_pins k i v ps
  unfolding with_pins
  with-no-start e = sym (simp (e, and-false))

  pub with-some : kind_takes k (length ps) ≡ true → kind_starts k v ≡ true → kind_gate k i v ps ≡ with_pins k i v ps
  unfolding with_pins
  with-some e f = rw (e, f)

-- ---- a kind with its pins is the gate of the kind and the pins' signals

one-pin : (ps : List ℕ) → eqb (length ps) 1 ≡ true → map sig_of ps ≡ sig_of (get_or ps 0 0) ∷ []
one-pin [] e = absurd (false≢true e)
one-pin (a ∷ []) e = refl
one-pin (a ∷ b ∷ ps) e = absurd (let h : suc (suc (length ps)) ≡ 1 = eqb-true (suc (suc (length ps))) 1 e in omega arith)

two-pins : (ps : List ℕ) → eqb (length ps) 2 ≡ true → map sig_of ps ≡ sig_of (get_or ps 0 0) ∷ sig_of (get_or ps 1 0) ∷ []
two-pins [] e = absurd (false≢true e)
two-pins (a ∷ ps) e = ap (λ (l : List Signal). sig_of a ∷ l) (rest ps (let h : suc (length ps) ≡ 2 = eqb-true (suc (length ps)) 2 e in omega arith))
  where
    rest : (l : List ℕ) → length l ≡ 1 → map sig_of l ≡ sig_of (get_or l 0 0) ∷ []
    rest l h = one-pin l (eq-eqb (length l) 1 h)

three-pins : (ps : List ℕ) → eqb (length ps) 3 ≡ true → map sig_of ps ≡ sig_of (get_or ps 0 0) ∷ sig_of (get_or ps 1 0) ∷ sig_of (get_or ps 2 0) ∷ []
three-pins [] e = absurd (false≢true e)
three-pins (a ∷ ps) e = ap (λ (l : List Signal). sig_of a ∷ l) (rest ps (let h : suc (length ps) ≡ 3 = eqb-true (suc (length ps)) 3 e in omega arith))
  where
    rest : (l : List ℕ) → length l ≡ 2 → map sig_of l ≡ sig_of (get_or l 0 0) ∷ sig_of (get_or l 1 0) ∷ []
    rest l h = two-pins l (eq-eqb (length l) 2 h)

-- a kind that cannot have so many pins is no gate
module _ (ps : List ℕ) where
  none-comb : (f : data-gate.Form) → can_have f (length ps) ≡ false → none ≡ comb_from f (map sig_of ps)
  none-comb f h = rw (length-map ps sig_of, h)

  none-flop : (b : Bool) (l : List Signal) → eqb (length l) 3 ≡ false → none ≡ flop_from b l
  none-flop v [] h = refl
  none-flop v (a ∷ []) h = refl
  none-flop v (a ∷ b ∷ []) h = refl
  none-flop v (a ∷ b ∷ c ∷ []) h = absurd (true≢false h)
  none-flop v (a ∷ b ∷ c ∷ d ∷ l) h = refl

  pub none-kind : (k : Kind) (v : ℕ) → kind_takes k (length ps) ≡ false → none ≡ gate_of_kind k v (map sig_of ps)
  none-kind (K.Binary t) v h = none-comb (binary_form t) h
  none-kind (K.Ternary t) v h = none-comb (ternary_form t) h
  none-kind (K.Nary t) v h = none-comb (nary_form t) h
  none-kind K.Buf v h = none-comb Buf h
  none-kind K.Dff v h = none-flop (eqb v 1) (map sig_of ps) (rw (length-map ps sig_of) h)
  none-kind K.Unknown v h = refl

-- the run of pins from cell i on is ps
abbrev pub RunAt : List ℕ → ℕ → List ℕ → Type 0
RunAt pins i ps = take (length ps) (drop i pins) ≡ ps

module _ (pins : List ℕ) (i : ℕ) (ps : List ℕ) (run : RunAt pins i ps) where
  -- a combinational gate of pins that its form can have
  comb-in : (f : data-gate.Form) (ss : List Signal) → can_have f (length ps) ≡ true → map sig_of ps ≡ ss → some (Comb f ss) ≡ comb_from f (map sig_of ps)
  comb-in f ss t e = rw (length-map ps sig_of, t) (ap (λ (l : List Signal). some (Comb f l)) (sym e))

  kind-in : (k : Kind) (v : ℕ) → kind_takes k (length ps) ≡ true → decoded_in (kind_gate k i v ps) pins ≡ gate_of_kind k v (map sig_of ps)
  kind-in (K.Binary t) v h = comb-in (binary_form t) _ h (two-pins ps (binary-count t (length ps) ∙ h))
  kind-in (K.Ternary t) v h = comb-in (ternary_form t) _ h (three-pins ps (ternary-count t (length ps) ∙ h))
  kind-in (K.Nary t) v h = comb-in (nary_form t) _ h (ap (map sig_of) (sym run))
  kind-in K.Buf v h = comb-in Buf _ h (one-pin ps h)
  kind-in K.Dff v h = sym (ap (flop_from (eqb v 1)) (three-pins ps h))
  kind-in K.Unknown v h = refl

  -- what `with_pins` decodes at a form number is the gate of the number, the start value and the pins
  pub decode_is : (n v : ℕ) → decoded_in (with_pins (kind_of n) i v ps) pins ≡ gate_from n v (map sig_of ps)
  unfolding gate_from
  decode_is n v =
      rw (start-kind n v)
      (by-test (kind_starts (kind_of n) v)
      (λ s. rw s (takes s))
      (λ s. rw s (ap (λ (d : std-option.Option Gate). decoded_in d pins) (sym (with-no-start (kind_of n) i v ps s)))))
    where
      takes : kind_starts (kind_of n) v ≡ true → decoded_in (with_pins (kind_of n) i v ps) pins ≡ gate_with n v (map sig_of ps)
      takes s =
          by-test (kind_takes (kind_of n) (length ps))
          (λ t. ap (λ (d : std-option.Option Gate). decoded_in d pins) (sym (with-some (kind_of n) i v ps t s)) ∙ kind-in (kind_of n) v t ∙ sym (gate-kind n v (map sig_of ps)))
          (λ t. ap (λ (d : std-option.Option Gate). decoded_in d pins) (sym (with_none (kind_of n) i v ps t)) ∙ none-kind ps (kind_of n) v t ∙ sym (gate-kind n v (map sig_of ps)))

-- ---- the run of a gate that was decoded

-- the gate's run, where there is a gate, ends within these pin cells
abbrev within : std-option.Option Gate → List ℕ → Bool
within (Some g) pins = run_within g pins
within None pins = true

module _ (i : ℕ) (ps pins : List ℕ) (h : i + length ps ≤ length pins) where
  kind-within : (k : Kind) (v : ℕ) → within (kind_gate k i v ps) pins ≡ true
  kind-within (K.Binary t) v = refl
  kind-within (K.Ternary t) v = refl
  kind-within (K.Nary t) v = le-leb (i + length ps) (length pins) h
  kind-within K.Buf v = refl
  kind-within K.Dff v = refl
  kind-within K.Unknown v = refl

  -- a kind with the pins of a run that ends within the cells
  pub run-decoded : (k : Kind) (v : ℕ) {g : Gate} → with_pins k i v ps ≡ Some g → run_within g pins ≡ true
  unfolding with_pins
  run-decoded k v e =
      ap (λ (d : std-option.Option Gate). within d pins) (sym e)
      ∙ by-test (kind_takes k (length ps) && kind_starts k v) (λ t. rw t (kind-within k v)) (λ t. rw t)

-- ---- combinational or not

-- a `Gate` is combinational where the gate it stands for is
pub comb-is : (g : Gate) (pins : List ℕ) → kind_comb (kind_of_gate g) ≡ is_comb (gate_in g pins)
comb-is (G.Binary t a b) pins = refl
comb-is (G.Ternary t a b c) pins = refl
comb-is (G.Nary t r) pins = refl
comb-is (G.Buf a) pins = refl
comb-is (G.Dff d e r v) pins = refl

-- and its kind's number is the gate's form number
pub kind-cell : (g : Gate) (pins : List ℕ) → kind_number (kind_of_gate g) ≡ form_cell (gate_in g pins)
kind-cell (G.Binary t a b) pins = refl
kind-cell (G.Ternary t a b c) pins = refl
kind-cell (G.Nary t r) pins = refl
kind-cell (G.Buf a) pins = refl
kind-cell (G.Dff d e r v) pins = refl

-- and its start value is the gate's
pub start_cell_lem : (g : Gate) (pins : List ℕ) → bit_of (start_in g) ≡ start_cell (gate_in g pins)
start_cell_lem (G.Binary t a b) pins = refl
start_cell_lem (G.Ternary t a b c) pins = refl
start_cell_lem (G.Nary t r) pins = refl
start_cell_lem (G.Buf a) pins = refl
start_cell_lem (G.Dff d e r v) pins = refl
