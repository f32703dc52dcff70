-- What a gate makes of the bits of a run of pins, one after the other and by parts. Assumes nothing.
use mathlib.Core.Path.{◌≡◌, refl, sym, ap, ◌∙◌}
use mathlib.Core.Bool.{Bool, true, false, not, ◌||◌, beq, not-not, or_assoc}
use mathlib.Core.List.{List, [], ◌∷◌, ◌++◌, map-append}
use Prim.Native.Nat.{ℕ, ◌+◌, ◌-◌, ◌≤◌, ◌<◌}
use native.Mathlib.Omega.{arith}
use lib.ListN.{length, get_or, take, drop, take-append-drop}
use lib.Seq.{take-add}
use Rattle.lists.specs.Lists.{any}
use Rattle.lists.proofs.Places.{drop-next}
use Rattle.signal.specs.Signal.{invert_if}
use Rattle.gates.specs.Gate.{all_of, odd}
use Rattle.gate_bits.specs.Between.Slots.{bit_at, pin_bits}

-- ---- of one bit, and of two lists of bits

-- two bits that differ: the one turned over where the other is one
pub differ-invert_if : (b i : Bool) → not (beq b i) ≡ invert_if i b
differ-invert_if true true = refl
differ-invert_if true false = refl
differ-invert_if false true = refl
differ-invert_if false false = refl

pub odd-single : (b : Bool) → b ≡ odd (b ∷ [])
odd-single true = refl
odd-single false = refl

-- what `make` makes of a join, by what it makes of its parts
pub record Joins (make : List Bool → Bool) (op : Bool → Bool → Bool) : Type 0 where
  pub join : (a b : List Bool) → make (a ++ b) ≡ op (make a) (make b)

pub any-joins : (p : Bool → Bool) → Joins (any p) (λ a b. a || b)
any-joins p = record { join = go }
  where
    go : (a b : List Bool) → any p (a ++ b) ≡ (any p a || any p b)
    go [] b = refl
    go (x ∷ a) b = ap (λ (r : Bool). p x || r) (go a b) ∙ sym (or_assoc (p x) (any p a) (any p b))

pub odd-joins : Joins odd (λ a b. invert_if b a)
odd-joins = record { join = go }
  where
    swap : (x y c : Bool) → invert_if x (invert_if y c) ≡ invert_if y (invert_if x c)
    swap false y c = refl
    swap true false c = refl
    swap true true c = refl

    go : (a b : List Bool) → odd (a ++ b) ≡ invert_if (odd b) (odd a)
    go [] b = odd-single (odd b)
    go (x ∷ a) b = ap (invert_if x) (go a b) ∙ swap x (odd b) (odd a)

-- ---- a zero among them, or all ones

pub some-zero : (bs : List Bool) → any (invert_if true) bs ≡ not (all_of bs)
some-zero [] = refl
some-zero (true ∷ bs) = some-zero bs
some-zero (false ∷ bs) = refl

pub no_zero : (bs : List Bool) → not (any (invert_if true) bs) ≡ all_of bs
no_zero bs = ap not (some-zero bs) ∙ not-not (all_of bs)

-- ---- a run of pins

pub pins-join : {make : List Bool → Bool} {op : Bool → Bool → Bool} → Joins make op → (bits : List Bool) (a b : List ℕ)
    → make (pin_bits bits (a ++ b)) ≡ op (make (pin_bits bits a)) (make (pin_bits bits b))
pins-join {make} j bits a b = ap make (map-append (bit_at bits) a b) ∙ j.join (pin_bits bits a) (pin_bits bits b)

-- the bit is what is made of the first i pins
pub record MadeOf (make : List Bool → Bool) (bits : List Bool) (run : List ℕ) (b : Bool) (i : ℕ) : Type 0 where
  pub within : i ≤ length run
  pub so : b ≡ make (pin_bits bits (take i run))

module _ {make : List Bool → Bool} {bits : List Bool} {run : List ℕ} where
  module _ {b : Bool} {i : ℕ} where
    module _ {op : Bool → Bool → Bool} (j : Joins make op) (c : MadeOf make bits run b i) where
      -- a part more
      pub made-part : {e : ℕ} {v : Bool} → i ≤ e → e ≤ length run → v ≡ op b (make (pin_bits bits (take (e - i) (drop i run)))) → MadeOf make bits run v e
      made-part {e} h l q =
          let s : i + (e - i) ≡ e = omega arith in
          record {
            within = l;
            so =
                q ∙ ap (λ (x : Bool). op x (make (pin_bits bits (take (e - i) (drop i run))))) c.so
                ∙ sym (pins-join j bits (take i run) (take (e - i) (drop i run)))
                ∙ ap (λ (t : List ℕ). make (pin_bits bits t)) (sym (take-add i (e - i) run) ∙ ap (λ (k : ℕ). take k run) s);
          }

      -- a pin more
      pub made-next : {v x : Bool} → i < length run → x ≡ make (bit_at bits (get_or run i 0) ∷ []) → v ≡ op b x → MadeOf make bits run v (i + 1)
      made-next h p q =
          let s : i + 1 - i ≡ 1 = omega arith in
          let t : take (i + 1 - i) (drop i run) ≡ get_or run i 0 ∷ [] = rw (s, drop-next run i 0 h) in
          made-part (omega arith) (omega arith) (q ∙ ap (op b) (p ∙ ap (λ (l : List ℕ). make (pin_bits bits l)) (sym t)))

-- one that is found in a part is found in the whole
pub made_found : (p : Bool → Bool) {bits : List Bool} {run : List ℕ} {i : ℕ} → MadeOf (any p) bits run true i → true ≡ any p (pin_bits bits run)
made_found p {bits} {run} {i} c =
    ap (λ (b : Bool). b || any p (pin_bits bits (drop i run))) c.so
    ∙ sym (pins-join (any-joins p) bits (take i run) (drop i run))
    ∙ ap (λ (l : List ℕ). any p (pin_bits bits l)) (take-append-drop i run)
