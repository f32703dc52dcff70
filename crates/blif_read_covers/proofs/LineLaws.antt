-- A cube line as the row of its tokens: its columns, its output, and what it adds to a cover's refusal. Assumes nothing.
use Rattle.std.specs.Prelude.{if◌then◌else◌, ⊤, Result, Err}
use mathlib.Core.Path.{◌≡◌, refl, sym, ap, ap₂, ◌∙◌}
use mathlib.Core.Bool.{Bool, true, false, ◌&&◌, ◌||◌, not, true≢false, false≢true, or-true, and_assoc, and_comm}
use mathlib.Core.List.{List, [], ◌∷◌}
use Prim.Native.Nat.{ℕ, zero, suc, ◌<◌}
use native.Mathlib.Omega.{arith}
use lib.Dec.{eqb, ltb}
use lib.ListN.{length, length-map}
use borrow.Author.Tests.{ltb-true, lt-ltb, le-ltb, ne_eqb}
use Rattle.lists.specs.Lists.{Bytes, same, all, any, elem, known}
use Rattle.lists.proofs.Tests.{by-test, by_order, and_left, and_right}
use Rattle.lists.proofs.Same.{same-is}
use Rattle.refusals.specs.Order.{◌or_else◌, refuse_if}
use Rattle.refusals.specs.declared.Refusal.TheVariants as refusal
use Rattle.blif_text.specs.Between.Places.{token_of, tokens_of}
use Rattle.blif_text.specs.Decls.{columns, output, is_one}
use Rattle.blif_text.proofs.ColumnLaws.{last_cell, last-output}
use Rattle.blif_reading.specs.Read.{good_line, is_column}
use Rattle.blif_read_covers.specs.Between.Pass.{output_of, with_output, right, fits}
use Rattle.blif_read_covers.specs.declared.Output.{Output}
use Rattle.blif_read_covers.specs.declared.Output.TheVariants.{Zero, One, Wrong}
use Rattle.blif_read_covers.specs.declared.Outputs.{Outputs}
use Rattle.refusals.specs.declared.Refusal.{Refusal}

-- the refusal of the lines left of a cover with w columns, after these outputs: 12 at a wrong one, else 13 where outputs differ
abbrev pub lines_fault : ℕ → Outputs → List (List Bytes) → Result ⊤ Refusal
lines_fault w met ls =
    refuse_if (not (all (good_line w) ls)) refusal.WrongCubeLine
    or_else refuse_if ((met.one || any is_one ls) && (met.zero || not (all is_one ls))) refusal.OutputsDiffer

-- ---- outputs

-- the output is 1
abbrev one : Output → Bool
one Zero = false
one One = true
one Wrong = false

-- a known output is a right one
known-right : (t : Bytes) → known t ((48 ∷ []) ∷ (49 ∷ []) ∷ []) ≡ right (output_of t)
known-right t = tests (same t (48 ∷ [])) (same t (49 ∷ []))
  where
    tests : (a b : Bool) → (a || (b || false)) ≡ right (if a then Zero else (if b then One else Wrong))
    tests true b = refl
    tests false true = refl
    tests false false = refl

-- the output 1 is not 0
one-is : (t : Bytes) → same t (49 ∷ []) ≡ one (output_of t)
unfolding same
one-is t = by-test (same t (48 ∷ [])) (λ e. zero-case t (same-is t (48 ∷ []) e)) (λ e. tests (same t (48 ∷ [])) (same t (49 ∷ [])) e)
  where
    zero-case : (t : Bytes) → t ≡ 48 ∷ [] → same t (49 ∷ []) ≡ one (output_of t)
    zero-case t e = ap (λ (x : Bytes). same x (49 ∷ [])) e ∙ sym (ap (λ (x : Bytes). one (output_of x)) e)

    tests : (a b : Bool) → a ≡ false → b ≡ one (if a then Zero else (if b then One else Wrong))
    tests true b e = absurd (true≢false e)
    tests false true e = refl
    tests false false e = refl

-- ---- a row as a line

-- the tokens ts of a line are m, and where they are one or two their output is this one
pub record LineIn (ts : List Bytes) (m : ℕ) (out : Bytes) : Type 0 where
  pub some : 0 < m
  pub counted : length ts ≡ m
  pub out-is : m < 3 → output ts ≡ out

-- one or two
one-or-two : (m : ℕ) → 0 < m → m < 3 → elem m (1 ∷ 2 ∷ []) ≡ true
one-or-two zero h l = absurd (omega arith)
one-or-two (suc zero) h l = refl
one-or-two (suc (suc zero)) h l = refl
one-or-two (suc (suc (suc m))) h l = absurd (omega arith)

swapped : (a b c : Bool) → (a && b && c) ≡ (a && c && b)
swapped a b c = and_assoc a b c ∙ ap (λ (x : Bool). a && x) (and_comm b c) ∙ sym (and_assoc a c b)

module _ {ts : List Bytes} {m : ℕ} {out : Bytes} (w : ℕ) (l : LineIn ts m out) where
  -- a line is good where it fits and its columns are
  good-is : good_line w ts ≡ (fits m (length (columns ts)) w (output_of out) && all is_column (columns ts))
  unfolding good_line
  good-is =
      by_order 3 m
      (λ h. simp (ne_eqb (length ts) 1 (λ e. omega (arith, l.counted)), ne_eqb (length ts) 2 (λ e. omega (arith, l.counted)), le-ltb m 3 h))
      (λ h.
      ap₂ (λ (a b : Bool). a && eqb w (length (columns ts)) && all is_column (columns ts) && b)
      (ap (λ (k : ℕ). elem k (1 ∷ 2 ∷ [])) l.counted ∙ one-or-two m l.some h)
      (ap (λ (t : Bytes). known t ((48 ∷ []) ∷ (49 ∷ []) ∷ [])) (l.out-is h) ∙ known-right out)
      ∙ swapped (eqb w (length (columns ts))) (all is_column (columns ts)) (right (output_of out))
      ∙ ap (λ (b : Bool). b && eqb w (length (columns ts)) && right (output_of out) && all is_column (columns ts)) (sym (lt-ltb m 3 h)))

  -- the output of a line that fits
  one_of : fits m (length (columns ts)) w (output_of out) ≡ true → is_one ts ≡ one (output_of out)
  unfolding is_one
  one_of f =
      let a = ltb m 3 in
      let b = eqb w (length (columns ts)) in
      let h : m < 3 = ltb-true m 3 (and_left a b (and_left (a && b) (right (output_of out)) f)) in
      ap (λ (t : Bytes). same t (49 ∷ [])) (l.out-is h) ∙ one-is out

-- a row of token cells is a line
pub line-in : (text row : List ℕ) → 0 < length row → LineIn (tokens_of text row) (length row) (token_of text (last_cell row))
line-in text row h = record { some = h; counted = length-map row (token_of text); out-is = last-output text row h }

-- ---- refusals in order

-- two tests in turn
pub refuse_if-and : (a b : Bool) (x : Result ⊤ Refusal) → (refuse_if (not (a && b)) refusal.WrongCubeLine or_else x) ≡ (refuse_if (not a) refusal.WrongCubeLine or_else (refuse_if (not b) refusal.WrongCubeLine or_else x))
unfolding ◌or_else◌ refuse_if
refuse_if-and true b x = refl
refuse_if-and false b x = refl

-- the outputs differ with one more as they differ with it among the others
more-differ : (o : Output) (met : Outputs) (some every : Bool) → right o ≡ true
    → ((met.one || (one o || some)) && (met.zero || not (one o && every))) ≡ (((with_output met o).one || some) && ((with_output met o).zero || not every))
more-differ Zero met some every h = ap (λ (b : Bool). (met.one || some) && b) (or-true met.zero)
more-differ One met some every h = ap (λ (b : Bool). b && (met.zero || not every)) (or-true met.one)
more-differ Wrong met some every h = absurd (false≢true h)

module _ {ts : List Bytes} {m : ℕ} {out : Bytes} (w : ℕ) (met : Outputs) (ls : List (List Bytes)) (l : LineIn ts m out) where
  -- the columns
  abbrev cols : Bytes
  cols = columns ts

  -- a line that does not fit is refused
  pub misfit : fits m (length cols) w (output_of out) ≡ false → lines_fault w met (ts ∷ ls) ≡ Err refusal.WrongCubeLine
  unfolding ◌or_else◌ refuse_if
  misfit e = simp (good-is w l, e)

  -- of a line that fits the columns are left, and its output
  pub fitting : fits m (length cols) w (output_of out) ≡ true
      → lines_fault w met (ts ∷ ls) ≡ (refuse_if (not (all is_column cols)) refusal.WrongCubeLine or_else lines_fault w (with_output met (output_of out)) ls)
  fitting e =
      let o = output_of out in
      let r : right o ≡ true = and_right (ltb m 3 && eqb w (length cols)) (right o) e in
      ap₂
      (λ (a b : Bool). refuse_if (not (a && all (good_line w) ls)) refusal.WrongCubeLine or_else refuse_if ((met.one || (b || any is_one ls)) && (met.zero || not (b && all is_one ls))) refusal.OutputsDiffer)
      (good-is w l ∙ ap (λ (b : Bool). b && all is_column cols) e)
      (one_of w l e)
      ∙ refuse_if-and (all is_column cols) (all (good_line w) ls) _
      ∙ ap (λ (b : Bool). refuse_if (not (all is_column cols)) refusal.WrongCubeLine or_else (refuse_if (not (all (good_line w) ls)) refusal.WrongCubeLine or_else refuse_if b refusal.OutputsDiffer)) (more-differ o met (any is_one ls) (all is_one ls) r)
