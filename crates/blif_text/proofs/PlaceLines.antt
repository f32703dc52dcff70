-- The lines of a text by places, from a place on: what the byte there makes of the first line and of those behind it. Assumes nothing.
use mathlib.Core.Path.{◌≡◌, refl, sym, ap, ◌∙◌}
use mathlib.Core.Bool.{true, false, not}
use mathlib.Core.List.{List, [], ◌∷◌, ◌++◌}
use mathlib.Core.Logic.{◌⊎◌, inl, inr}
use Prim.Native.Nat.{ℕ, zero, suc, ◌+◌, ◌-◌, ◌≤◌, ◌<◌}
use native.Mathlib.Numerals.{add-one}
use native.Mathlib.Omega.{arith}
use lib.Dec.{eqb}
use lib.ListN.{length, get_or-eq_default}
use borrow.Author.Tests.{eqb-true}
use Rattle.lists.specs.Lists.{Bytes, filter, range}
use Rattle.lists.proofs.Range.{range_cons, range-end}
use Rattle.lists.proofs.Tests.{by_order, by-test, and_left, and_right}
use Rattle.blif_text.specs.Lines.{cons_first, split, is_blank}
use Rattle.blif_text.specs.Between.PlaceRows.{byte_at, cr_before_lf, place_lines}
use Rattle.blif_text.specs.Between.Scan.{NoneTo, StopTo, at-end, at-lf, at-cr}
use Rattle.blif_text.proofs.ScanBytes.{not-lf, not-cr}
use Rattle.blif_text.proofs.Parts.{first_of, rest_of, first-cons, rest-cons}

module _ (text : Bytes) where
  -- the line from a place on, and those behind it
  abbrev pub line_from : ℕ → List ℕ
  line_from i = first_of (place_lines text i)

  abbrev pub lines_behind : ℕ → List (List ℕ)
  lines_behind i = rest_of (place_lines text i)

  pub lines_end : (i : ℕ) → length text ≤ i → place_lines text i ≡ []
  unfolding place_lines split
  lines_end i h = ap (λ (ks : List ℕ). split (λ k. eqb 10 (byte_at text k)) (filter (λ k. not (cr_before_lf text k)) ks)) (range-end (length text) i h)

  module _ (i : ℕ) (h : i < length text) where
    lines_cons : place_lines text i ≡ split (λ k. eqb 10 (byte_at text k)) (filter (λ k. not (cr_before_lf text k)) (i ∷ range (i + 1) (length text - (i + 1))))
    unfolding place_lines
    lines_cons = ap (λ (ks : List ℕ). split (λ k. eqb 10 (byte_at text k)) (filter (λ k. not (cr_before_lf text k)) ks)) (range_cons (length text) i h)

    -- an LF
    pub lines-lf : byte_at text i ≡ 10 → place_lines text i ≡ [] ∷ place_lines text (i + 1)
    unfolding place_lines split
    lines-lf e =
        let k : cr_before_lf text i ≡ false = unfold cr_before_lf in rw e in
        let l : eqb 10 (byte_at text i) ≡ true = rw e in
        lines_cons ∙ rw (k, l)

    -- a CR directly before LF
    pub lines-cr : cr_before_lf text i ≡ true → place_lines text i ≡ place_lines text (i + 1)
    unfolding place_lines
    lines-cr k = lines_cons ∙ rw k

    -- a byte that ends no line
    module _ (e : eqb 10 (byte_at text i) ≡ false) where
      pub lines-byte : cr_before_lf text i ≡ false → place_lines text i ≡ cons_first i (place_lines text (i + 1))
      unfolding place_lines split
      lines-byte k = lines_cons ∙ rw (k, e)

      pub line-byte : cr_before_lf text i ≡ false → line_from i ≡ i ∷ line_from (i + 1)
      line-byte k = ap first_of (lines-byte k) ∙ first-cons i (place_lines text (i + 1))

      pub behind-byte : lines_behind i ≡ lines_behind (i + 1)
      behind-byte =
          by-test (cr_before_lf text i)
          (λ k. ap rest_of (lines-cr k))
          (λ k. ap rest_of (lines-byte k) ∙ rest-cons i (place_lines text (i + 1)))

  -- ---- where a line stops

  -- nothing is left of a line where it stops, and the others are those from next on
  pub stops : (stop next : ℕ) → StopTo text stop next → (line_from stop ≡ []) × (lines_behind stop ≡ place_lines text next)
  unfolding first_of rest_of
  stops stop next (at-end h q) =
      let e : place_lines text stop ≡ [] = lines_end stop h in
      (ap first_of e, rw q (ap rest_of e ∙ sym e))
  stops stop next (at-lf h e q) = let l : place_lines text stop ≡ [] ∷ place_lines text (stop + 1) = lines-lf stop h e in (ap first_of l, rw q (ap rest_of l))
  stops stop next (at-cr h e d q) =
      let k : cr_before_lf text stop ≡ true = unfold cr_before_lf in rw (e, d) in
      let o : stop + 1 + 1 ≡ next = omega arith in
      let l : place_lines text stop ≡ [] ∷ place_lines text next =
      lines-cr stop (omega arith) k ∙ lines-lf (stop + 1) h d ∙ ap (λ (j : ℕ). [] ∷ place_lines text j) o in
      (ap first_of l, ap rest_of l)

  -- what such a CR is
  pub cr-lf : (i : ℕ) → cr_before_lf text i ≡ true → (byte_at text i ≡ 13) × (i + 1 < length text) × (byte_at text (i + 1) ≡ 10)
  unfolding cr_before_lf
  cr-lf i k =
      let lf : byte_at text (i + 1) ≡ 10 = sym (eqb-true 10 (byte_at text (i + 1)) (and_right (eqb 13 (byte_at text i)) (eqb 10 (byte_at text (i + 1))) k)) in (
        sym (eqb-true 13 (byte_at text i) (and_left (eqb 13 (byte_at text i)) (eqb 10 (byte_at text (i + 1))) k)),
        by_order (length text) (i + 1) (λ o. let z : 0 ≡ 10 = sym (get_or-eq_default text 0 o) ∙ lf in absurd (omega arith)) (λ o. o),
        lf,
      )

  -- a line stops at a place, or its byte is in the line
  pub stop-or : (stop : ℕ) → ((next : ℕ) × StopTo text stop next) ⊎ ((stop < length text) × (eqb 10 (byte_at text stop) ≡ false) × (cr_before_lf text stop ≡ false))
  stop-or stop =
      by_order (length text) stop
      (λ h. inl (stop, at-end h refl))
      (λ h.
      by-test (eqb 10 (byte_at text stop))
      (λ e. inl (stop + 1, at-lf h (sym (eqb-true 10 (byte_at text stop) e)) refl))
      (λ e.
      by-test (cr_before_lf text stop)
      (λ k. let c = cr-lf stop k in inl (stop + 2, at-cr c.1 c.0 c.2 refl))
      (λ k. inr (h, e, k))))

  -- the lines behind the first LF
  behind-to : (n i end : ℕ) → i + n ≡ end → end ≤ length text → ((k : ℕ) → i ≤ k → k < end → eqb 10 (byte_at text k) ≡ false) → lines_behind i ≡ lines_behind end
  behind-to zero i end e h f = let q : i ≡ end = omega arith in ap lines_behind q
  behind-to (suc n) i end e h f = behind-byte i (omega arith) (f i (omega arith) (omega arith)) ∙ behind-to n (i + 1) end (omega arith) h (λ k a b. f k (omega arith) b)

  pub behind-none : {i end : ℕ} → NoneTo (eqb 10) text i end → lines_behind i ≡ lines_behind end
  behind-none {i} {end} c = behind-to (end - i) i end (omega (arith, c.low)) c.high c.none

  -- ---- a word

  word_in : (k : ℕ) → is_blank (byte_at text k) ≡ false → cr_before_lf text k ≡ false
  unfolding cr_before_lf
  word_in k e = rw (not-cr (byte_at text k) e)

  word-to : (n i e : ℕ) → i + n ≡ e → e ≤ length text → ((k : ℕ) → i ≤ k → k < e → is_blank (byte_at text k) ≡ false) → line_from i ≡ range i n ++ line_from e
  word-to zero i e q h f = let p : i ≡ e = omega arith in ap line_from p
  word-to (suc n) i e q h f =
      let b : is_blank (byte_at text i) ≡ false = f i (omega arith) (omega arith) in
      line-byte i (omega arith) (not-lf (byte_at text i) b) (word_in i b)
      ∙ ap (λ (l : List ℕ). i ∷ l) (word-to n (i + 1) e (omega arith) h (λ k x y. f k (omega arith) y) ∙ ap (λ (j : ℕ). range j n ++ line_from e) (add-one i))

  pub line_word : {i e : ℕ} → NoneTo is_blank text i e → line_from i ≡ range i (e - i) ++ line_from e
  line_word {i} {e} c = word-to (e - i) i e (omega (arith, c.low)) c.high c.none
