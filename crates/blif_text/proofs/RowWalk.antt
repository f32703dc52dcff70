-- The walk over marked rows: the row at a place, and those behind it. Assumes nothing.
use mathlib.Core.Path.{◌≡◌, refl, sym, ap, ap₂, ◌∙◌, subst}
use mathlib.Core.Bool.{Bool, true, false}
use mathlib.Core.List.{List, [], ◌∷◌, ◌++◌}
use Prim.Native.Nat.{ℕ, zero, suc, ◌+◌, ◌-◌, ◌≤◌, ◌<◌}
use native.Mathlib.Omega.{arith}
use lib.ListN.{length, get_or, take, drop, length-drop}
use lib.Seq.{slice, slice_empty, slice-cons, length-take-le, get_or-drop, get_or-take, take-add, drop-drop}
use Rattle.lists.specs.Lists.{Bytes}
use Rattle.lists.proofs.Tests.{by-test, by_order}
use Rattle.blif_text.specs.Between.Places.{is_first, token_of, tokens_of, with_token, grouped, TokensMarked}
use Rattle.blif_text.specs.Between.Scan.{NoneFirst}
use Rattle.blif_text.specs.Between.PlacedStatements.{RowTo}
use Rattle.blif_text.specs.Between.Walk.{rows_from, Inside, RowsAt}
use Rattle.blif_text.proofs.WordLaws.{drop-take}
use Rattle.blif_text.proofs.RowLaws.{grouped-append, grouped-none}

-- cells up to a place, and from it on
pub slice-split : (cells : List ℕ) (at r n : ℕ) → at ≤ r → r ≤ n → slice at n cells ≡ slice at r cells ++ slice r n cells
slice-split cells at r n h k =
    let p : n - at ≡ (r - at) + (n - r) = omega arith in
    let q : at + (r - at) ≡ r = omega arith in
    drop-take at n cells
    ∙ ap (λ (m : ℕ). take m (drop at cells)) p
    ∙ take-add (r - at) (n - r) (drop at cells)
    ∙ ap₂ (λ (x y : List ℕ). x ++ y)
    (sym (drop-take at r cells))
    (ap (take (n - r)) (drop-drop (r - at) at cells ∙ ap (λ (m : ℕ). drop m cells) q) ∙ sym (drop-take r n cells))

-- cells of which none starts a row
none-slice : (m k r : ℕ) (cells : List ℕ) → k + m ≡ r → r ≤ length cells → ((j : ℕ) → k ≤ j → j < r → is_first (get_or cells j 0) ≡ false) → NoneFirst (slice k r cells)
none-slice zero k r cells e h f =
    let q : k ≡ r = omega arith in
    subst NoneFirst (sym (ap (λ (j : ℕ). slice j r cells) q ∙ slice_empty r cells)) tt
none-slice (suc m) k r cells e h f =
    subst NoneFirst (sym (slice-cons k r cells 0 (omega arith) h)) (
      f k (omega arith) (omega arith),
      none-slice m (suc k) r cells (omega arith) h (λ j a b. f j (omega arith) b),
    )

-- fewer cells are places within the text too
pub inside-less : {text cells : List ℕ} {n end : ℕ} → end ≤ n → Inside text cells n → Inside text cells end
inside-less l p = record { room = omega (arith, p.room); inside = λ i h. p.inside i (omega arith) }

-- the cells from a place to another, as code lends them
abbrev pub part : ℕ → ℕ → List ℕ → List ℕ
part at r cells = take (r - at) (drop at cells)

-- it has as many cells as are between
pub part_length : (cells : List ℕ) (at r : ℕ) → r ≤ length cells → length (part at r cells) ≡ r - at
part_length cells at r h = length-take-le (r - at) (drop at cells) (rw length-drop (omega arith))

-- each is a place within the text
pub part-inside : {text cells : List ℕ} {n : ℕ} (at r : ℕ) → Inside text cells n → r ≤ n → Inside text (part at r cells) (length (part at r cells))
part-inside {cells = cells} at r p h =
    let e : length (part at r cells) ≡ r - at = part_length cells at r (omega (arith, p.room)) in
    record {
      room = omega arith;
      inside = λ i l. let k : i < r - at = omega (arith, e) in rw (get_or-take, get_or-drop) (p.inside (at + i) (omega arith));
    }

-- a row has one
pub row_inside : {text cells : List ℕ} {n at r : ℕ} → Inside text cells n → RowTo cells at n r
    → (0 < length (part at r cells)) × Inside text (part at r cells) (length (part at r cells))
row_inside {cells = cells} {at = at} {r = r} p w = (
  let e : length (part at r cells) ≡ r - at = part_length cells at r (omega (arith, w.high, p.room)) in omega (arith, e, w.low),
  part-inside at r p w.high,
)

-- a cell that nothing is loose before starts a row
first_of : (text : Bytes) (c : ℕ) (cs : List ℕ) → (grouped text (c ∷ cs)).loose ≡ [] → is_first c ≡ true
unfolding grouped
first_of text c cs e = by-test (is_first c) (λ t. t) (λ t. absurd (no-cons (sym (ap (λ (b : Bool). (with_token b (token_of text c) (grouped text cs)).loose) t) ∙ e)))
  where
    no-cons : {t : Bytes} {ts : List Bytes} → t ∷ ts ≡ [] → ⊥
    no-cons q = absurd (let z : ⊥ = omega (arith, ap length q) in z)

-- nothing is loose before a cell that starts a row
starts-row : (text : Bytes) (c : ℕ) (cs : List ℕ) → is_first c ≡ true → (grouped text (c ∷ cs)).loose ≡ []
unfolding grouped
starts-row text c cs e = ap (λ (b : Bool). (with_token b (token_of text c) (grouped text cs)).loose) e

-- no cell, no row
no_rows : (text : Bytes) → ((grouped text []).loose ≡ []) × ((grouped text []).rows ≡ [])
unfolding grouped
no_rows text = (refl, refl)

-- the row of a first cell and those behind it, before other rows
rows-cons : (text : Bytes) (c : ℕ) (cs ys : List ℕ) → is_first c ≡ true → NoneFirst cs → (grouped text ys).loose ≡ []
    → (grouped text ((c ∷ cs) ++ ys)).rows ≡ tokens_of text (c ∷ cs) ∷ (grouped text ys).rows
unfolding grouped
rows-cons text c cs ys e n l =
    let a = grouped-append text cs ys l in
    let g = grouped-none text cs n in
    ap (λ (b : Bool). (with_token b (token_of text c) (grouped text (cs ++ ys))).rows) e
    ∙ ap₂ (λ (x : List Bytes) (y : List (List Bytes)). (token_of text c ∷ x) ∷ y)
    (a.0 ∙ g.0)
    (a.1 ∙ ap (λ (x : List (List Bytes)). x ++ (grouped text ys).rows) g.1)

-- ---- one row after the other

-- before the first row
pub rows_start : {text cells : List ℕ} {n : ℕ} → TokensMarked text cells n → n ≤ length cells → RowsAt text cells n 0
rows_start m r = record { high = omega arith; places = record { room = r; inside = m.inside }; none-loose = m.none-loose }

module _ {text cells : List ℕ} {n at : ℕ} (c : RowsAt text cells n at) where
  -- behind the last row
  pub rows_end : n ≤ at → rows_from text cells n at ≡ []
  rows_end h =
      let q : at ≡ n = omega (arith, c.high) in
      ap (λ (j : ℕ). rows_from text cells n j) q ∙ ap (λ (x : List ℕ). (grouped text x).rows) (slice_empty n cells) ∙ (no_rows text).1

  -- where there is a row, it stands at a cell in use
  pub row-there : (t : List Bytes) (ts : List (List Bytes)) → rows_from text cells n at ≡ t ∷ ts → at < n
  row-there t ts e = by_order n at (λ h. absurd (let z : ⊥ = omega (arith, ap length (sym (rows_end h) ∙ e)) in z)) (λ h. h)

  module _ {r : ℕ} (h : at < n) (w : RowTo cells at n r) where
    -- nothing is loose before the next row
    rest-loose : (grouped text (slice r n cells)).loose ≡ []
    rest-loose =
        by_order n r
        (λ l.
        let q : r ≡ n = omega (arith, w.high) in
        ap (λ (j : ℕ). (grouped text (slice j n cells)).loose) q ∙ ap (λ (x : List ℕ). (grouped text x).loose) (slice_empty n cells) ∙ (no_rows text).0)
        (λ l.
        ap (λ (x : List ℕ). (grouped text x).loose) (slice-cons r n cells 0 l c.places.room)
        ∙ starts-row text (get_or cells r 0) (slice (suc r) n cells) (w.stop l))

    -- the row's first cell starts it
    row_first : is_first (get_or cells at 0) ≡ true
    row_first =
        first_of text (get_or cells at 0) (slice (suc at) n cells)
        (sym (ap (λ (x : List ℕ). (grouped text x).loose) (slice-cons at n cells 0 h c.places.room)) ∙ c.none-loose)

    -- the next row
    pub rows_next : RowsAt text cells n r
    rows_next = record { high = w.high; places = c.places; none-loose = rest-loose }

    -- the row, then the others
    pub rows_are : rows_from text cells n at ≡ tokens_of text (slice at r cells) ∷ rows_from text cells n r
    rows_are =
        let k : r ≤ length cells = omega (arith, w.high, c.places.room) in
        let m : suc at + (r - suc at) ≡ r = omega (arith, w.low) in
        let e : slice at r cells ≡ get_or cells at 0 ∷ slice (suc at) r cells = slice-cons at r cells 0 w.low k in
        ap (λ (x : List ℕ). (grouped text x).rows) (slice-split cells at r n (omega (arith, w.low)) w.high ∙ ap (λ (x : List ℕ). x ++ slice r n cells) e)
        ∙ rows-cons text (get_or cells at 0) (slice (suc at) r cells) (slice r n cells) row_first (none-slice (r - suc at) (suc at) r cells m k (λ j a b. w.inner j (omega arith) b)) rest-loose
        ∙ ap (λ (x : List ℕ). tokens_of text x ∷ (grouped text (slice r n cells)).rows) (sym e)

    -- the same, with the row as code lends it
    pub part-rows : rows_from text cells n at ≡ tokens_of text (part at r cells) ∷ rows_from text cells n r
    part-rows = rows_are ∙ ap (λ (x : List ℕ). tokens_of text x ∷ rows_from text cells n r) (drop-take at r cells)
