-- The rows of a text by places, read at these places, are the rows of its bytes. Assumes nothing.
use mathlib.Core.Path.{◌≡◌, refl, sym, ap, ap₂, ◌∙◌}
use mathlib.Core.Bool.{Bool, not, ◌&&◌}
use mathlib.Core.List.{List, [], ◌∷◌, map, map-append, head_d}
use Prim.Native.Nat.{ℕ, zero, suc, ◌+◌, ◌-◌, ◌<◌}
use native.Mathlib.Numerals.{add-one}
use native.Mathlib.Omega.{arith}
use lib.Dec.{eqb}
use lib.ListN.{length, get_or, take, drop, length-map, drop_of_length-le}
use lib.Seq.{drop-cons}
use Rattle.lists.specs.Lists.{Bytes, filter, range}
use Rattle.lists.proofs.Tests.{by-test}
use Rattle.blif_text.specs.Lines.{cons_first, split, drop_cr, lines, cut, continues, before, is_blank, non_empty, tokens}
use Rattle.blif_text.specs.Between.Rows.{line_rows}
use Rattle.blif_text.specs.Between.PlaceRows.{byte_at, bytes_at, cr_before_lf, place_lines, kept, place_tokens, place_rows}

-- ---- parts

module _ (g : ℕ → ℕ) where
  map_first : (k : ℕ) (ws : List (List ℕ)) → map (map g) (cons_first k ws) ≡ cons_first (g k) (map (map g) ws)
  unfolding cons_first
  map_first k [] = refl
  map_first k (w ∷ ws) = refl

  map-split : (p : ℕ → Bool) (ks : List ℕ) → map (map g) (split (λ k. p (g k)) ks) ≡ split p (map g ks)
  unfolding split
  map-split p [] = refl
  map-split p (k ∷ ks) =
      by-test (p (g k))
      (λ h. rw h (ap (λ (ws : List Bytes). [] ∷ ws) (map-split p ks)))
      (λ h. rw h (map_first k (split (λ k. p (g k)) ks) ∙ ap (cons_first (g k)) (map-split p ks)))

  map-full : (ws : List (List ℕ)) → map (map g) (filter non_empty ws) ≡ filter non_empty (map (map g) ws)
  unfolding non_empty
  map-full [] = refl
  map-full ([] ∷ ws) = map-full ws
  map-full ((k ∷ w) ∷ ws) = ap (λ (r : List Bytes). (g k ∷ map g w) ∷ r) (map-full ws)

  map-take : (n : ℕ) (ks : List ℕ) → map g (take n ks) ≡ take n (map g ks)
  map-take zero ks = refl
  map-take (suc n) [] = refl
  map-take (suc n) (k ∷ ks) = ap (λ (l : List ℕ). g k ∷ l) (map-take n ks)

map-before : {A B : Type 0} (g : A → B) (ts : List A) (rs : List (List A)) → map (map g) (before ts rs) ≡ before (map g ts) (map (map g) rs)
unfolding before
map-before g ts [] = refl
map-before {B = B} g ts (r ∷ rs) = ap (λ (x : List B). x ∷ map (map g) rs) (map-append g ts r)

take-cut : (s : Bytes) → take (length (cut s)) s ≡ cut s
unfolding cut
take-cut [] = refl
take-cut (c ∷ s) = by-test (eqb 35 c) (λ h. rw h) (λ h. rw h (ap (λ (l : Bytes). c ∷ l) (take-cut s)))

-- ---- lines

head-drop : (j : ℕ) (t : Bytes) → head_d (drop j t) 0 ≡ get_or t j 0
unfolding head_d
head-drop zero [] = refl
head-drop zero (c ∷ t) = refl
head-drop (suc j) [] = refl
head-drop (suc j) (c ∷ t) = head-drop j t

module _ (text : Bytes) where
  bytes-from : (n i : ℕ) → i + n ≡ length text → bytes_at text (filter (λ k. not (cr_before_lf text k)) (range i n)) ≡ drop_cr (drop i text)
  unfolding drop_cr cr_before_lf
  bytes-from zero i e = rw (drop_of_length-le text {i = i} (omega arith))
  bytes-from (suc n) i e =
      let h : i < length text = omega arith in
      let next : byte_at text (i + 1) ≡ head_d (drop (suc i) text) 0 = ap (byte_at text) (add-one i) ∙ sym (head-drop (suc i) text) in
      let more = bytes-from n (suc i) (omega arith) in
      rw (drop-cons text i 0 h, next)
      (by-test (eqb 13 (byte_at text i) && eqb 10 (head_d (drop (suc i) text) 0))
      (λ k. rw k more)
      (λ k. rw k (ap (λ (s : Bytes). byte_at text i ∷ s) more)))

  pub lines_are : map (bytes_at text) (place_lines text 0) ≡ lines text
  unfolding place_lines lines
  lines_are = map-split (byte_at text) (eqb 10) (filter (λ k. not (cr_before_lf text k)) (range 0 (length text - 0))) ∙ ap (split (eqb 10)) (bytes-from (length text - 0) 0 (omega arith))

  -- ---- tokens and rows

  tokens-are : (l : List ℕ) → map (bytes_at text) (place_tokens text l) ≡ tokens (bytes_at text l)
  unfolding place_tokens tokens
  tokens-are l = map-full (byte_at text) (split (λ k. is_blank (byte_at text k)) l) ∙ ap (filter non_empty) (map-split (byte_at text) is_blank l)

  pub rows_are : (ls : List (List ℕ)) → map (map (bytes_at text)) (place_rows text ls) ≡ line_rows (map (bytes_at text) ls)
  unfolding place_rows line_rows kept
  rows_are [] = refl
  rows_are (l ∷ ls) =
      by-test (continues (bytes_at text l))
      (λ h.
      rw h
      (map-before (bytes_at text) (place_tokens text (take (length l - 1) l)) (place_rows text ls)
      ∙ ap₂ before (tokens-are (take (length l - 1) l) ∙ ap tokens (map-take (byte_at text) (length l - 1) l ∙ rw (length-map l (byte_at text)))) (rows_are ls)))
      (λ h.
      rw h
      (ap₂ (λ (r : List Bytes) (rs : List (List Bytes)). r ∷ rs)
      (tokens-are (take (length (cut (bytes_at text l))) l) ∙ ap tokens (map-take (byte_at text) (length (cut (bytes_at text l))) l ∙ take-cut (bytes_at text l))) (rows_are ls)))
