-- The cells of a line's tokens, by what stands at its front. Assumes nothing.
use Rattle.std.specs.Prelude.{if◌then◌else◌}
use mathlib.Core.Path.{◌≡◌, refl, sym, ap, ap₂, ◌∙◌}
use mathlib.Core.Bool.{Bool, true, false, false≢true}
use mathlib.Core.List.{List, [], ◌∷◌, ◌++◌, map-append, append_assoc, append-nil}
use Prim.Native.Nat.{ℕ, ◌+◌, ◌-◌, ◌<◌}
use native.Mathlib.Omega.{arith}
use lib.Dec.{eqb}
use lib.ListN.{length, take, length-append, length-map}
use lib.Seq.{take-append-add, take-append_seam, get_or-append-add}
use borrow.Author.Tests.{eqb-true}
use Rattle.lists.specs.Lists.{Bytes, any}
use Rattle.lists.proofs.Tests.{by-test, or_left, or_right}
use Rattle.blif_text.specs.Lines.{split, cut, continues, before, is_blank, non_empty}
use Rattle.blif_text.specs.Between.PlaceRows.{byte_at, bytes_at, kept, place_tokens, place_rows}
use Rattle.blif_text.specs.Between.Places.{places_cell, row_cells, rows_cells}
use Rattle.blif_text.specs.Between.Scan.{ends_word}
use Rattle.blif_text.proofs.ScanBytes.{word-plain, word_blank, blank_of, blank-not, backslash-word, hash-word}
use Rattle.blif_text.proofs.Parts.{Without, full-skip, full-end, full-last, first_of, rest_of}

-- ---- cells of rows

-- whether the next token is a statement's first, behind these tokens of a row
abbrev pub still : Bool → List (List ℕ) → Bool
still first [] = first
still first (t ∷ ts) = false

still_false : (ts : List (List ℕ)) → still false ts ≡ false
still_false [] = refl
still_false (t ∷ ts) = refl

cells-append : (f : Bool) (ts us : List (List ℕ)) → row_cells f (ts ++ us) ≡ row_cells f ts ++ row_cells (still f ts) us
unfolding row_cells
cells-append f [] us = refl
cells-append f (t ∷ ts) us = ap (λ (l : List ℕ). places_cell f t ∷ l) (cells-append false ts us ∙ rw (still_false ts))

cells-before : (f : Bool) (ts : List (List ℕ)) (rs : List (List (List ℕ))) → rows_cells f (before ts rs) ≡ row_cells f ts ++ rows_cells (still f ts) rs
unfolding rows_cells before
cells-before f ts [] = refl
cells-before f ts (r ∷ rs) = ap (λ (l : List ℕ). l ++ rows_cells true rs) (cells-append f ts r) ∙ append_assoc (row_cells f ts) (row_cells (still f ts) r) (rows_cells true rs)

-- ---- cells of a line

-- the cells of a line's tokens, then those of the lines behind it, which its statement goes on in or not
abbrev then_cells : Bytes → Bool → List (List ℕ) → Bool → List (List ℕ) → List ℕ
then_cells text first ts goes ls = row_cells first ts ++ rows_cells (if goes then still first ts else true) (place_rows text ls)

abbrev pub line_cells : Bytes → Bool → List ℕ → List (List ℕ) → List ℕ
line_cells text first l ls = then_cells text first (place_tokens text (kept text l)) (continues (bytes_at text l)) ls

module _ (text : Bytes) (f : Bool) where
  line-cells : (l : List ℕ) (ls : List (List ℕ)) → rows_cells f (place_rows text (l ∷ ls)) ≡ line_cells text f l ls
  unfolding place_rows
  line-cells l ls =
      by-test (continues (bytes_at text l))
      (λ h. rw h (cells-before f (place_tokens text (kept text l)) (place_rows text ls)))
      (λ h. rw h (unfold rows_cells in refl))

  -- the first line, also where there is none, and the others
  pub lines-cells : (ls : List (List ℕ)) → rows_cells f (place_rows text ls) ≡ line_cells text f (first_of ls) (rest_of ls)
  unfolding place_rows place_tokens kept continues cut split non_empty row_cells rows_cells first_of rest_of
  lines-cells [] = refl
  lines-cells (l ∷ ls) = line-cells l ls

-- ---- bytes in front of others

any-behind : {A : Type 0} (p : A → Bool) (w s : List A) → any p w ≡ false → any p (w ++ s) ≡ any p s
any-behind p [] s e = refl
any-behind p (b ∷ w) s e = rw (or_left (p b) (any p w) e) (any-behind p w s (or_right (p b) (any p w) e))

cut-append : (w s : Bytes) → Without (eqb 35) w → cut (w ++ s) ≡ w ++ cut s
unfolding cut
cut-append [] s f = refl
cut-append (c ∷ w) s f = rw (or_left (eqb 35 c) (any (eqb 35) w) f) (ap (λ (r : Bytes). c ∷ r) (cut-append w s (or_right (eqb 35 c) (any (eqb 35) w) f)))

-- what stands before the last byte does not matter, but for a comment
continues-append : (w : Bytes) (c : ℕ) (s : Bytes) → Without (eqb 35) w → continues (w ++ c ∷ s) ≡ continues (c ∷ s)
unfolding continues
continues-append w c s f =
    let n : length (w ++ c ∷ s) - 1 ≡ length w + (length (c ∷ s) - 1) = omega (arith, length-append w (c ∷ s)) in
    rw (any-behind (eqb 35) w (c ∷ s) f, n, get_or-append-add w (c ∷ s) (length (c ∷ s) - 1) 0)

continues-one : (c : ℕ) → continues (c ∷ []) ≡ eqb 92 c
unfolding continues
continues-one c = by-test (eqb 35 c) (λ h. let q : c ≡ 35 = sym (eqb-true 35 c h) in rw q) (λ h. rw h)

-- a blank in front does not matter
continues-blank : (c : ℕ) (s : Bytes) → is_blank c ≡ true → continues (c ∷ s) ≡ continues s
continues-blank c [] e = continues-one c ∙ blank-not 92 c backslash-word e ∙ (unfold continues in refl)
continues-blank c (d ∷ s) e = continues-append (c ∷ []) d s (rw (blank-not 35 c hash-word e))

-- ---- places in front of a line

module _ (text : Bytes) where
  -- no byte at these places passes the test
  abbrev WithoutAt : (ℕ → Bool) → List ℕ → Type 0
  WithoutAt p w = Without p (bytes_at text w)

  bytes-append : (w l : List ℕ) → bytes_at text (w ++ l) ≡ bytes_at text w ++ bytes_at text l
  bytes-append w l = map-append (byte_at text) w l

  -- how many places are left of a line
  kept_count : List ℕ → ℕ
  kept_count l = if continues (bytes_at text l) then length l - 1 else length (cut (bytes_at text l))

  some-goes : (l : List ℕ) → continues (bytes_at text l) ≡ true → 0 < length l
  unfolding continues
  some-goes [] h = absurd (false≢true h)
  some-goes (c ∷ l) h = omega arith

  count-append : (w l : List ℕ) → WithoutAt (eqb 35) w → continues (bytes_at text (w ++ l)) ≡ continues (bytes_at text l) → kept_count (w ++ l) ≡ length w + kept_count l
  unfolding kept_count
  count-append w l f e =
      by-test (continues (bytes_at text l))
      (λ h. rw (e, h) (omega (arith, length-append w l, some-goes l h)))
      (λ h.
      rw (e, h)
      (ap length (ap cut (bytes-append w l) ∙ cut-append (bytes_at text w) (bytes_at text l) f)
      ∙ length-append (bytes_at text w) (cut (bytes_at text l))
      ∙ rw (length-map w (byte_at text))))

  kept_append : (w l : List ℕ) → WithoutAt (eqb 35) w → continues (bytes_at text (w ++ l)) ≡ continues (bytes_at text l) → kept text (w ++ l) ≡ w ++ kept text l
  unfolding kept kept_count
  kept_append w l f e = ap (λ (n : ℕ). take n (w ++ l)) (count-append w l f e) ∙ take-append-add w l (kept_count l)

  kept-blank : (c : ℕ) (l : List ℕ) → is_blank (byte_at text c) ≡ true → kept text (c ∷ l) ≡ c ∷ kept text l
  kept-blank c l e = kept_append (c ∷ []) l (rw (blank-not 35 (byte_at text c) hash-word e)) (continues-blank (byte_at text c) (bytes_at text l) e)

  -- a comment does not go on, and nothing is left of it
  comment-ends : (c : ℕ) (l : List ℕ) → byte_at text c ≡ 35 → continues (bytes_at text (c ∷ l)) ≡ false
  unfolding continues
  comment-ends c l e = rw e

  kept-comment : (c : ℕ) (l : List ℕ) → byte_at text c ≡ 35 → kept text (c ∷ l) ≡ []
  unfolding kept cut
  kept-comment c l e = rw (comment-ends c l e, e)

  -- ---- tokens

  pub tokens_none : place_tokens text [] ≡ []
  unfolding place_tokens split
  tokens_none = refl

  tokens-skip : (c : ℕ) (l : List ℕ) → is_blank (byte_at text c) ≡ true → place_tokens text (c ∷ l) ≡ place_tokens text l
  unfolding place_tokens
  tokens-skip c l e = full-skip (λ k. is_blank (byte_at text k)) c l e

  -- no byte at these places ends a word
  abbrev pub WordAt : List ℕ → Type 0
  WordAt w = Without (λ k. ends_word (byte_at text k)) w

  word-without : (p : ℕ → Bool) → ((c : ℕ) → ends_word c ≡ false → p c ≡ false) → (w : List ℕ) → WordAt w → Without (λ k. p (byte_at text k)) w
  word-without p g [] n = refl
  word-without p g (b ∷ w) n =
      rw (g (byte_at text b) (or_left (ends_word (byte_at text b)) (any (λ k. ends_word (byte_at text k)) w) n))
      (word-without p g w (or_right (ends_word (byte_at text b)) (any (λ k. ends_word (byte_at text k)) w) n))

  bytes-without : (p : ℕ → Bool) (w : List ℕ) → Without (λ k. p (byte_at text k)) w → WithoutAt p w
  bytes-without p [] n = refl
  bytes-without p (b ∷ w) n =
      rw (or_left (p (byte_at text b)) (any (λ k. p (byte_at text k)) w) n) (bytes-without p w (or_right (p (byte_at text b)) (any (λ k. p (byte_at text k)) w) n))

  -- it has no blank, and no comment
  no-blank : (w : List ℕ) → WordAt w → Without (λ k. is_blank (byte_at text k)) w
  no-blank w n = word-without is_blank word_blank w n

  no-hash : (w : List ℕ) → WordAt w → WithoutAt (eqb 35) w
  no-hash w n = bytes-without (eqb 35) w (word-without (eqb 35) word-plain w n)

  module _ (b : ℕ) (w : List ℕ) (n : WordAt (b ∷ w)) where
    pub tokens-word : place_tokens text (b ∷ w) ≡ (b ∷ w) ∷ []
    unfolding place_tokens
    tokens-word = full-last (λ k. is_blank (byte_at text k)) b w (no-blank (b ∷ w) n)

    tokens-before : (c : ℕ) (l : List ℕ) → is_blank (byte_at text c) ≡ true → place_tokens text ((b ∷ w) ++ c ∷ l) ≡ (b ∷ w) ∷ place_tokens text l
    unfolding place_tokens
    tokens-before c l e = full-end (λ k. is_blank (byte_at text k)) b w c l (no-blank (b ∷ w) n) e

    -- a word that ends what is left of a line
    tokens-end : (l : List ℕ) → kept text l ≡ [] → place_tokens text ((b ∷ w) ++ kept text l) ≡ (b ∷ w) ∷ place_tokens text (kept text l)
    tokens-end l e = rw (e, append-nil w, tokens_none) tokens-word

    -- a word before a blank or a comment
    tokens-front : (c : ℕ) (l : List ℕ) → ends_word (byte_at text c) ≡ true → place_tokens text ((b ∷ w) ++ kept text (c ∷ l)) ≡ (b ∷ w) ∷ place_tokens text (kept text (c ∷ l))
    tokens-front c l e =
        by-test (eqb 35 (byte_at text c))
        (λ h. tokens-end (c ∷ l) (kept-comment c l (sym (eqb-true 35 (byte_at text c) h))))
        (λ h.
        let k : is_blank (byte_at text c) ≡ true = blank_of (byte_at text c) e h in
        rw (kept-blank c l k, tokens-skip c (kept text l) k) (tokens-before c (kept text l) k))

  -- ---- a line's end

  ends-none : continues (bytes_at text []) ≡ false
  unfolding continues
  ends-none = refl

  kept-none : kept text [] ≡ []
  unfolding kept cut
  kept-none = rw ends-none

  module _ (w : List ℕ) (k : ℕ) (n : WordAt w) where
    -- a line that ends in a word goes on where its last byte is a backslash
    pub goes_last : continues (bytes_at text (w ++ k ∷ [])) ≡ eqb 92 (byte_at text k)
    goes_last = ap continues (bytes-append w (k ∷ [])) ∙ continues-append (bytes_at text w) (byte_at text k) [] (no-hash w n) ∙ continues-one (byte_at text k)

    backslash-goes : byte_at text k ≡ 92 → continues (bytes_at text (w ++ k ∷ [])) ≡ true
    backslash-goes e = goes_last ∙ rw e

    kept_goes : byte_at text k ≡ 92 → kept text (w ++ k ∷ []) ≡ w
    unfolding kept
    kept_goes e =
        let m : length (w ++ k ∷ []) - 1 ≡ length w = omega (arith, length-append w (k ∷ [])) in
        rw (backslash-goes e, m) (take-append_seam w (k ∷ []))

  -- ---- what stands at a line's front

  module _ (f : Bool) (ls : List (List ℕ)) where
    cells-by : (l : List ℕ) {ts : List (List ℕ)} {goes : Bool} → place_tokens text (kept text l) ≡ ts → continues (bytes_at text l) ≡ goes → line_cells text f l ls ≡ then_cells text f ts goes ls
    cells-by l p q = ap₂ (λ (ts : List (List ℕ)) (goes : Bool). then_cells text f ts goes ls) p q

    -- nothing is left of it
    cells-empty : (l : List ℕ) → kept text l ≡ [] → continues (bytes_at text l) ≡ false → line_cells text f l ls ≡ rows_cells true (place_rows text ls)
    unfolding row_cells
    cells-empty l e g = cells-by l (ap (place_tokens text) e ∙ tokens_none) g

    pub cells-none : line_cells text f [] ls ≡ rows_cells true (place_rows text ls)
    cells-none = cells-empty [] kept-none ends-none

    pub cells-comment : (c : ℕ) (l : List ℕ) → byte_at text c ≡ 35 → line_cells text f (c ∷ l) ls ≡ rows_cells true (place_rows text ls)
    cells-comment c l e = cells-empty (c ∷ l) (kept-comment c l e) (comment-ends c l e)

    -- a blank
    pub cells-blank : (c : ℕ) (l : List ℕ) → is_blank (byte_at text c) ≡ true → line_cells text f (c ∷ l) ls ≡ line_cells text f l ls
    cells-blank c l e = cells-by (c ∷ l) (ap (place_tokens text) (kept-blank c l e) ∙ tokens-skip c (kept text l) e) (continues-blank (byte_at text c) (bytes_at text l) e)

    module _ (b : ℕ) (w : List ℕ) (n : WordAt (b ∷ w)) where
      cells-front : (l : List ℕ) → continues (bytes_at text ((b ∷ w) ++ l)) ≡ continues (bytes_at text l) → place_tokens text ((b ∷ w) ++ kept text l) ≡ (b ∷ w) ∷ place_tokens text (kept text l)
          → line_cells text f ((b ∷ w) ++ l) ls ≡ places_cell f (b ∷ w) ∷ line_cells text false l ls
      unfolding row_cells
      cells-front l g t = cells-by ((b ∷ w) ++ l) (ap (place_tokens text) (kept_append (b ∷ w) l (no-hash (b ∷ w) n) g) ∙ t) g ∙ rw (still_false (place_tokens text (kept text l)))

      -- a word before a blank or a comment
      pub cells-word : (c : ℕ) (l : List ℕ) → ends_word (byte_at text c) ≡ true → line_cells text f ((b ∷ w) ++ c ∷ l) ls ≡ places_cell f (b ∷ w) ∷ line_cells text false (c ∷ l) ls
      cells-word c l e =
          cells-front (c ∷ l)
          (ap continues (bytes-append (b ∷ w) (c ∷ l)) ∙ continues-append (bytes_at text (b ∷ w)) (byte_at text c) (bytes_at text l) (no-hash (b ∷ w) n))
          (tokens-front b w n c l e)

      -- a word at the line's end
      pub cells-last : continues (bytes_at text (b ∷ w)) ≡ false → line_cells text f ((b ∷ w) ++ []) ls ≡ places_cell f (b ∷ w) ∷ line_cells text false [] ls
      cells-last e = cells-front [] (rw (append-nil w, e) (sym ends-none)) (tokens-end b w n [] kept-none)

    -- a backslash that ends the line
    pub cells-goes : (w : List ℕ) (k : ℕ) → WordAt w → byte_at text k ≡ 92 → line_cells text f (w ++ k ∷ []) ls ≡ row_cells f (place_tokens text w) ++ rows_cells (still f (place_tokens text w)) (place_rows text ls)
    cells-goes w k n e = cells-by (w ++ k ∷ []) (ap (place_tokens text) (kept_goes w k n e)) (backslash-goes w k n e)
