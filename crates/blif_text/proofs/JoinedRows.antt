-- A statement's tokens are those of its lines, one line after the other. Assumes nothing.
use mathlib.Core.Path.{◌≡◌, refl, ap, ◌∙◌}
use mathlib.Core.Bool.{Bool, true}
use mathlib.Core.List.{List, [], ◌∷◌, ◌++◌, map, append_assoc}
use Prim.Native.Nat.{ℕ, ◌-◌}
use lib.ListN.{length, take}
use Rattle.lists.specs.Lists.{Bytes, filter}
use Rattle.lists.proofs.Tests.{by-test}
use Rattle.blif_text.specs.Lines.{split, cut, continues, before, joined, is_blank, non_empty, tokens}
use Rattle.blif_text.specs.Between.Rows.{line_rows}
use Rattle.blif_text.proofs.Parts.{full-skip, first_of, rest_of, first-cons, rest-cons}

-- at a blank: go on
tokens-blank : (c : ℕ) (s : Bytes) → is_blank c ≡ true → tokens (c ∷ s) ≡ tokens s
unfolding tokens
tokens-blank c s e = full-skip is_blank c s e

-- ---- a blank between two texts parts their tokens

full : List Bytes → List Bytes
full ws = filter non_empty ws

-- the full parts are the first, if it is full, and the rest's
full-parts : (ws : List Bytes) → full ws ≡ full (first_of ws ∷ []) ++ full (rest_of ws)
unfolding full non_empty first_of rest_of
full-parts [] = refl
full-parts ([] ∷ ws) = refl
full-parts ((b ∷ w) ∷ ws) = refl

module _ (p : ℕ → Bool) (c : ℕ) (t : Bytes) (e : p c ≡ true) where
  first-same : (s : Bytes) → first_of (split p (s ++ c ∷ t)) ≡ first_of (split p s)
  unfolding split first_of
  first-same [] = rw e
  first-same (b ∷ s) =
      by-test (p b) (λ h. rw h)
      (λ h. rw (h, first-cons b (split p (s ++ c ∷ t)), first-cons b (split p s)) (ap (λ (r : Bytes). b ∷ r) (first-same s)))

  rest_more : (s : Bytes) → full (rest_of (split p (s ++ c ∷ t))) ≡ full (rest_of (split p s)) ++ full (split p t)
  unfolding split rest_of
  rest_more [] = rw e (unfold full in refl)
  rest_more (b ∷ s) =
      by-test (p b)
      (λ h. rw h (rw (full-parts (split p (s ++ c ∷ t)), first-same s, rest_more s, full-parts (split p s)) (simp append_assoc)))
      (λ h. rw (h, rest-cons b (split p (s ++ c ∷ t)), rest-cons b (split p s)) (rest_more s))

-- "Before each line a blank is added to the pending text": no token runs over it
tokens-parted : (s : Bytes) (c : ℕ) (t : Bytes) → is_blank c ≡ true → tokens (s ++ c ∷ t) ≡ tokens s ++ tokens t
unfolding tokens full
tokens-parted s c t e =
    full-parts (split is_blank (s ++ c ∷ t))
    ∙ rw (first-same is_blank c t e s, rest_more is_blank c t e s, ← append_assoc, ← full-parts (split is_blank s)) refl

-- ---- a statement's tokens, line by line

-- the first text, if there is one, begins with the added blank
abbrev Added : List Bytes → Type 0
Added [] = Unit {0}
Added (u ∷ us) = (v : Bytes) × (u ≡ 32 ∷ v)

before-added : (w : Bytes) (us : List Bytes) → Added (before (32 ∷ w) us)
unfolding before
before-added w [] = (w, refl)
before-added w (u ∷ us) = (w ++ u, refl)

joined-added : (ls : List Bytes) → Added (joined ls)
unfolding joined
joined-added [] = tt
joined-added (l ∷ ls) = by-test (continues l) (λ h. rw h (before-added _ (joined ls))) (λ h. rw h (cut l, refl))

blank-first : (w : Bytes) → tokens (32 ∷ w) ≡ tokens w
blank-first w = tokens-blank 32 w (unfold is_blank in refl)

row_before_lem : (w : Bytes) (us : List Bytes) → Added us → map tokens (before (32 ∷ w) us) ≡ before (tokens w) (map tokens us)
unfolding before
row_before_lem w [] a = rw (blank-first w)
row_before_lem w (u ∷ us) a =
    ap (λ (ts : List Bytes). ts ∷ map tokens us)
    (rw (a.1, tokens-parted (32 ∷ w) 32 a.0 (unfold is_blank in refl), blank-first w, blank-first a.0))

pub rows-joined : (ls : List Bytes) → map tokens (joined ls) ≡ line_rows ls
unfolding joined line_rows
rows-joined [] = refl
rows-joined (l ∷ ls) =
    by-test (continues l)
    (λ h. rw h (row_before_lem (take (length l - 1) l) (joined ls) (joined-added ls) ∙ ap (before (tokens (take (length l - 1) l))) (rows-joined ls)))
    (λ h. rw (h, blank-first (cut l), rows-joined ls))
