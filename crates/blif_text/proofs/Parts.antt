-- The parts of a text between bytes that pass a test. Assumes nothing.
use mathlib.Core.Path.{◌≡◌, refl}
use mathlib.Core.Bool.{Bool, true, false}
use mathlib.Core.List.{List, [], ◌∷◌, ◌++◌}
use Prim.Native.Nat.{ℕ}
use Rattle.lists.specs.Lists.{Bytes, any, filter}
use Rattle.lists.proofs.Tests.{or_left, or_right}
use Rattle.blif_text.specs.Lines.{cons_first, split, non_empty}

-- no byte passes the test
abbrev pub Without : (ℕ → Bool) → Bytes → Type 0
Without p w = any p w ≡ false

-- a part without an end in it, then the end
pub split-end : (p : ℕ → Bool) (w : Bytes) (c : ℕ) (s : Bytes) → Without p w → p c ≡ true → split p (w ++ c ∷ s) ≡ w ∷ split p s
unfolding split cons_first
split-end p [] c s f e = rw e
split-end p (b ∷ w) c s f e = rw (or_left (p b) (any p w) f, split-end p w c s (or_right (p b) (any p w) f) e)

-- a last part without an end in it
pub split-last : (p : ℕ → Bool) (b : ℕ) (w : Bytes) → Without p (b ∷ w) → split p (b ∷ w) ≡ (b ∷ w) ∷ []
unfolding split cons_first
split-last p b [] f = rw (or_left (p b) false f)
split-last p b (c ∷ w) f = rw (or_left (p b) (any p (c ∷ w)) f, split-last p c w (or_right (p b) (any p (c ∷ w)) f))

-- ---- the parts that are not empty

-- an end at the front
pub full-skip : (p : ℕ → Bool) (c : ℕ) (s : Bytes) → p c ≡ true → filter non_empty (split p (c ∷ s)) ≡ filter non_empty (split p s)
unfolding split non_empty
full-skip p c s e = rw e

-- a part that an end ends
pub full-end : (p : ℕ → Bool) (b : ℕ) (w : Bytes) (c : ℕ) (s : Bytes) → Without p (b ∷ w) → p c ≡ true
    → filter non_empty (split p ((b ∷ w) ++ c ∷ s)) ≡ (b ∷ w) ∷ filter non_empty (split p s)
unfolding non_empty
full-end p b w c s f e = rw (split-end p (b ∷ w) c s f e)

-- the last part
pub full-last : (p : ℕ → Bool) (b : ℕ) (w : Bytes) → Without p (b ∷ w) → filter non_empty (split p (b ∷ w)) ≡ (b ∷ w) ∷ []
unfolding non_empty
full-last p b w f = rw (split-last p b w f)

-- ---- the first part, and the others

unfoldable pub first_of : List Bytes → Bytes
first_of [] = []
first_of (w ∷ ws) = w

unfoldable pub rest_of : List Bytes → List Bytes
rest_of [] = []
rest_of (w ∷ ws) = ws

pub first-cons : (b : ℕ) (ws : List Bytes) → first_of (cons_first b ws) ≡ b ∷ first_of ws
unfolding first_of cons_first
first-cons b [] = refl
first-cons b (w ∷ ws) = refl

pub rest-cons : (b : ℕ) (ws : List Bytes) → rest_of (cons_first b ws) ≡ rest_of ws
unfolding rest_of cons_first
rest-cons b [] = refl
rest-cons b (w ∷ ws) = refl
