-- Whether some element passes a test, found from the front without stopping. Assumes nothing.
use mathlib.Core.Path.{◌≡◌, refl, sym, ap, ◌∙◌}
use mathlib.Core.Bool.{Bool, true, false, ◌||◌}
use mathlib.Core.List.{List, [], ◌∷◌}
use Prim.Native.Nat.{ℕ, zero, suc, ◌+◌, ◌≤◌, ◌<◌}
use native.Mathlib.Omega.{arith}
use lib.ListN.{length, get_or, take}
use lib.Seq.{take_all}
use Rattle.lists.specs.Lists.{any}
use Rattle.lists.proofs.Tests.{or-false}

-- whether one of the first i elements of l passes the test p
pub record Looked (p : ℕ → Bool) (l : List ℕ) (r : Bool) (i : ℕ) : Type 0 where
  pub within : i ≤ length l
  pub so : r ≡ any p (take i l)

pub looked-start : (p : ℕ → Bool) (l : List ℕ) → Looked p l false 0
looked-start p l = record { within = omega arith; so = refl }

-- the next element
any_next : (p : ℕ → Bool) (l : List ℕ) (i : ℕ) → i < length l → any p (take (suc i) l) ≡ (any p (take i l) || p (get_or l i 0))
any_next p [] i h = absurd (omega arith)
any_next p (x ∷ l) zero h = or-false (p x)
any_next p (x ∷ l) (suc i) h = ap (λ (b : Bool). p x || b) (any_next p l i (omega arith)) ∙ or-moved (p x) (any p (take i l)) (p (get_or l i 0))
  where
    or-moved : (a b c : Bool) → (a || (b || c)) ≡ ((a || b) || c)
    or-moved true b c = refl
    or-moved false b c = refl

pub looked-next : {p : ℕ → Bool} {l : List ℕ} {r : Bool} {i : ℕ} → i < length l → Looked p l r i → Looked p l (r || p (get_or l i 0)) (i + 1)
looked-next {p} {l} {r} {i} h c =
    let e : suc i ≡ i + 1 = omega arith in
    record {
      within = omega arith;
      so = ap (λ (b : Bool). b || p (get_or l i 0)) c.so ∙ sym (any_next p l i h) ∙ ap (λ (j : ℕ). any p (take j l)) e;
    }

pub looked-done : {p : ℕ → Bool} {l : List ℕ} {r : Bool} {i : ℕ} → length l ≤ i → Looked p l r i → r ≡ any p l
looked-done {p} {l} {r} {i} h c = c.so ∙ ap (any p) (take_all i l h)
