-- `same` is equality of lists, and code that compares byte by byte finds it. Assumes nothing.
use mathlib.Core.Path.{◌≡◌, refl, sym, ap, ap₂}
use mathlib.Core.Bool.{Bool, true, false, false≢true, ◌&&◌}
use mathlib.Core.List.{[], ◌∷◌}
use Prim.Native.Nat.{ℕ, suc}
use lib.Dec.{eqb}
use lib.ListN.{length}
use lib.Pointwise.{pointwise}
use borrow.Author.Tests.{eq-eqb, eqb-true}
use Rattle.lists.specs.Lists.{Bytes, same}
use Rattle.lists.proofs.Tests.{and_left, and_right, and_both, and-false}

pub same_refl : (s : Bytes) → same s s ≡ true
unfolding same
same_refl [] = refl
same_refl (x ∷ s) = and_both (eqb x x) (same s s) (eq-eqb x x refl) (same_refl s)

pub same-is : (s t : Bytes) → same s t ≡ true → s ≡ t
unfolding same
same-is [] [] e = refl
same-is [] (y ∷ t) e = absurd (false≢true e)
same-is (x ∷ s) [] e = absurd (false≢true e)
same-is (x ∷ s) (y ∷ t) e =
    ap₂ (λ (a : ℕ) (l : Bytes). a ∷ l) (eqb-true x y (and_left (eqb x y) (same s t) e)) (same-is s t (and_right (eqb x y) (same s t) e))

pub same-lengths : (a b : Bytes) → (length a ≡ length b → ⊥) → false ≡ same a b
unfolding same
same-lengths [] [] f = absurd (f refl)
same-lengths [] (y ∷ b) f = refl
same-lengths (x ∷ a) [] f = refl
same-lengths (x ∷ a) (y ∷ b) f = sym (rw (sym (same-lengths a b (λ e. f (ap suc e)))) (and-false (eqb x y)))

-- `==` compares element by element, and says false where one list goes on
pub compares-same : (a b : Bytes) → pointwise eqb a b ≡ same a b
unfolding same
compares-same [] [] = refl
compares-same [] (y ∷ b) = refl
compares-same (x ∷ a) [] = refl
compares-same (x ∷ a) (y ∷ b) = ap (λ (t : Bool). eqb x y && t) (compares-same a b)
