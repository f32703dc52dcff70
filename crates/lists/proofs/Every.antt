-- A property of every element of a list. Assumes nothing.
use mathlib.Core.Path.{◌≡◌, refl, ap, ap₂, subst}
use mathlib.Core.Bool.{Bool, true, false, ◌||◌}
use mathlib.Core.List.{List, [], ◌∷◌, ◌++◌, map}
use mathlib.Core.Option.{some, none-ne-some}
use Prim.Native.Nat.{ℕ, zero, suc}
use lib.ListN.{get_elem?}
use Rattle.lists.specs.Lists.{all, any}
use Rattle.lists.proofs.Tests.{and_left, and_right}

pub data Every {A : Type 0} (P : A → Type 0) : List A → Type 0 where
  every-nil : Every P []
  every-cons : {x : A} {xs : List A} → P x → Every P xs → Every P (x ∷ xs)

module _ {A : Type 0} {P : A → Type 0} where
  pub every_append : {s t : List A} → Every P s → Every P t → Every P (s ++ t)
  every_append every-nil k = k
  every_append (every-cons h hs) k = every-cons h (every_append hs k)

  pub every_of : {Q : A → Type 0} {l : List A} → ((x : A) → P x → Q x) → Every P l → Every Q l
  every_of f every-nil = every-nil
  every_of f (every-cons h hs) = every-cons (f _ h) (every_of f hs)

  pub every_map : {B : Type 0} (f : B → A) (l : List B) → ((x : B) → P (f x)) → Every P (map f l)
  every_map f [] h = every-nil
  every_map f (x ∷ l) h = every-cons (h x) (every_map f l h)

  -- what every element has, the one at a place has
  pub every-place : {l : List A} → Every P l → (i : ℕ) (x : A) → get_elem? l i ≡ some x → P x
  every-place every-nil i x e = absurd (none-ne-some x e)
  every-place (every-cons {x = y} h hs) zero x e = let q : y ≡ x = cc in subst P q h
  every-place (every-cons h hs) (suc i) x e = every-place hs i x e

  -- a test of every element gives what the test means
  pub every-test : (p : A → Bool) → ((x : A) → p x ≡ true → P x) → (l : List A) → all p l ≡ true → Every P l
  every-test p f [] e = every-nil
  every-test p f (x ∷ l) e = every-cons (f x (and_left (p x) (all p l) e)) (every-test p f l (and_right (p x) (all p l) e))

  -- no element passes a test that the property excludes
  pub every-no : (p : A → Bool) → ((x : A) → P x → p x ≡ false) → {l : List A} → Every P l → any p l ≡ false
  every-no p f every-nil = refl
  every-no p f (every-cons {x = x} h hs) = ap₂ (λ (a b : Bool). a || b) (f x h) (every-no p f hs)

-- where no element of the second list passes the test, those of the first decide
pub any_append : {A : Type 0} (p : A → Bool) (l k : List A) → any p k ≡ false → any p (l ++ k) ≡ any p l
any_append p [] k f = f
any_append p (c ∷ l) k f = ap (λ (b : Bool). p c || b) (any_append p l k f)
