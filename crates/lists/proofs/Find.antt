-- The search through a list: what it finds stands there, and it finds all that stands there once. Assumes nothing.
use Rattle.std.specs.Prelude.{if◌then◌else◌}
use mathlib.Core.Path.{◌≡◌, refl, sym, ap, ◌∙◌}
use mathlib.Core.List.Memᴰ
use mathlib.Core.List.{List, [], ◌∷◌, Memᴰ}
use mathlib.Core.Bool.{Bool, true, false, false≢true}
use mathlib.Core.Option.{Option, none, some, map, none-ne-some}
use mathlib.Core.Logic.{⊎_elim}
use Prim.Native.Nat.{ℕ, zero, suc}
use native.Mathlib.Omega.{arith}
use lib.ListN.{get_elem?}
use Rattle.lists.specs.Lists.{Bytes, same, Dup, here, there, find}
use Rattle.lists.proofs.Places.{place-mem}
use Rattle.lists.proofs.Same.{same_refl, same-is}

module _ {A : Type 0} where
  pub same_place : (l : List A) (i j : ℕ) (x : A) → (Dup l → ⊥) → get_elem? l i ≡ some x → get_elem? l j ≡ some x → i ≡ j
  same_place [] i j x o e f = absurd (none-ne-some x e)
  same_place (y ∷ l) zero zero x o e f = refl
  same_place (y ∷ l) zero (suc j) x o e f = absurd (o (here (Memᴰ.cast {b = x} (cc) (place-mem l j x f))))
  same_place (y ∷ l) (suc i) zero x o e f = absurd (o (here (Memᴰ.cast {b = x} (cc) (place-mem l i x e))))
  same_place (y ∷ l) (suc i) (suc j) x o e f = ap suc (same_place l i j x (λ d. o (there d)) e f)

module _ {A : Type 0} (p : A → Bool) where
  -- what is found stands there, and passes the test
  pub find-some : (l : List A) (i : ℕ) → find p l ≡ some i → (x : A) × (get_elem? l i ≡ some x) × (p x ≡ true)
  find-some [] i e = absurd (none-ne-some i e)
  find-some (y ∷ l) i e = go (p y) refl (find p l) refl i e (find-some l)
    where
      go : (t : Bool) → p y ≡ t → (r : Option ℕ) → find p l ≡ r → (k : ℕ) → (if t then some 0 else map suc r) ≡ some k
          → ((n : ℕ) → find p l ≡ some n → (x : A) × (get_elem? l n ≡ some x) × (p x ≡ true)) → (x : A) × (get_elem? (y ∷ l) k ≡ some x) × (p x ≡ true)
      go true q r f zero w ih = (y, refl, q)
      go true q r f (suc k) w ih = absurd (let z : 0 ≡ suc k = cc in omega arith)
      go false q none f k w ih = absurd (none-ne-some k w)
      go false q (some n) f zero w ih = absurd (let z : suc n ≡ 0 = cc in omega arith)
      go false q (some n) f (suc k) w ih = let z : suc n ≡ suc k = cc in ih k (f ∙ ap some (omega arith))

  -- where nothing is found, nothing passes
  pub find_none : (l : List A) → find p l ≡ none → (x : A) → Memᴰ x l → p x ≡ true → ⊥
  find_none [] e x m q = Memᴰ.not-nil m
  find_none (y ∷ l) e x m q = go (p y) refl (find p l) refl e (λ f n. find_none l f x n q)
    where
      go : (t : Bool) → p y ≡ t → (r : Option ℕ) → find p l ≡ r → (if t then some 0 else map suc r) ≡ none → (find p l ≡ none → Memᴰ x l → ⊥) → ⊥
      go true f r g w ih = none-ne-some 0 (sym w)
      go false f none g w ih = ⊎_elim (λ (u : x ≡ y). false≢true (sym f ∙ ap p (sym u) ∙ q)) (ih g) (Memᴰ.cases_cons m)
      go false f (some n) g w ih = none-ne-some (suc n) (sym w)

  -- where nothing passes, nothing is found
  pub find-out : (l : List A) → ((x : A) → Memᴰ x l → p x ≡ true → ⊥) → find p l ≡ none
  find-out l h = go (find p l) refl
    where
      go : (r : Option ℕ) → find p l ≡ r → find p l ≡ none
      go none q = q
      go (some j) q = let f = find-some l j q in absurd (h f.0 (place-mem l j f.0 f.1) f.2)

  -- the place of the only one that passes, where it stands once
  pub find_at : (l : List A) (x : A) (i : ℕ) → (Dup l → ⊥) → ((y : A) → p y ≡ true → y ≡ x) → p x ≡ true → get_elem? l i ≡ some x → find p l ≡ some i
  find_at l x i once only passes e = go (find p l) refl
    where
      go : (r : Option ℕ) → find p l ≡ r → find p l ≡ some i
      go none q = absurd (find_none l q x (place-mem l i x e) passes)
      go (some j) q = let f = find-some l j q in q ∙ ap some (same_place l j i x once (f.1 ∙ ap some (only f.0 f.2)) e)

-- ---- a name

-- its place, where no name stands twice
pub find-name : (l : List Bytes) (x : Bytes) (i : ℕ) → (Dup l → ⊥) → get_elem? l i ≡ some x → find (same x) l ≡ some i
find-name l x i once e = find_at (same x) l x i once (λ y q. sym (same-is x y q)) (same_refl x) e

-- none, where it does not stand
pub find-no-name : (l : List Bytes) (x : Bytes) → (Memᴰ x l → ⊥) → find (same x) l ≡ none
find-no-name l x h = find-out (same x) l (λ y m q. h (Memᴰ.cast {b = y} (same-is x y q) m))
