-- A function that gives a list's elements from a place on, and a property of each element with its place. Assumes nothing.
use mathlib.Core.Path.{◌≡◌, refl, sym, ap, ◌∙◌, subst}
use mathlib.Core.List.{List, [], ◌∷◌, ◌++◌}
use mathlib.Core.Option.{some}
use Prim.Native.Nat.{ℕ, zero, suc, ◌+◌}
use native.Mathlib.Omega.{arith}
use native.Mathlib.Nat.{add-zero}
use lib.ListN.{length, get_or, get_elem?}
use Rattle.lists.proofs.Places.{place-left, get_or-place}

-- β gives the elements of l from place k on
abbrev pub Seg : {A : Type 0} → (ℕ → A) → ℕ → List A → Type 0
Seg β k [] = Unit {0}
Seg β k (x ∷ l) = (β k ≡ x) × Seg β (suc k) l

pub seg-append : {A : Type 0} (β : ℕ → A) (k : ℕ) (l m : List A) → Seg β k (l ++ m) → Seg β k l × Seg β (k + length l) m
seg-append β k [] m s = (tt, subst (λ (j : ℕ). Seg β j m) (omega arith) s)
seg-append β k (x ∷ l) m s =
    let r : Seg β (suc k) l × Seg β (suc k + length l) m = seg-append β (suc k) l m s.1 in
    ((s.0, r.0), subst (λ (j : ℕ). Seg β j m) (omega arith) r.1)

pub seg-of : {A : Type 0} (d : A) (β : ℕ → A) (k : ℕ) (l : List A) → ((i : ℕ) → β (k + i) ≡ get_or l i d) → Seg β k l
seg-of d β k [] h = tt
seg-of d β k (x ∷ l) h = (ap β (sym (add-zero k)) ∙ h 0, seg-of d β (suc k) l (λ i. ap β (omega arith) ∙ h (suc i)))

-- a property of each element with its place, the first being j
abbrev pub Each : {A : Type 0} → (ℕ → A → Type 0) → ℕ → List A → Type 0
Each P j [] = Unit {0}
Each P j (x ∷ l) = P j x × Each P (suc j) l

pub each_of : {A : Type 0} (P : ℕ → A → Type 0) (j : ℕ) (l : List A) → ((i : ℕ) (x : A) → get_elem? l i ≡ some x → P (j + i) x) → Each P j l
each_of P j [] h = tt
each_of P j (x ∷ l) h =
    (subst (λ (k : ℕ). P k x) (add-zero j) (h 0 x refl), each_of P (suc j) l (λ i y e. subst (λ (k : ℕ). P k y) (omega arith) (h (suc i) y e)))

pub each_append : {A : Type 0} (P : ℕ → A → Type 0) (j : ℕ) (l m : List A) → Each P j l → Each P (j + length l) m → Each P j (l ++ m)
each_append P j [] m a b = subst (λ (k : ℕ). Each P k m) (add-zero j) b
each_append P j (x ∷ l) m a b = (a.0, each_append P (suc j) l m a.1 (subst (λ (k : ℕ). Each P k m) (omega arith) b))

pub each_at : {A : Type 0} (P : ℕ → A → Type 0) (j : ℕ) (l : List A) → Each P j l → (i : ℕ) (x : A) → get_elem? l i ≡ some x → P (j + i) x
each_at P j [] h i x e = absurd (let z : ◌≡◌ {A = ℕ} 0 1 = cc in omega arith)
each_at P j (y ∷ l) h zero x e = let q : y ≡ x = cc in subst (λ (k : ℕ). P k x) (sym (add-zero j)) (subst (P j) q h.0)
each_at P j (y ∷ l) h (suc i) x e = subst (λ (k : ℕ). P k x) (omega arith) (each_at P (suc j) l h.1 i x e)

-- a place of the first list is one of the join
pub place-front : {A : Type 0} (d : A) (l m : List A) (j : ℕ) (x : A) → get_elem? l j ≡ some x → get_or (l ++ m) j d ≡ x
place-front d l m j x e = get_or-place d (l ++ m) j x (place-left l m j x e)
