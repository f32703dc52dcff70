-- More numbers below n than n hold one twice. Assumes nothing.
use mathlib.Core.Path.{◌≡◌, refl, sym, ap}
use mathlib.Core.List.Memᴰ
use mathlib.Core.List.{List, [], ◌∷◌, Memᴰ}
use mathlib.Core.Logic.{◌⊎◌, inl, inr, ⊎_elim}
use Prim.Native.Nat.{ℕ, zero, suc, ◌<◌}
use native.Mathlib.Omega.{arith}
use native.Mathlib.Decide.{ℕ_discrete}
use lib.ListN.{length}
use Rattle.lists.specs.Lists.{Dup, here, there}
use Rattle.lists.proofs.Once.{dup-cases}

module _ {A : Type 0} where
  without : {x : A} {l : List A} → Memᴰ x l → List A
  without (Memᴰ.head {xs = l} e) = l
  without (Memᴰ.tail {x = y} m) = y ∷ without m

  without-length : {x : A} {l : List A} (m : Memᴰ x l) → length l ≡ suc (length (without m))
  unfolding without
  without-length (Memᴰ.head e) = refl
  without-length (Memᴰ.tail m) = ap suc (without-length m)

  without-mem : {x y : A} {l : List A} (m : Memᴰ x l) → Memᴰ y (without m) → Memᴰ y l
  unfolding without
  without-mem (Memᴰ.head e) w = Memᴰ.tail w
  without-mem {x} {y} (Memᴰ.tail {x = z} {xs = l} m) w =
      ⊎_elim (λ (e : y ≡ z). Memᴰ.head e) (λ (v : Memᴰ y (without m)). Memᴰ.tail (without-mem m v)) (Memᴰ.cases_cons w)

  without-dup : {x : A} {l : List A} (m : Memᴰ x l) → Dup (without m) → Dup l
  unfolding without
  without-dup (Memᴰ.head e) d = there d
  without-dup (Memᴰ.tail m) d = ⊎_elim (λ v. here (without-mem m v)) (λ v. there (without-dup m v)) (dup-cases d)

  defined_twice : {x : A} {l : List A} (m : Memᴰ x l) → Memᴰ x (without m) → Dup l
  unfolding without
  defined_twice (Memᴰ.head e) w = here (Memᴰ.cast (sym e) w)
  defined_twice {x} (Memᴰ.tail {x = z} m) w =
      ⊎_elim (λ (e : x ≡ z). here (Memᴰ.cast (sym e) m)) (λ (v : Memᴰ x (without m)). there (defined_twice m v)) (Memᴰ.cases_cons w)

mem? : (n : ℕ) (l : List ℕ) → Memᴰ n l ⊎ (Memᴰ n l → ⊥)
mem? n [] = inr Memᴰ.not-nil
mem? n (x ∷ l) = go (ℕ_discrete n x) (mem? n l)
  where
    go : Dec (n ≡ x) → Memᴰ n l ⊎ (Memᴰ n l → ⊥) → Memᴰ n (x ∷ l) ⊎ (Memᴰ n (x ∷ l) → ⊥)
    go (yes e) r = inl (Memᴰ.head e)
    go (no e) (inl m) = inl (Memᴰ.tail m)
    go (no e) (inr m) = inr (λ w. ⊎_elim e m (Memᴰ.cases_cons w))

abbrev pub Below : ℕ → List ℕ → Type 0
Below n l = (x : ℕ) → Memᴰ x l → x < n

lower : (n : ℕ) (l : List ℕ) → Below (suc n) l → (Memᴰ n l → ⊥) → Below n l
lower n l b h x m = go (ℕ_discrete x n)
  where
    go : Dec (x ≡ n) → x < n
    go (yes e) = absurd (h (Memᴰ.cast (sym e) m))
    go (no e) = let u : x < suc n = b x m in omega arith

pub pigeons : (n : ℕ) (l : List ℕ) → Below n l → n < length l → Dup l
pigeons zero [] b h = absurd (omega arith)
pigeons zero (x ∷ l) b h = absurd (let u : x < zero = b x (Memᴰ.head refl) in omega arith)
pigeons (suc n) l b h = go (mem? n l) (pigeons n l) (λ m. pigeons n (without m))
  where
    go : Memᴰ n l ⊎ (Memᴰ n l → ⊥) → (Below n l → n < length l → Dup l)
        → ((m : Memᴰ n l) → Below n (without m) → n < length (without m) → Dup (without m)) → Dup l
    go (inr out) same less = same (lower n l b out) (omega arith)
    go (inl m) same less = ⊎_elim (λ w. defined_twice m w)
        (λ w. without-dup m (less m (lower n (without m) (λ x v. b x (without-mem m v)) w) (omega (arith, without-length m))))
        (mem? n (without m))
