-- The masks stand "in rising order, column i being bit i" (document 01, src/io/blif.rs). Assumes nothing.
use mathlib.Core.Path.{◌≡◌, refl, sym, ap, ap₂, ◌∙◌}
use mathlib.Core.Bool.{Bool, false}
use mathlib.Core.List.{List, [], ◌∷◌}
use Prim.Native.Nat.{ℕ, zero, suc, ◌*◌, ◌/◌, ◌%◌, ◌^◌, ◌<◌}
use native.Mathlib.Omega.{arith}
use native.Mathlib.Nat.{pow-succ', div-one, div-div-eq-div-mul}
use lib.Dec.{eqb}
use lib.ListN.{length, get_or}
use Rattle.blif_writing.specs.WrittenModel.{doubled, masks}

doubled-length : (vs : List (List Bool)) → length (doubled vs) ≡ 2 * length vs
doubled-length [] = refl
doubled-length (v ∷ vs) = omega (arith, doubled-length vs)

pub masks-count : (n : ℕ) → length (masks n) ≡ 2 ^ n
masks-count zero = refl
masks-count (suc n) = omega (arith, doubled-length (masks n), masks-count n, pow-succ' 2 n)

-- a doubled vector at place m is the one at place m / 2 behind bit 0 of m
doubled-at : (vs : List (List Bool)) (m : ℕ) → m < 2 * length vs → get_or (doubled vs) m [] ≡ eqb (m % 2) 1 ∷ get_or vs (m / 2) []
doubled-at [] m h = absurd (omega arith)
doubled-at (v ∷ vs) zero h = refl
doubled-at (v ∷ vs) (suc zero) h = refl
doubled-at (v ∷ vs) (suc (suc m)) h =
    let e : suc (m / 2) ≡ suc (suc m) / 2 = omega arith in
    let f : m % 2 ≡ suc (suc m) % 2 = omega arith in
    doubled-at vs m (omega arith) ∙ ap₂ (λ (a k : ℕ). eqb a 1 ∷ get_or (v ∷ vs) k []) f e

pub mask-bits : (n m : ℕ) → m < 2 ^ n → (i : ℕ) → i < n → get_or (get_or (masks n) m []) i false ≡ eqb (m / 2 ^ i % 2) 1
mask-bits zero m h i l = absurd (omega arith)
mask-bits (suc n) m h i l = ap (λ (v : List Bool). get_or v i false) at ∙ go i l (mask-bits n (m / 2) (omega (arith, pow-succ' 2 n)))
  where
    at : get_or (masks (suc n)) m [] ≡ eqb (m % 2) 1 ∷ get_or (masks n) (m / 2) []
    at = doubled-at (masks n) m (omega (arith, masks-count n, pow-succ' 2 n))

    go : (j : ℕ) → j < suc n → ((k : ℕ) → k < n → get_or (get_or (masks n) (m / 2) []) k false ≡ eqb (m / 2 / 2 ^ k % 2) 1)
        → get_or (eqb (m % 2) 1 ∷ get_or (masks n) (m / 2) []) j false ≡ eqb (m / 2 ^ j % 2) 1
    go zero l ih = ap (λ (k : ℕ). eqb (k % 2) 1) (sym (div-one m))
    go (suc j) l ih =
        ih j (omega arith) ∙ ap (λ (k : ℕ). eqb (k % 2) 1) (div-div-eq-div-mul m 2 (2 ^ j) ∙ ap (λ (k : ℕ). m / k) (sym (pow-succ' 2 j)))
