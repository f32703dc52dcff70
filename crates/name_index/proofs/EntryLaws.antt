-- The entries of the index as a list: what is found among them. Assumes nothing.
use mathlib.Core.Path.{◌≡◌, refl, sym, ap, ap₂, ◌∙◌}
use mathlib.Core.Bool.{Bool, true, false, cond, ◌||◌, or-true}
use mathlib.Core.List.{List, [], ◌∷◌, ◌++◌, map}
use Prim.Native.Nat.{ℕ, zero, suc, ◌+◌, ◌≤◌, ◌<◌}
use native.Mathlib.Omega.{arith}
use native.Mathlib.Nat.{add-zero}
use Rattle.lists.specs.Lists.{Bytes, range, same, known}
use Rattle.name_index.specs.Between.Search.{Entry, signal_in}

-- one number more
pub map-range-last : {A : Type 0} (f : ℕ → A) (n k : ℕ) → map f (range n (suc k)) ≡ map f (range n k) ++ (f (n + k) ∷ [])
map-range-last f n zero = ap (λ (j : ℕ). f j ∷ []) (sym (add-zero n))
map-range-last {A} f n (suc k) =
    let e : suc n + k ≡ n + suc k = omega arith in
    ap (λ (l : List A). f n ∷ l) (map-range-last f (suc n) k ∙ ap (λ (j : ℕ). map f (range (suc n) k) ++ (f j ∷ [])) e)

-- equal functions on the numbers
pub map-range-same : {A : Type 0} (f g : ℕ → A) (n k : ℕ) → ((e : ℕ) → n ≤ e → e < n + k → f e ≡ g e) → map f (range n k) ≡ map g (range n k)
map-range-same f g n zero h = refl
map-range-same {A} f g n (suc k) h =
    ap₂ (λ (a : A) (l : List A). a ∷ l) (h n (omega arith) (omega arith)) (map-range-same f g (suc n) k (λ e a b. h e (omega arith) (omega arith)))

module _ (f : ℕ → Entry) (x : Bytes) where
  -- none of the entries has the name
  pub signal-none : (n k : ℕ) → ((e : ℕ) → n ≤ e → e < n + k → same x (f e).name ≡ false) → signal_in (map f (range n k)) x ≡ 0
  signal-none n zero h = refl
  signal-none n (suc k) h =
      let r : signal_in (map f (range (suc n) k)) x ≡ 0 = signal-none (suc n) k (λ e a b. h e (omega arith) (omega arith)) in
      ap (λ (t : Bool). cond t (f n).signal (signal_in (map f (range (suc n) k)) x)) (h n (omega arith) (omega arith)) ∙ r

  pub known-none : (n k : ℕ) → ((e : ℕ) → n ≤ e → e < n + k → same x (f e).name ≡ false)
      → known x (map (λ (e : Entry). e.name) (map f (range n k))) ≡ false
  known-none n zero h = refl
  known-none n (suc k) h =
      let r : known x (map (λ (e : Entry). e.name) (map f (range (suc n) k))) ≡ false = known-none (suc n) k (λ e a b. h e (omega arith) (omega arith)) in
      ap₂ (λ (s t : Bool). s || t) (h n (omega arith) (omega arith)) r

  -- this entry has it, and none before
  pub signal-at : (n k i : ℕ) → i < k → ((e : ℕ) → n ≤ e → e < n + i → same x (f e).name ≡ false) → same x (f (n + i)).name ≡ true
      → signal_in (map f (range n k)) x ≡ (f (n + i)).signal
  signal-at n zero i l h t = absurd (omega arith)
  signal-at n (suc k) zero l h t =
      let z : n ≡ n + 0 = omega arith in
      let u : same x (f n).name ≡ true = ap (λ (j : ℕ). same x (f j).name) z ∙ t in
      ap (λ (b : Bool). cond b (f n).signal (signal_in (map f (range (suc n) k)) x)) u ∙ ap (λ (j : ℕ). (f j).signal) z
  signal-at n (suc k) (suc i) l h t =
      let z : n + suc i ≡ suc n + i = omega arith in
      let r : signal_in (map f (range (suc n) k)) x ≡ (f (suc n + i)).signal =
      signal-at (suc n) k i (omega arith) (λ e a b. h e (omega arith) (omega arith)) (sym (ap (λ (j : ℕ). same x (f j).name) z) ∙ t) in
      ap (λ (b : Bool). cond b (f n).signal (signal_in (map f (range (suc n) k)) x)) (h n (omega arith) (omega arith)) ∙ r ∙ sym (ap (λ (j : ℕ). (f j).signal) z)

  pub known_at : (n k i : ℕ) → i < k → same x (f (n + i)).name ≡ true → known x (map (λ (e : Entry). e.name) (map f (range n k))) ≡ true
  known_at n zero i l t = absurd (omega arith)
  known_at n (suc k) zero l t =
      let z : n ≡ n + 0 = omega arith in
      let u : same x (f n).name ≡ true = ap (λ (j : ℕ). same x (f j).name) z ∙ t in
      ap (λ (b : Bool). b || known x (map (λ (e : Entry). e.name) (map f (range (suc n) k)))) u
  known_at n (suc k) (suc i) l t =
      let z : n + suc i ≡ suc n + i = omega arith in
      let r : known x (map (λ (e : Entry). e.name) (map f (range (suc n) k))) ≡ true =
      known_at (suc n) k i (omega arith) (sym (ap (λ (j : ℕ). same x (f j).name) z) ∙ t) in
      ap (λ (b : Bool). same x (f n).name || b) r ∙ or-true (same x (f n).name)
