-- Tests over every element of a list, and over a range of numbers from a place on. Assumes nothing.
use mathlib.Core.Path.{◌≡◌, refl, sym, ap, ◌∙◌}
use mathlib.Core.Bool.{Bool, true, false, ◌&&◌, and_assoc}
use mathlib.Core.List.{List, [], ◌∷◌, ◌++◌, map, Memᴰ}
use mathlib.Core.Option.{some}
use Prim.Native.Nat.{ℕ, zero, suc, ◌+◌, ◌-◌, ◌≤◌, ◌<◌}
use native.Mathlib.Omega.{arith}
use native.Mathlib.Nat.{add-zero, add-suc, suc-add, sub-zero}
use native.Mathlib.Numerals.{add-one}
use lib.Seq.{drop-cons}
use lib.ListN.{length, get_elem?, get_or, drop, drop_of_length-le}
use Rattle.lists.specs.Lists.{all, any, range}
use Rattle.lists.proofs.Places.{map-place, drop-next}
use Rattle.lists.proofs.Tests.{and_both, and_left, and_right, and-true, or_left, or_right}

module _ {A : Type 0} (p : A → Bool) where
  passes_at : (x : A) (l : List A) → all p l ≡ true → Memᴰ x l → p x ≡ true
  passes_at x _ t (Memᴰ.head {x = y} {xs = l} e) = ap p e ∙ and_left (p y) (all p l) t
  passes_at x _ t (Memᴰ.tail {x = y} {xs = l} m) = passes_at x l (and_right (p y) (all p l) t) m

  pub all-mem : (l : List A) → all p l ≡ true → (x : A) → Memᴰ x l → p x ≡ true
  all-mem l t x m = passes_at x l t m

  pub mem-all : (l : List A) → ((x : A) → Memᴰ x l → p x ≡ true) → all p l ≡ true
  mem-all [] h = refl
  mem-all (y ∷ l) h = and_both (p y) (all p l) (h y (Memᴰ.head refl)) (mem-all l (λ x m. h x (Memᴰ.tail m)))

  pub all_append : (l k : List A) → all p (l ++ k) ≡ (all p l && all p k)
  all_append [] k = refl
  all_append (x ∷ l) k = ap (λ (b : Bool). p x && b) (all_append l k) ∙ sym (and_assoc (p x) (all p l) (all p k))

  pub all_map : {B : Type 0} (f : B → A) (l : List B) → all p (map f l) ≡ all (λ (x : B). p (f x)) l
  all_map f [] = refl
  all_map f (x ∷ l) = ap (λ (b : Bool). p (f x) && b) (all_map f l)

-- no element passes a test that none passes
fails_at : {A : Type 0} (p : A → Bool) (x : A) (l : List A) → any p l ≡ false → Memᴰ x l → p x ≡ false
fails_at p x _ e (Memᴰ.head {x = y} {xs = l} q) = ap p q ∙ or_left (p y) (any p l) e
fails_at p x _ e (Memᴰ.tail {x = y} {xs = l} m) = fails_at p x l (or_right (p y) (any p l) e) m

pub any_none : {A : Type 0} (p : A → Bool) (l : List A) → any p l ≡ false → (x : A) → Memᴰ x l → p x ≡ false
any_none p l e x m = fails_at p x l e m

pub length-range : (n k : ℕ) → length (range n k) ≡ k
length-range n zero = refl
length-range n (suc k) = ap suc (length-range (suc n) k)

pub range-place : (n k i : ℕ) → i < k → get_elem? (range n k) i ≡ some (n + i)
range-place n zero i h = absurd (omega arith)
range-place n (suc k) zero h = ap some (sym (add-zero n))
range-place n (suc k) (suc i) h = range-place (suc n) k i (omega arith) ∙ ap some (suc-add n i ∙ sym (add-suc n i))

-- a map over a range, at a place
pub map_range : {A : Type 0} (f : ℕ → A) (n k i : ℕ) → i < k → get_elem? (map f (range n k)) i ≡ some (f (n + i))
map_range f n k i h = map-place f (range n k) i (n + i) (range-place n k i h)

-- of the numbers from g on up to n, the first, then the others
pub range_cons : (n g : ℕ) → g < n → range g (n - g) ≡ g ∷ range (g + 1) (n - (g + 1))
range_cons n g h =
    let e : n - g ≡ suc (n - (g + 1)) = omega arith in
    ap (range g) e ∙ ap (λ (m : ℕ). g ∷ range m (n - (g + 1))) (sym (add-one g))

-- none is left
pub range-end : (n g : ℕ) → n ≤ g → range g (n - g) ≡ []
range-end n g h = let e : n - g ≡ 0 = omega arith in ap (range g) e

-- every number below n passes the test
module _ (p : ℕ → Bool) where
  pub range_all : (n k : ℕ) → all p (range n k) ≡ true → (i : ℕ) → n ≤ i → i < n + k → p i ≡ true
  range_all n zero t i h l = absurd (omega arith)
  range_all n (suc k) t i h l = go (native.Mathlib.Decide.ℕ_discrete n i) (range_all (suc n) k (and_right (p n) (all p (range (suc n) k)) t))
    where
      go : Dec (n ≡ i) → ((j : ℕ) → suc n ≤ j → j < suc n + k → p j ≡ true) → p i ≡ true
      go (yes e) r = ap p (sym e) ∙ and_left (p n) (all p (range (suc n) k)) t
      go (no e) r = r i (omega arith) (omega arith)

  pub all-range : (n k : ℕ) → ((i : ℕ) → n ≤ i → i < n + k → p i ≡ true) → all p (range n k) ≡ true
  all-range n zero h = refl
  all-range n (suc k) h = and_both (p n) (all p (range (suc n) k)) (h n (omega arith) (omega arith)) (all-range (suc n) k (λ i a b. h i (omega arith) (omega arith)))

-- ---- a test of every element, one after the other

-- the first i elements have passed: what is left tests as the whole does
pub record Tested {A : Type 0} (p : A → Bool) (l : List A) (i : ℕ) : Type 0 where
  pub within : i ≤ length l
  pub rest : all p (drop i l) ≡ all p l

module _ {A : Type 0} {p : A → Bool} {l : List A} where
  pub tested-start : Tested p l 0
  tested-start = record { within = omega arith; rest = refl }

  module _ {i : ℕ} (d : A) (c : Tested p l i) where
    pub tested-next : i < length l → p (get_or l i d) ≡ true → Tested p l (i + 1)
    tested-next h t =
        let e : all p (drop (i + 1) l) ≡ all p (drop i l) = rw (add-one, drop-cons l i d h, t) in
        record { within = omega arith; rest = e ∙ c.rest }

    pub tested-fails : i < length l → p (get_or l i d) ≡ false → false ≡ all p l
    tested-fails h t =
        let e : all p (drop i l) ≡ false = rw (drop-cons l i d h, t) in
        sym e ∙ c.rest

    pub tested-done : length l ≤ i → true ≡ all p l
    tested-done h = let e : all p (drop i l) ≡ true = rw (drop_of_length-le l h) in sym e ∙ c.rest

-- whether the first i elements pass the test is b
pub record PassedTo {A : Type 0} (p : A → Bool) (l : List A) (b : Bool) (i : ℕ) : Type 0 where
  pub within : i ≤ length l
  pub rest : (b && all p (drop i l)) ≡ all p l

module _ {A : Type 0} {p : A → Bool} {l : List A} where
  pub passed_start : PassedTo p l true 0
  passed_start = record { within = omega arith; rest = refl }

  module _ {b : Bool} {i : ℕ} (d : A) (c : PassedTo p l b i) where
    pub passed-next : i < length l → PassedTo p l (b && p (get_or l i d)) (i + 1)
    passed-next h = record {
      within = omega arith;
      rest =
          and_assoc b (p (get_or l i d)) (all p (drop (i + 1) l))
          ∙ ap (λ (t : List A). b && all p t) (sym (drop-next l i d h))
          ∙ c.rest;
    }

    pub passed-done : length l ≤ i → b ≡ all p l
    passed-done h = sym (and-true b) ∙ ap (λ (t : List A). b && all p t) (sym (drop_of_length-le l {i = i} h)) ∙ c.rest

-- the numbers below g have passed: what is left tests as the whole does
pub record TestedTo (p : ℕ → Bool) (n g : ℕ) : Type 0 where
  pub within : g ≤ n
  pub rest : all p (range g (n - g)) ≡ all p (range 0 n)

module _ {p : ℕ → Bool} {n : ℕ} where
  pub to_start : TestedTo p n 0
  to_start = record { within = omega arith; rest = rw sub-zero }

  module _ {g : ℕ} (c : TestedTo p n g) where
    pub to-next : g < n → p g ≡ true → TestedTo p n (g + 1)
    to-next h t =
        let e : all p (range g (n - g)) ≡ all p (range (g + 1) (n - (g + 1))) = ap (all p) (range_cons n g h) ∙ rw t in
        record { within = omega arith; rest = sym e ∙ c.rest }

    pub to-fails : g < n → p g ≡ false → false ≡ all p (range 0 n)
    to-fails h t =
        let e : all p (range g (n - g)) ≡ false = ap (all p) (range_cons n g h) ∙ rw t in
        sym e ∙ c.rest

    pub to-done : n ≤ g → true ≡ all p (range 0 n)
    to-done h = sym (ap (all p) (range-end n g h)) ∙ c.rest
