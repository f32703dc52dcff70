-- How often a number stands in a list, and sums over the numbers below n. Assumes nothing.
use Prim.Native.Nat.{ℕ, zero, suc, ◌+◌, ◌≤◌, ◌<◌}
use native.Mathlib.Omega.{arith}
use native.Mathlib.Nat.{zero-add, eq-or-lt_of_le, le_of_suc-le-suc}
use native.Mathlib.Decide.{ℕ_discrete}
use mathlib.Core.Logic.{◌⊎◌, inl, inr, ⊎_elim}
use mathlib.Core.List.{List, [], ◌∷◌, ◌++◌, map, Memᴰ}
use mathlib.Core.Path.{◌≡◌, refl, sym, ap, ◌∙◌}
use borrow.Author.Tests.{eq-eqb, ne_eqb}
use lib.ListN.{length, get_or, take, drop, length-map, set, take-append-drop}
use lib.Seq.{get_or-set_same, get_or-set_other}
use Rattle.lists.specs.Lists.{hit, occ, sum_of, sum_to, range}
use Rattle.lists.proofs.Places.{get_or-place}
use Rattle.lists.proofs.Range.{length-range, map_range}

pub hit-eq : {v x : ℕ} → v ≡ x → hit v x ≡ 1
unfolding hit
hit-eq {v} {x} e = rw (eq-eqb v x e)

pub hit_same : (v : ℕ) → hit v v ≡ 1
hit_same v = hit-eq refl

pub hit-ne : {v x : ℕ} → (v ≡ x → ⊥) → hit v x ≡ 0
unfolding hit
hit-ne {v} {x} e = rw (ne_eqb v x e)

-- two numbers are the same or not, and the hit says which
pub hit-or : (v x : ℕ) → ((v ≡ x) × (hit v x ≡ 1)) ⊎ ((v ≡ x → ⊥) × (hit v x ≡ 0))
hit-or v x = go (ℕ_discrete v x)
  where
    go : Dec (v ≡ x) → ((v ≡ x) × (hit v x ≡ 1)) ⊎ ((v ≡ x → ⊥) × (hit v x ≡ 0))
    go (yes e) = inl (e, hit-eq e)
    go (no e) = inr (e, hit-ne e)

pub hit-le : (v x : ℕ) → hit v x ≤ 1
hit-le v x = ⊎_elim (λ w. omega (arith, w.1)) (λ w. omega (arith, w.1)) (hit-or v x)

-- a cell changed by a function, read at any place
pub set-hit : (f : ℕ → ℕ) (c : List ℕ) (d v : ℕ) → d < length c
    → ((hit v d ≡ 1) × (get_or (set c d (f (get_or c d 0))) v 0 ≡ f (get_or c v 0))) ⊎ ((hit v d ≡ 0) × (get_or (set c d (f (get_or c d 0))) v 0 ≡ get_or c v 0))
set-hit f c d v l =
    ⊎_elim
    (λ w. inl (w.1, rw w.0 (get_or-set_same c d (f (get_or c d 0)) 0 l)))
    (λ w. inr (w.1, get_or-set_other c d v (f (get_or c d 0)) 0 w.0))
    (hit-or v d)

-- where one cell falls, none rises
pub get_or-set-le : (c : List ℕ) (d v x : ℕ) → x ≤ get_or c d 0 → get_or (set c d x) v 0 ≤ get_or c v 0
get_or-set-le [] d v x h = omega arith
get_or-set-le (y ∷ c) zero zero x h = h
get_or-set-le (y ∷ c) zero (suc v) x h = omega arith
get_or-set-le (y ∷ c) (suc d) zero x h = omega arith
get_or-set-le (y ∷ c) (suc d) (suc v) x h = get_or-set-le c d v x h

pub occ-append : (v : ℕ) (a b : List ℕ) → occ v (a ++ b) ≡ occ v a + occ v b
occ-append v [] b = omega arith
occ-append v (x ∷ a) b = omega (arith, occ-append v a b)

pub occ-take-le : (v i : ℕ) (l : List ℕ) → occ v (take i l) ≤ occ v l
occ-take-le v i l = omega (arith, occ-append v (take i l) (drop i l), ap (occ v) (take-append-drop i l))

pub sum-append : {A : Type 0} (f : A → ℕ) (a b : List A) → sum_of f (a ++ b) ≡ sum_of f a + sum_of f b
sum-append f [] b = omega arith
sum-append f (x ∷ a) b = omega (arith, sum-append f a b)

pub sum-cong : (n : ℕ) (f g : ℕ → ℕ) → ((v : ℕ) → v < n → f v ≡ g v) → sum_to n f ≡ sum_to n g
sum-cong zero f g h = refl
sum-cong (suc n) f g h = omega (arith, sum-cong n f g (λ v l. h v (omega arith)), h n (omega arith))

pub sum-zero : (n : ℕ) (f : ℕ → ℕ) → ((v : ℕ) → v < n → f v ≡ 0) → sum_to n f ≡ 0
sum-zero zero f h = refl
sum-zero (suc n) f h = omega (arith, sum-zero n f (λ v l. h v (omega arith)), h n (omega arith))

pub sum-le : (n : ℕ) (f : ℕ → ℕ) → ((v : ℕ) → v < n → f v ≤ 1) → sum_to n f ≤ n
sum-le zero f h = omega arith
sum-le (suc n) f h = omega (arith, sum-le n f (λ v l. h v (omega arith)), h n (omega arith))

pub sum-add : (n : ℕ) (f g : ℕ → ℕ) → sum_to n (λ v. f v + g v) ≡ sum_to n f + sum_to n g
sum-add zero f g = refl
sum-add (suc n) f g = omega (arith, sum-add n f g)

-- the first part, and the others
pub sum_head : (k : ℕ) (f : ℕ → ℕ) → sum_to (suc k) f ≡ f 0 + sum_to k (λ i. f (suc i))
sum_head zero f = omega arith
sum_head (suc k) f = omega (arith, sum_head k f)

-- below suc n: n, or below n
pub last_or : {v n : ℕ} → v < suc n → (v ≡ n) ⊎ (v < n)
last_or l = eq-or-lt_of_le (le_of_suc-le-suc l)

pub zero_or : (k : ℕ) → (k ≡ 0) ⊎ (0 < k)
zero_or zero = inl refl
zero_or (suc k) = inr (omega arith)

-- one of the two, where the other is ruled out
pub is_zero : {k : ℕ} → (0 < k → ⊥) → k ≡ 0
is_zero f = omega arith

pub is-over : {k : ℕ} → (k ≡ 0 → ⊥) → 0 < k
is-over f = omega arith

-- each part is at most the sum
pub part-le : (n : ℕ) (f : ℕ → ℕ) (v : ℕ) → v < n → f v ≤ sum_to n f
part-le zero f v l = omega arith
part-le (suc n) f v l =
    ⊎_elim (λ e. omega (arith, ap f e)) (λ h. omega (arith, part-le n f v h)) (last_or l)

-- the sum of the first k is at most that of the first n
pub front-le : (f : ℕ → ℕ) (n k : ℕ) → k ≤ n → sum_to k f ≤ sum_to n f
front-le f zero k l = let e : k ≡ 0 = omega arith in omega (arith, ap (λ (m : ℕ). sum_to m f) e)
front-le f (suc n) k l =
    ⊎_elim
    (λ e. omega (arith, ap (λ (m : ℕ). sum_to m f) e))
    (λ w. omega (arith, front-le f n k (omega arith)))
    (last_or {v = k} {n = suc n} (omega arith))

-- a sum that is not 0 has a part that is not 0
pub part_of : (n : ℕ) (f : ℕ → ℕ) → 0 < sum_to n f → (v : ℕ) × (v < n) × (0 < f v)
part_of zero f h = absurd (omega arith)
part_of (suc n) f h =
    ⊎_elim
    (λ e. let r = part_of n f (omega arith) in (r.0, omega arith, r.2))
    (λ p. (n, omega arith, p))
    (zero_or (f n))

-- two that differ at x alone, by a
pub sum-point : (n : ℕ) (f g : ℕ → ℕ) (x a : ℕ) → x < n → g x + a ≡ f x → ((v : ℕ) → (v ≡ x → ⊥) → f v ≡ g v) → sum_to n g + a ≡ sum_to n f
sum-point zero f g x a l e h = absurd (omega arith)
sum-point (suc n) f g x a l e h =
    ⊎_elim
    (λ q. omega (arith, sum-cong n f g (λ v w. h v (λ z. omega arith)), ap f q, ap g q))
    (λ w. omega (arith, sum-point n f g x a w e h, h n (λ z. omega arith)))
    (last_or l)

-- where each part is at most 1 and the sum is n, each part is 1
pub all_one : (n : ℕ) (f : ℕ → ℕ) → ((v : ℕ) → v < n → f v ≤ 1) → sum_to n f ≡ n → (v : ℕ) → v < n → f v ≡ 1
all_one zero f h e v l = absurd (omega arith)
all_one (suc n) f h e v l =
    let le : sum_to n f ≤ n = sum-le n f (λ w m. h w (omega arith)) in
    let le1 : f n ≤ 1 = h n (omega arith) in
    ⊎_elim
    (λ q. omega (arith, ap f q))
    (λ w. all_one n f (λ u m. h u (omega arith)) (omega arith) v w)
    (last_or l)

-- a sum below n has a part that is 0
pub some-zero : (n : ℕ) (f : ℕ → ℕ) → sum_to n f < n → (v : ℕ) × (v < n) × (f v ≡ 0)
some-zero zero f h = absurd (omega arith)
some-zero (suc n) f h =
    ⊎_elim
    (λ e. (n, omega arith, e))
    (λ p. let r = some-zero n f (omega arith) in (r.0, omega arith, r.2))
    (zero_or (f n))

-- a list of numbers below n has as many elements as its numbers stand in it
pub sum-hit : (n x : ℕ) → x < n → sum_to n (λ v. hit v x) ≡ 1
sum-hit n x l =
    omega (
      arith,
      sum-point n (λ v. hit v x) (λ v. 0) x 1 l (omega (arith, hit_same x)) (λ v z. hit-ne z),
      sum-zero n (λ v. 0) (λ v w. refl),
    )

pub sum-occ : (n : ℕ) (l : List ℕ) → ((v : ℕ) → 0 < occ v l → v < n) → sum_to n (λ v. occ v l) ≡ length l
sum-occ n [] h = sum-zero n (λ v. 0) (λ v w. refl)
sum-occ n (x ∷ l) h =
    omega (
      arith,
      sum-add n (λ v. hit v x) (λ v. occ v l),
      sum-hit n x (h x (omega (arith, hit_same x))),
      sum-occ n l (λ v w. h v (omega arith)),
    )

-- a list of numbers below n, each in it at most once, has at most n elements
pub once-short : (n : ℕ) (l : List ℕ) → ((v : ℕ) → 0 < occ v l → v < n) → ((v : ℕ) → occ v l ≤ 1) → length l ≤ n
once-short n l h once = omega (arith, sum-occ n l h, sum-le n (λ v. occ v l) (λ v u. once v))

-- ---- a number that stands in a list is an element of it

pub occ-mem : (v : ℕ) (l : List ℕ) → 0 < occ v l → Memᴰ v l
occ-mem v [] u = absurd (omega arith)
occ-mem v (x ∷ l) u =
    ⊎_elim (λ w. Memᴰ.head w.0) (λ w. Memᴰ.tail (occ-mem v l (omega (arith, w.1)))) (hit-or v x)

pub mem-occ : (v : ℕ) (l : List ℕ) → Memᴰ v l → 0 < occ v l
mem-occ v _ (Memᴰ.head {x = x} {xs = l} e) = omega (arith, hit-eq e)
mem-occ v _ (Memᴰ.tail {x = x} {xs = l} m) = omega (arith, mem-occ v l m)

pub get_or-occ : (l : List ℕ) (i : ℕ) → i < length l → 0 < occ (get_or l i 0) l
get_or-occ [] i h = absurd (omega arith)
get_or-occ (x ∷ l) zero h = omega (arith, hit_same x)
get_or-occ (x ∷ l) (suc i) h = omega (arith, get_or-occ l i (omega arith))

-- ---- lists by a rule

pub length-table : (f : ℕ → ℕ) (k : ℕ) → length (map f (range 0 k)) ≡ k
length-table f k = length-map (range 0 k) f ∙ length-range 0 k

pub get_or-table : (f : ℕ → ℕ) (k v : ℕ) → v < k → get_or (map f (range 0 k)) v 0 ≡ f v
get_or-table f k v l = get_or-place 0 (map f (range 0 k)) v (f (0 + v)) (map_range f 0 k v l) ∙ ap f (zero-add v)

-- ---- sums over a list

pub sum_mono : (n : ℕ) (f g : ℕ → ℕ) → ((v : ℕ) → v < n → f v ≤ g v) → sum_to n f ≤ sum_to n g
sum_mono zero f g h = omega arith
sum_mono (suc n) f g h = omega (arith, sum_mono n f g (λ v l. h v (omega arith)), h n (omega arith))

-- k times x
abbrev rep : ℕ → ℕ → ℕ
rep zero x = 0
rep (suc k) x = x + rep k x

sum-rep : (n : ℕ) (f : ℕ → ℕ) (l : List ℕ) → ((v : ℕ) → 0 < occ v l → v < n) → sum_to n (λ v. rep (occ v l) (f v)) ≡ sum_of f l
sum-rep n f [] h = sum-zero n (λ v. 0) (λ v w. refl)
sum-rep n f (x ∷ l) h =
    let r = sum-rep n f l (λ v p. h v (omega arith)) in
    let e : hit x x + occ x l ≡ suc (occ x l) = omega (arith, hit_same x) in
    let q : rep (hit x x + occ x l) (f x) ≡ f x + rep (occ x l) (f x) = ap (λ (k : ℕ). rep k (f x)) e in
    omega (
      arith,
      r,
      sum-point n (λ v. rep (occ v (x ∷ l)) (f v)) (λ v. rep (occ v l) (f v)) x (f x) (h x (omega (arith, hit_same x)))
          (omega (arith, q))
          (λ v z. let g : hit v x + occ v l ≡ occ v l = omega (arith, hit-ne z) in ap (λ (k : ℕ). rep k (f v)) g),
    )

-- a list that holds every number below n once has the sum of all below n
pub sum-perm : (n : ℕ) (f : ℕ → ℕ) (l : List ℕ) → ((v : ℕ) → 0 < occ v l → v < n) → ((v : ℕ) → v < n → occ v l ≡ 1) → sum_of f l ≡ sum_to n f
sum-perm n f l h e =
    sym (sum-rep n f l h)
    ∙ sum-cong n (λ v. rep (occ v l) (f v)) f (λ v b. let q : rep (occ v l) (f v) ≡ f v + 0 = ap (λ (k : ℕ). rep k (f v)) (e v b) in omega arith)
