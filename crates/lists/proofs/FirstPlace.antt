-- Where a number first stands in a list. Assumes nothing.
use mathlib.Core.Path.{◌≡◌, sym, ap, ◌∙◌}
use mathlib.Core.List.{List, [], ◌∷◌, ◌++◌}
use mathlib.Core.Logic.{⊎_elim}
use mathlib.Core.Option.{some, map}
use Prim.Native.Nat.{ℕ, zero, suc, ◌+◌, ◌≤◌, ◌<◌}
use native.Mathlib.Omega.{arith}
use native.Mathlib.Nat.{le_of_lt}
use native.Mathlib.Decide.{ℕ_discrete}
use lib.Dec.{eqb}
use lib.ListN.{length, get_or, take, drop}
use lib.Seq.{split_at, length-take-le}
use borrow.Author.Tests.{eq-eqb, ne_eqb}
use Rattle.lists.specs.Lists.{hit, occ, find}
use Rattle.lists.proofs.Counting.{hit_same, hit-eq, hit-ne, hit-or, occ-append}

abbrev at-hit : ℕ → ℕ → ℕ
at-hit zero k = k
at-hit (suc h) k = 0

-- where v first stands in l; its length where it does not
abbrev pub place : ℕ → List ℕ → ℕ
place v [] = 0
place v (x ∷ l) = at-hit (hit v x) (suc (place v l))

pub place_here : (v x : ℕ) (l : List ℕ) → hit v x ≡ 1 → place v (x ∷ l) ≡ 0
place_here v x l e = rw e

pub place-there : (v x : ℕ) (l : List ℕ) → hit v x ≡ 0 → place v (x ∷ l) ≡ suc (place v l)
place-there v x l e = rw e

pub place-below : (v : ℕ) (l : List ℕ) → 0 < occ v l → place v l < length l
place-below v [] p = absurd (omega arith)
place-below v (x ∷ l) p =
    ⊎_elim
    (λ w. omega (arith, place_here v x l w.1))
    (λ w. omega (arith, place-there v x l w.1, place-below v l (omega (arith, w.1))))
    (hit-or v x)

pub place-left : (v : ℕ) (a b : List ℕ) → 0 < occ v a → place v (a ++ b) ≡ place v a
place-left v [] b p = absurd (omega arith)
place-left v (x ∷ a) b p =
    ⊎_elim
    (λ w. omega (arith, place_here v x a w.1, place_here v x (a ++ b) w.1))
    (λ w. omega (arith, place-there v x a w.1, place-there v x (a ++ b) w.1, place-left v a b (omega (arith, w.1))))
    (hit-or v x)

pub place-right : (v : ℕ) (a b : List ℕ) → occ v a ≡ 0 → place v (a ++ b) ≡ length a + place v b
place-right v [] b e = omega arith
place-right v (x ∷ a) b e =
    omega (arith, place-there v x (a ++ b) (omega arith), place-right v a b (omega arith))

-- the place of the i-th number is i, where each stands at most once
pub place_at : (l : List ℕ) (i : ℕ) → i < length l → ((v : ℕ) → occ v l ≤ 1) → place (get_or l i 0) l ≡ i
place_at l i h once =
    let x = get_or l i 0 in
    let e : l ≡ take i l ++ x ∷ drop (suc i) l = split_at l i 0 h in
    let z : occ x (take i l) ≡ 0 = omega (arith, ap (occ x) e, occ-append x (take i l) (x ∷ drop (suc i) l), hit_same x, once x) in
    ap (place x) e
    ∙ place-right x (take i l) (x ∷ drop (suc i) l) z
    ∙ (rw (place_here x x (drop (suc i) l) (hit_same x), length-take-le i l (le_of_lt h)) (omega arith))

-- the search finds that place
pub find-place : (v : ℕ) (l : List ℕ) → 0 < occ v l → find (eqb v) l ≡ some (place v l)
find-place v [] p = absurd (omega arith)
find-place v (x ∷ l) p = go (ℕ_discrete v x) (find-place v l)
  where
    go : Dec (v ≡ x) → (0 < occ v l → find (eqb v) l ≡ some (place v l)) → find (eqb v) (x ∷ l) ≡ some (place v (x ∷ l))
    go (yes e) ih = rw (eq-eqb v x e) (ap some (sym (place_here v x l (hit-eq e))))
    go (no e) ih =
        let z : hit v x ≡ 0 = hit-ne e in
        rw (ne_eqb v x e) (ap (map suc) (ih (omega (arith, z))) ∙ ap some (sym (place-there v x l z)))
