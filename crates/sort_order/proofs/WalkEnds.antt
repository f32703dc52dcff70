-- The walk's start is good, and its end; more pops change nothing. Assumes nothing.
use mathlib.Core.Bool.{Bool, true, false, cond}
use mathlib.Core.Logic.{⊎_elim}
use mathlib.Core.List.{List, [], ◌∷◌, ◌++◌, map}
use mathlib.Core.Path.{◌≡◌, refl, sym, ap, ◌∙◌}
use Prim.Native.Nat.{ℕ, zero, suc, ◌+◌, ◌≤◌, ◌<◌}
use native.Mathlib.Omega.{arith}
use lib.ListN.{length, get_or}
use Rattle.lists.specs.Lists.{hit, occ, sum_to, range}
use Rattle.lists.proofs.Counting.{hit-eq, hit-or, sum-cong, last_or, is_zero, occ-append, length-table, get_or-table}
use Rattle.sort_order.specs.Order.{Graph, uses, use_count, pushed, flops_to, start_to, recorded, walk, counts_after, stack_after, kept}
use Rattle.sort_order.specs.Between.Walk.{ValidGraph, WalkState}
use Rattle.sort_order.proofs.Walk.{pos, budget, Ended, good-pop, good-all, budget-all, walk_ends}

-- v stands in l at most once, and only if it is below k and has the property
abbrev Only : (ℕ → Type 0) → ℕ → ℕ → List ℕ → Type 0
Only P v k l = (occ v l ≤ 1) × (0 < occ v l → (v < k) × P v)

-- so it is for the next k, whether k is left out or taken in
module _ (P : ℕ → Type 0) (v k : ℕ) (l : List ℕ) (h : Only P v k l) (next : List ℕ) where
  only_same : occ v next ≡ occ v l → Only P v (suc k) next
  only_same e = (omega (arith, h.0), λ p. let q = h.1 (omega arith) in (omega (arith, q.0), q.1))

  only-more : occ v next ≡ occ v l + hit v k → P k → Only P v (suc k) next
  only-more e x =
      ⊎_elim
      (λ w.
      let z : occ v l ≡ 0 = is_zero (λ p. omega (arith, w.0, h.1 p)) in
      (omega (arith, w.1), λ p. (omega (arith, w.0), rw w.0 x)))
      (λ w. (omega (arith, w.1, h.0), λ p. let q = h.1 (omega (arith, w.1)) in (omega (arith, q.0), q.1)))
      (hit-or v k)

module _ (G : Graph) (f : ℕ → ℕ) where
  only_next : (v k : ℕ) (l : List ℕ) (b : Bool) (m : ℕ) → f k ≡ m → Only (λ u. f u ≡ 0) v k l → Only (λ u. f u ≡ 0) v (suc k) (cond b (pushed m k l) l)
  only_next v k l false m e h = only_same (λ u. f u ≡ 0) v k l h l refl
  only_next v k l true (suc m) e h = only_same (λ u. f u ≡ 0) v k l h l refl
  only_next v k l true zero e h = only-more (λ u. f u ≡ 0) v k l h (k ∷ l) (omega arith) e

  pub start-only : (v k : ℕ) → Only (λ u. f u ≡ 0) v k (start_to G.comb f k)
  start-only v zero = (omega arith, λ p. absurd (omega arith))
  start-only v (suc k) = only_next v k (start_to G.comb f k) (G.comb k) (f k) refl (start-only v k)

  grows : (v k : ℕ) (l : List ℕ) (b : Bool) (m : ℕ) → occ v l ≤ occ v (cond b (pushed m k l) l)
  grows v k l false m = omega arith
  grows v k l true (suc m) = omega arith
  grows v k l true zero = omega arith

  here : (v k : ℕ) (l : List ℕ) (b : Bool) (m : ℕ) → v ≡ k → b ≡ true → m ≡ 0 → 0 < occ v (cond b (pushed m k l) l)
  here v k l b m e q z = rw (q, z) (omega (arith, hit-eq e))

  pub start_has : (v k : ℕ) → v < k → G.comb v ≡ true → f v ≡ 0 → 0 < occ v (start_to G.comb f k)
  start_has v zero l b z = absurd (omega arith)
  start_has v (suc k) l b z =
      ⊎_elim
      (λ e. here v k (start_to G.comb f k) (G.comb k) (f k) e (ap G.comb (sym e) ∙ b) (ap f (sym e) ∙ z))
      (λ w. omega (arith, start_has v k w b z, grows v k (start_to G.comb f k) (G.comb k) (f k)))
      (last_or l)

  fits_next : (k s : ℕ) (l : List ℕ) (b : Bool) (m : ℕ) → length l + s ≤ k → length (cond b (pushed m k l) l) + (s + pos m) ≤ suc k
  fits_next k s l true zero h = omega arith
  fits_next k s l true (suc m) h = omega arith
  fits_next k s l false zero h = omega arith
  fits_next k s l false (suc m) h = omega arith

  pub start_fits : (k : ℕ) → length (start_to G.comb f k) + sum_to k (λ v. pos (f v)) ≤ k
  start_fits zero = omega arith
  start_fits (suc k) = fits_next k (sum_to k (λ v. pos (f v))) (start_to G.comb f k) (G.comb k) (f k) (start_fits k)

-- ---- flip-flops

module _ (G : Graph) where
  flop-next : (v k : ℕ) (l : List ℕ) (b : Bool) → G.comb k ≡ b → Only (λ u. G.comb u ≡ false) v k l → Only (λ u. G.comb u ≡ false) v (suc k) (l ++ cond b [] (k ∷ []))
  flop-next v k l true e h = only_same (λ u. G.comb u ≡ false) v k l h (l ++ []) (omega (arith, occ-append v l []))
  flop-next v k l false e h = only-more (λ u. G.comb u ≡ false) v k l h (l ++ k ∷ []) (omega (arith, occ-append v l (k ∷ []))) e

  pub flop-only : (v k : ℕ) → Only (λ u. G.comb u ≡ false) v k (flops_to G.comb k)
  flop-only v zero = (omega arith, λ p. absurd (omega arith))
  flop-only v (suc k) = flop-next v k (flops_to G.comb k) (G.comb k) refl (flop-only v k)

  flop-here : (v k : ℕ) (l : List ℕ) (b : Bool) → v ≡ k → b ≡ false → 0 < occ v (l ++ cond b [] (k ∷ []))
  flop-here v k l b e q = rw q (omega (arith, occ-append v l (k ∷ []), hit-eq e))

  pub flop-has : (v k : ℕ) → v < k → G.comb v ≡ false → 0 < occ v (flops_to G.comb k)
  flop-has v zero l b = absurd (omega arith)
  flop-has v (suc k) l b =
      ⊎_elim
      (λ e. flop-here v k (flops_to G.comb k) (G.comb k) e (ap G.comb (sym e) ∙ b))
      (λ w. omega (arith, flop-has v k w b, occ-append v (flops_to G.comb k) (cond (G.comb k) [] (k ∷ []))))
      (last_or l)

  -- ---- the start and the end of the walk

  module _ (c : List ℕ) (same : (v : ℕ) → v < G.size → get_or c v 0 ≡ use_count G v) (long : G.size ≤ length c) where
    pub good_start : WalkState G c (start_to G.comb (use_count G) G.size) [] []
    unfolding use_count
    good_start =
        record {
          long = long;
          counted = λ v l. omega (arith, same v l);
          once = λ v. omega (arith, start-only G (use_count G) v G.size);
          low = λ v p. let q = (start-only G (use_count G) v G.size).1 (omega arith) in (q.0, same v q.0 ∙ q.1);
          covered = λ v l b z. omega (arith, start_has G (use_count G) v G.size l b (sym (same v l) ∙ z));
          combs = λ v p. absurd (omega arith);
          top = tt;
          ins = λ v p. absurd (omega arith);
        }

    pub budget-start : budget G c (start_to G.comb (use_count G) G.size) ≤ G.size
    budget-start =
        omega (
          arith,
          start_fits G (use_count G) G.size,
          sum-cong G.size (λ v. pos (get_or c v 0)) (λ v. pos (use_count G v)) (λ v l. ap pos (same v l)),
        )

  pub recorded-ended : ValidGraph G → Ended G (recorded G)
  unfolding recorded
  recorded-ended valid =
      let c = map (use_count G) (range 0 G.size) in
      let same : (v : ℕ) → v < G.size → get_or c v 0 ≡ use_count G v = λ v l. get_or-table (use_count G) G.size v l in
      let long : G.size ≤ length c = omega (arith, length-table (use_count G) G.size) in
      walk_ends G valid G.size c (start_to G.comb (use_count G) G.size) [] (good_start c same long) (budget-start c same long)

-- ---- more pops change nothing

pub walk-enough : (G : Graph) → ValidGraph G → (k j : ℕ) (c st done : List ℕ) → WalkState G c st done [] → budget G c st ≤ k → budget G c st ≤ j → walk G k c st done ≡ walk G j c st done
walk-enough G valid zero zero c st done g l m = refl
walk-enough G valid zero (suc j) c [] done g l m = refl
walk-enough G valid zero (suc j) c (x ∷ st) done g l m = absurd (omega arith)
walk-enough G valid (suc k) zero c [] done g l m = refl
walk-enough G valid (suc k) zero c (x ∷ st) done g l m = absurd (omega arith)
walk-enough G valid (suc k) (suc j) c [] done g l m = refl
walk-enough G valid (suc k) (suc j) c (x ∷ st) done g l m =
    let p = good-pop G valid c st done x g in
    let b = budget-all G (uses G x) c st (kept (G.comb x) x done) p in
    walk-enough G valid k j (counts_after (uses G x) c) (stack_after (uses G x) c st) (kept (G.comb x) x done)
    (good-all G (uses G x) c st (kept (G.comb x) x done) p)
    (omega arith)
    (omega arith)
