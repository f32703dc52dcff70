-- What holds of the sort's walk at each step. Assumes nothing.
use mathlib.Core.Bool.{Bool, true, false, true≢false}
use mathlib.Core.Logic.{⊎_elim}
use mathlib.Core.List.{List, [], ◌∷◌}
use mathlib.Core.Path.{◌≡◌, refl, sym, ap, ◌∙◌}
use Prim.Native.Nat.{ℕ, zero, suc, ◌+◌, ◌-◌, ◌≤◌, ◌<◌}
use native.Mathlib.Omega.{arith}
use lib.ListN.{length, get_or, length-set}
use lib.Seq.{get_or-set_other}
use Rattle.lists.specs.Lists.{sum_to, hit, occ}
use Rattle.lists.proofs.Counting.{hit-ne, hit-or, hit_same, set-hit, get_or-set-le, sum-point, part-le, is_zero, is-over}
use Rattle.sort_order.specs.Order.{Graph, uses, lowered, pushed, counts_after, stack_after, kept, walk}
use Rattle.sort_order.specs.Between.Walk.{ValidGraph, left, uses_left, WalkState}

-- 1 of a number that is not 0
abbrev pub pos : ℕ → ℕ
pos zero = 0
pos (suc k) = 1

-- pops that are left at most
abbrev pub budget : Graph → List ℕ → List ℕ → ℕ
budget G c st = length st + sum_to G.size (λ v. pos (get_or c v 0))

-- ---- one input

pub lowered-at : (c : List ℕ) (d v : ℕ) → d < length c → get_or (lowered c d) v 0 ≡ get_or c v 0 - hit v d
lowered-at c d v l = ⊎_elim (λ w. omega (arith, w.0, w.1)) (λ w. omega (arith, w.0, w.1)) (set-hit (λ n. n - 1) c d v l)

-- lowering raises no count
pub counts_after-le : (ds c : List ℕ) (v : ℕ) → get_or (counts_after ds c) v 0 ≤ get_or c v 0
counts_after-le [] c v = omega arith
counts_after-le (d ∷ ds) c v = omega (arith, counts_after-le ds (lowered c d) v, get_or-set-le c d v (get_or c d 0 - 1) (omega arith))

module _ (G : Graph) (c st done : List ℕ) (d : ℕ) (rest : List ℕ) (g : WalkState G c st done (d ∷ rest)) where
  -- d is a gate, its count is not zero, and it is neither on the stack nor recorded
  pub next-below : d < G.size
  next-below = g.ins d (omega (arith, hit_same d))

  pub next-count : 0 < get_or c d 0
  next-count = omega (arith, g.counted d next-below, hit_same d)

  pub next-fresh : occ d st + occ d done ≡ 0
  next-fresh = is_zero (λ p. omega (arith, g.low d p, next-count))

  at : (v : ℕ) → get_or (lowered c d) v 0 ≡ get_or c v 0 - hit v d
  at v = lowered-at c d v (omega (arith, next-below, g.long))

  same-as : {v : ℕ} → v ≡ d → (get_or c v 0 ≡ get_or c d 0) × (occ v st + occ v done ≡ 0)
  same-as {v} e = (ap (λ (x : ℕ). get_or c x 0) e, rw e next-fresh)

  good-push : (m : ℕ) → get_or c d 0 - 1 ≡ m → WalkState G (lowered c d) (pushed m d st) done rest
  good-push zero e =
      record {
        long = rw length-set g.long;
        counted = λ v l. omega (arith, at v, g.counted v l);
        once = λ v. ⊎_elim (λ w. omega (arith, w.1, same-as w.0)) (λ w. omega (arith, w.1, g.once v)) (hit-or v d);
        low = λ v p.
            ⊎_elim
            (λ w. (rw w.0 next-below, omega (arith, w.1, same-as w.0, at v, e)))
            (λ w. let q = g.low v (omega (arith, w.1, p)) in (q.0, omega (arith, w.1, q.1, at v)))
            (hit-or v d);
        covered = λ v l b z.
            ⊎_elim (λ w. omega (arith, w.1)) (λ w. omega (arith, g.covered v l b (omega (arith, w.1, at v, z)))) (hit-or v d);
        combs = g.combs;
        top = g.top;
        ins = λ v p. g.ins v (omega arith);
      }
  good-push (suc m) e =
      record {
        long = rw length-set g.long;
        counted = λ v l. omega (arith, at v, g.counted v l);
        once = g.once;
        low = λ v p. let q = g.low v p in (q.0, omega (arith, q.1, at v));
        covered = λ v l b z.
            ⊎_elim
            (λ w. absurd (omega (arith, w.1, same-as w.0, at v, e, z)))
            (λ w. g.covered v l b (omega (arith, w.1, at v, z)))
            (hit-or v d);
        combs = g.combs;
        top = g.top;
        ins = λ v p. g.ins v (omega arith);
      }

  pub good-lower : WalkState G (lowered c d) (pushed (get_or c d 0 - 1) d st) done rest
  good-lower = good-push (get_or c d 0 - 1) refl

  -- only the term of d changes
  sum-lower : (a : ℕ) → pos (get_or (lowered c d) d 0) + a ≡ pos (get_or c d 0) → sum_to G.size (λ v. pos (get_or (lowered c d) v 0)) + a ≡ sum_to G.size (λ v. pos (get_or c v 0))
  sum-lower a q =
      sum-point G.size (λ v. pos (get_or c v 0)) (λ v. pos (get_or (lowered c d) v 0)) d a next-below q
      (λ v z. ap pos (sym (get_or-set_other c d v (get_or c d 0 - 1) 0 z)))

  budget-push : (m : ℕ) → get_or c d 0 - 1 ≡ m → budget G (lowered c d) (pushed m d st) ≡ budget G c st
  budget-push zero e =
      let a : get_or (lowered c d) d 0 ≡ 0 = omega (arith, at d, e, hit_same d) in
      let b : get_or c d 0 ≡ 1 = omega (arith, e, next-count) in
      omega (arith, sum-lower 1 (rw (a, b)))
  budget-push (suc m) e =
      let a : get_or (lowered c d) d 0 ≡ suc m = omega (arith, at d, e, hit_same d) in
      let b : get_or c d 0 ≡ suc (suc m) = omega (arith, e, next-count) in
      omega (arith, sum-lower 0 (rw (a, b)))

  pub budget-lower : budget G (lowered c d) (pushed (get_or c d 0 - 1) d st) ≡ budget G c st
  budget-lower = budget-push (get_or c d 0 - 1) refl

-- ---- all inputs of a gate

pub good-all : (G : Graph) (rest c st done : List ℕ) → WalkState G c st done rest → WalkState G (counts_after rest c) (stack_after rest c st) done []
good-all G [] c st done g = g
good-all G (d ∷ rest) c st done g = good-all G rest (lowered c d) (pushed (get_or c d 0 - 1) d st) done (good-lower G c st done d rest g)

pub budget-all : (G : Graph) (rest c st done : List ℕ) → WalkState G c st done rest → budget G (counts_after rest c) (stack_after rest c st) ≡ budget G c st
budget-all G [] c st done g = refl
budget-all G (d ∷ rest) c st done g =
    budget-all G rest (lowered c d) (pushed (get_or c d 0 - 1) d st) done (good-lower G c st done d rest g) ∙ budget-lower G c st done d rest g

-- ---- a pop

pub uses-comb : (G : Graph) (x : ℕ) → G.comb x ≡ true → uses G x ≡ G.ins x
unfolding uses
uses-comb G x e = rw e

pub uses-flop : (G : Graph) (x : ℕ) → G.comb x ≡ false → uses G x ≡ []
unfolding uses
uses-flop G x e = rw e

-- what a gate uses are its inputs
pub uses-ins : (G : Graph) (x v : ℕ) → 0 < occ v (uses G x) → (G.comb x ≡ true) × (0 < occ v (G.ins x))
uses-ins G x v p = go (G.comb x) refl
  where
    go : (b : Bool) → G.comb x ≡ b → (G.comb x ≡ true) × (0 < occ v (G.ins x))
    go true e = (e, rw (uses-comb G x e) at p)
    go false e = absurd (omega (arith, rw (uses-flop G x e) at p))

left-none : (r k : ℕ) → r ≡ 0 → left r k ≡ k
left-none r k e = rw e

-- the uses that a gate made are gone once it is recorded
pub uses_left-record : (G : Graph) (x : ℕ) (done : List ℕ) → x < G.size → occ x done ≡ 0 → (v : ℕ) → uses_left G (x ∷ done) v + occ v (uses G x) ≡ uses_left G done v
uses_left-record G x done l e v =
    sum-point G.size (λ g. left (occ g done) (occ v (uses G g))) (λ g. left (occ g (x ∷ done)) (occ v (uses G g))) x (occ v (uses G x)) l
    (let a : occ x (x ∷ done) ≡ 1 = omega (arith, e, hit_same x) in
    let b : left (occ x (x ∷ done)) (occ v (uses G x)) ≡ 0 = rw a in
    omega (arith, b, left-none (occ x done) (occ v (uses G x)) e))
    (λ g z.
    let q : occ g done ≡ occ g (x ∷ done) = omega (arith, hit-ne z) in
    ap (λ (r : ℕ). left r (occ v (uses G g))) q)

module _ (G : Graph) (valid : ValidGraph G) (c st done : List ℕ) (x : ℕ) (g : WalkState G c (x ∷ st) done []) where
  pub top-low : (x < G.size) × (get_or c x 0 ≡ 0)
  top-low = g.low x (omega (arith, hit_same x))

  pub top-fresh : (occ x st ≡ 0) × (occ x done ≡ 0)
  top-fresh = omega (arith, g.once x, hit_same x)

  -- no gate that is not recorded uses x
  top-users : (u : ℕ) → u < G.size → 0 < occ x (uses G u) → 0 < occ u done
  top-users u l p =
      is-over (λ e.
      omega (
        arith,
        p,
        left-none (occ u done) (occ x (uses G u)) e,
        part-le G.size (λ y. left (occ y done) (occ x (uses G y))) u l,
        g.counted x top-low.0,
        top-low.1,
      ))

  good-kept : (b : Bool) → G.comb x ≡ b → WalkState G c st (kept b x done) (uses G x)
  good-kept true e =
      record {
        long = g.long;
        counted = λ v l. omega (arith, g.counted v l, uses_left-record G x done top-low.0 top-fresh.1 v);
        once = λ v. omega (arith, g.once v);
        low = λ v p. g.low v (omega arith);
        covered = λ v l b z. omega (arith, g.covered v l b z);
        combs = λ v p. ⊎_elim (λ w. rw w.0 e) (λ w. g.combs v (omega (arith, w.1))) (hit-or v x);
        top = (top-users, g.top);
        ins = λ v p. valid x v top-low.0 (uses-ins G x v p).1;
      }
  good-kept false e =
      record {
        long = g.long;
        counted = λ v l. omega (arith, g.counted v l, ap (occ v) (uses-flop G x e));
        once = λ v. omega (arith, g.once v);
        low = λ v p. g.low v (omega arith);
        covered = λ v l b z.
            ⊎_elim
            (λ w. let no : ◌≡◌ {A = Bool} true false = sym b ∙ ap G.comb w.0 ∙ e in absurd (true≢false no))
            (λ w. omega (arith, w.1, g.covered v l b z))
            (hit-or v x);
        combs = g.combs;
        top = g.top;
        ins = λ v p. absurd (omega (arith, p, ap (occ v) (uses-flop G x e)));
      }

  pub good-pop : WalkState G c st (kept (G.comb x) x done) (uses G x)
  good-pop = good-kept (G.comb x) refl

-- ---- the whole walk

pub record Ended (G : Graph) (done : List ℕ) : Type 0 where
  pub counts : List ℕ
  pub good : WalkState G counts [] done []

pub walk_ends : (G : Graph) → ValidGraph G → (k : ℕ) (c st done : List ℕ) → WalkState G c st done [] → budget G c st ≤ k → Ended G (walk G k c st done)
walk_ends G valid zero c [] done g l = record { counts = c; good = g }
walk_ends G valid zero c (x ∷ st) done g l = absurd (omega arith)
walk_ends G valid (suc k) c [] done g l = record { counts = c; good = g }
walk_ends G valid (suc k) c (x ∷ st) done g l =
    let p = good-pop G valid c st done x g in
    walk_ends G valid k (counts_after (uses G x) c) (stack_after (uses G x) c st) (kept (G.comb x) x done)
    (good-all G (uses G x) c st (kept (G.comb x) x done) p)
    (omega (arith, l, budget-all G (uses G x) c st (kept (G.comb x) x done) p))
