-- Marked flip-flops and the first stack. Assumes nothing.
use mathlib.Core.Path.{◌≡◌, refl, sym, ap, ◌∙◌}
use mathlib.Core.Bool.{Bool, true, false, cond}
use mathlib.Core.List.{List, [], ◌∷◌, ◌++◌, append_assoc, append-nil}
use mathlib.Core.Logic.{⊎_elim}
use Prim.Native.Nat.{ℕ, zero, suc, ◌+◌, ◌≤◌, ◌<◌}
use native.Mathlib.Omega.{arith}
use native.Mathlib.Numerals.{add-one}
use lib.Dec.{eqb}
use lib.ListN.{length, get_or, drop, set, replicate, length-append, length-drop}
use lib.Seq.{set_at, get_or-set_same, get_or-set_other}
use borrow.Author.Tests.{eq-eqb, lt-ltb, le-ltb}
use Rattle.lists.proofs.Counting.{hit-or}
use Rattle.lists.proofs.Places.{drop-next}
use Rattle.lists.proofs.Tests.{by_order}
use Rattle.network.specs.Sizes.{max_gates}
use Rattle.sort_order.specs.Order.{Graph, pushed, flops_to, start_to}
use Rattle.sort.specs.Between.Steps.{flop_mark, FlopsPlaced, unmarked, Started, GatesMarked}
use Rattle.sort.proofs.Stack.{from_top-push}
use Rattle.sort.proofs.Uses.{get_or-zeros}

module _ (comb : ℕ → Bool) where
  mark-below : (k v : ℕ) → v < k → flop_mark comb k v ≡ cond (comb v) 0 1
  unfolding flop_mark
  mark-below k v l = rw (lt-ltb v k l)

  mark-above : (k v : ℕ) → k ≤ v → flop_mark comb k v ≡ 0
  unfolding flop_mark
  mark-above k v l = rw (le-ltb v k l)

  -- marks before and after gate k, elsewhere
  mark-else : (k v : ℕ) → (v ≡ k → ⊥) → flop_mark comb k v ≡ flop_mark comb (k + 1) v
  mark-else k v z =
      by_order k v
      (λ l. mark-above k v l ∙ sym (mark-above (k + 1) v (omega arith)))
      (λ l. mark-below k v l ∙ sym (mark-below (k + 1) v (omega arith)))

  flops-next : (k : ℕ) → flops_to comb (k + 1) ≡ flops_to comb k ++ cond (comb k) [] (k ∷ [])
  flops-next k = rw add-one

  pub flopped-skip : {k : ℕ} {o₀ m o : List ℕ} {k' : ℕ} → comb k ≡ true → FlopsPlaced comb k o₀ m o k' → FlopsPlaced comb (k + 1) o₀ m o k'
  flopped-skip {k} {o₀} {m} {o} {k'} e h =
      let f : flops_to comb (k + 1) ≡ flops_to comb k = rw flops-next (rw e (append-nil (flops_to comb k))) in
      record {
        count = rw f h.count;
        few = omega (arith, h.few);
        front = rw f h.front;
        marks = λ v.
            ⊎_elim
            (λ w. h.marks v ∙ mark-above k v (omega (arith, w.0)) ∙ sym (mark-below (k + 1) v (omega (arith, w.0)) ∙ (rw (ap comb w.0 ∙ e))))
            (λ w. h.marks v ∙ mark-else k v w.0)
            (hit-or v k);
      }

  pub flopped-mark : {k : ℕ} {o₀ m o : List ℕ} {k' : ℕ} → comb k ≡ false → k < length m → k' < length o → FlopsPlaced comb k o₀ m o k' → FlopsPlaced comb (k + 1) o₀ (set m k 1) (set o k' k) (k' + 1)
  flopped-mark {k} {o₀} {m} {o} {k'} e lm lo h =
      let f : flops_to comb (k + 1) ≡ flops_to comb k ++ k ∷ [] = rw flops-next (rw e) in
      let q : k' < length o₀ = omega (arith, ap length h.front, length-append (flops_to comb k) (drop k' o₀), length-drop k' o₀, h.count) in
      let s : o ≡ flops_to comb k ++ get_or o₀ k' 0 ∷ drop (k' + 1) o₀ = rw (drop-next o₀ k' 0 q) at h.front in
      record {
        count = rw f (omega (arith, h.count, length-append (flops_to comb k) (k ∷ [])));
        few = omega (arith, h.few);
        front =
            ap (λ (l : List ℕ). set l k' k) s
            ∙ set_at (flops_to comb k) (get_or o₀ k' 0) (drop (k' + 1) o₀) k k' (sym h.count)
            ∙ rw f (sym (append_assoc (flops_to comb k) (k ∷ []) (drop (k' + 1) o₀)));
        marks = λ v.
            ⊎_elim
            (λ w.
            rw w.0
            (get_or-set_same m k 1 0 lm ∙ sym (mark-below (k + 1) k (omega arith) ∙ (rw e))))
            (λ w. get_or-set_other m k v 1 0 w.0 ∙ h.marks v ∙ mark-else k v w.0)
            (hit-or v k);
      }

  pub flopped-none : {m o : List ℕ} → m ≡ replicate max_gates 0 → FlopsPlaced comb 0 o m o 0
  flopped-none {m} {o} e = record { count = refl; few = omega arith; front = refl; marks = λ v. (rw e (get_or-zeros max_gates v)) ∙ sym (mark-above 0 v (omega arith)) }

  -- the marks of a whole network
  pub flopped-unmarked : (n : ℕ) (o₀ m o : List ℕ) (k' : ℕ) → FlopsPlaced comb n o₀ m o k' → (v : ℕ) → v < n → unmarked m v ≡ comb v
  flopped-unmarked n o₀ m o k' h v l = rw (h.marks v, mark-below n v l) (go (comb v))
    where
      go : (b : Bool) → eqb (cond b 0 1) 0 ≡ b
      go true = refl
      go false = refl

-- a test that is the same below k
flops-same : (comb comb' : ℕ → Bool) (k : ℕ) → ((v : ℕ) → v < k → comb v ≡ comb' v) → flops_to comb k ≡ flops_to comb' k
flops-same comb comb' zero h = refl
flops-same comb comb' (suc k) h = rw (flops-same comb comb' k (λ v l. h v (omega arith)), h k (omega arith))

mark-same : (comb comb' : ℕ → Bool) (k : ℕ) → ((v : ℕ) → v < k → comb v ≡ comb' v) → (v : ℕ) → flop_mark comb k v ≡ flop_mark comb' k v
mark-same comb comb' k h v =
    by_order k v
    (λ l. mark-above comb k v l ∙ sym (mark-above comb' k v l))
    (λ l. mark-below comb k v l ∙ ap (λ (b : Bool). cond b 0 1) (h v l) ∙ sym (mark-below comb' k v l))

pub flopped-same : {comb comb' : ℕ → Bool} {k : ℕ} {o₀ m o : List ℕ} {k' : ℕ} → ((v : ℕ) → v < k → comb v ≡ comb' v) → FlopsPlaced comb k o₀ m o k'
    → FlopsPlaced comb' k o₀ m o k'
flopped-same {comb} {comb'} {k} h f =
    let e = flops-same comb comb' k h in
    record {
      count = rw e at f.count;
      few = f.few;
      front = rw e at f.front;
      marks = λ v. f.marks v ∙ mark-same comb comb' k h v;
    }

pub flopped-marked : (G : Graph) (o₀ m o : List ℕ) (k' : ℕ) → FlopsPlaced G.comb G.size o₀ m o k' → GatesMarked G [] m
flopped-marked G o₀ m o k' h = record { each = λ v l. h.marks v ∙ mark-below G.comb G.size v l }

-- ---- the first stack

start-next : (comb : ℕ → Bool) (f : ℕ → ℕ) (k : ℕ) → start_to comb f (k + 1) ≡ cond (comb k) (pushed (f k) k (start_to comb f k)) (start_to comb f k)
start-next comb f k = rw add-one

pub started-push : {m c : List ℕ} {k : ℕ} {st : List ℕ} {top : ℕ} → get_or m k 0 ≡ 0 → get_or c k 0 ≡ 0 → top < length st → Started m c k st top → Started m c (k + 1) (set st top k) (top + 1)
started-push {m} {c} {k} {st} {top} e z l h =
    record {
      stack =
          from_top-push st top k l
          ∙ ap (λ (s : List ℕ). k ∷ s) h.stack
          ∙ sym (start-next (unmarked m) (λ v. get_or c v 0) k ∙ (rw (eq-eqb (get_or m k 0) 0 e) (rw z)));
      low = omega (arith, h.low);
    }

pub started_none : {m c st : List ℕ} → Started m c 0 st 0
started_none = record { stack = refl; low = omega arith }

-- where marks and counts are those of a network below n
pub start-same : (comb comb' : ℕ → Bool) (f f' : ℕ → ℕ) (n : ℕ) → ((v : ℕ) → v < n → comb v ≡ comb' v) → ((v : ℕ) → v < n → f v ≡ f' v) → start_to comb f n ≡ start_to comb' f' n
start-same comb comb' f f' zero p q = refl
start-same comb comb' f f' (suc n) p q =
    let s = start-same comb comb' f f' n (λ v l. p v (omega arith)) (λ v l. q v (omega arith)) in
    rw (p n (omega arith), q n (omega arith), s)
