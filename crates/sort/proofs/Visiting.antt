-- One visit, and all visits. Assumes nothing.
use mathlib.Core.Path.{◌≡◌, refl, sym, ap, ap₂, ◌∙◌}
use mathlib.Core.Bool.{Bool, true, false, cond}
use mathlib.Core.List.{List, [], ◌∷◌, ◌++◌, append_assoc, map}
use mathlib.Core.Logic.{⊎_elim}
use Prim.Native.Nat.{ℕ, zero, suc, ◌+◌, ◌-◌, ◌≤◌, ◌<◌}
use native.Mathlib.Omega.{arith}
use lib.ListN.{length, get_or, take, drop, set, length-set, take-append-drop}
use lib.Seq.{drop-cons, get_or-set_same, get_or-set_other, drop-set-lt, take-set-le, take-take}
use Rattle.lists.specs.Lists.{occ, range}
use Rattle.lists.proofs.Counting.{hit-or, once-short, length-table, get_or-table}
use Rattle.network.specs.Sizes.{max_gates}
use Rattle.sort_order.specs.Order.{Graph, uses, pushed, lowered, kept, counts_after, stack_after, walk, recorded, use_count}
use Rattle.sort_order.specs.Between.Walk.{ValidGraph, WalkState}
use Rattle.sort.specs.Between.Steps.{gate_ins, from_top, top_gate, Lowered, Walks, GatesMarked, Ready, Visited, Begins, Recorded}
use Rattle.sort_order.proofs.Walk.{budget, good-lower, next-below, good-pop, good-all, budget-all, top-low, top-fresh, uses-comb, uses-flop}
use Rattle.sort_order.proofs.WalkEnds.{good_start, budget-start}
use Rattle.sort.proofs.Stack.{length-from_top}

-- ---- lengths of the stack and of the recorded gates

pub stack-short : (G : Graph) (c st done rest : List ℕ) → WalkState G c st done rest → length st ≤ G.size
stack-short G c st done rest g = once-short G.size st (λ v p. (g.low v (omega arith)).0) (λ v. omega (arith, g.once v))

pub done-short : (G : Graph) (c st done rest : List ℕ) → WalkState G c st done rest → length done ≤ G.size
done-short G c st done rest g = once-short G.size done (λ v p. (g.low v (omega arith)).0) (λ v. omega (arith, g.once v))

-- ---- the walk goes by the counts of the gates alone

stack_same : (G : Graph) (rest c c' st done : List ℕ) → WalkState G c st done rest → WalkState G c' st done rest → stack_after rest c st ≡ stack_after rest c' st
stack_same G [] c c' st done g h = refl
stack_same G (d ∷ rest) c c' st done g h =
    let b = next-below G c st done d rest g in
    let q : get_or c' d 0 ≡ get_or c d 0 = h.counted d b ∙ sym (g.counted d b) in
    let e : pushed (get_or c' d 0 - 1) d st ≡ pushed (get_or c d 0 - 1) d st = ap (λ (x : ℕ). pushed (x - 1) d st) q in
    let h' : WalkState G (lowered c' d) (pushed (get_or c d 0 - 1) d st) done rest = rw e at (good-lower G c' st done d rest h) in
    stack_same G rest (lowered c d) (lowered c' d) (pushed (get_or c d 0 - 1) d st) done (good-lower G c st done d rest g) h'
    ∙ ap (stack_after rest (lowered c' d)) (sym e)

pub walk_same : (G : Graph) → ValidGraph G → (k : ℕ) (c c' st done : List ℕ) → WalkState G c st done [] → WalkState G c' st done [] → walk G k c st done ≡ walk G k c' st done
walk_same G valid zero c c' st done g h = refl
walk_same G valid (suc k) c c' [] done g h = refl
walk_same G valid (suc k) c c' (x ∷ st) done g h =
    let p = good-pop G valid c st done x g in
    let q = good-pop G valid c' st done x h in
    let d = kept (G.comb x) x done in
    let e : stack_after (uses G x) c' st ≡ stack_after (uses G x) c st = stack_same G (uses G x) c' c st d q p in
    let h' : WalkState G (counts_after (uses G x) c') (stack_after (uses G x) c st) d [] = rw e at (good-all G (uses G x) c' st d q) in
    walk_same G valid k (counts_after (uses G x) c) (counts_after (uses G x) c') (stack_after (uses G x) c st) d (good-all G (uses G x) c st d p) h'
    ∙ ap (λ (s : List ℕ). walk G k (counts_after (uses G x) c') s d) (sym e)

pub walk-empty : (G : Graph) (k : ℕ) (c done : List ℕ) → walk G k c [] done ≡ done
walk-empty G zero c done = refl
walk-empty G (suc k) c done = refl

-- ---- one visit

pub from_top-pop : (top : ℕ) (st : List ℕ) → 0 < top → from_top top st ≡ top_gate st top ∷ from_top (top - 1) st
from_top-pop zero st p = absurd (omega arith)
from_top-pop (suc k) st p =
    let e : suc k - 1 ≡ k = omega arith in
    rw e

mark-flop : (b : Bool) (r x : ℕ) → x ≡ cond b r 1 → r ≡ 0 → (x ≡ 0 → ⊥) → b ≡ false
mark-flop true r x e z h = absurd (h (e ∙ z))
mark-flop false r x e z h = refl

mark-comb : (b : Bool) (r x : ℕ) → x ≡ cond b r 1 → x ≡ 0 → b ≡ true
mark-comb true r x e h = refl
mark-comb false r x e h = absurd (omega arith)

module _ {G : Graph} (valid : ValidGraph G) (few : G.size ≤ max_gates) {c m st : List ℕ} {top : ℕ} {o : List ℕ} {at : ℕ} (p : 0 < top) (r : Ready G c m st top o at) where
  pub top-good : WalkState G c (top_gate st top ∷ from_top (top - 1) st) r.done []
  top-good = rw (from_top-pop top st p) at r.good

  pub top-few : top ≤ G.size
  top-few = omega (arith, stack-short G c (from_top top st) r.done [] r.good, length-from_top top st)

  pub v_below : top_gate st top < G.size
  v_below = (top-low G valid c (from_top (top - 1) st) r.done (top_gate st top) top-good).0

  pub v-flop : (get_or m (top_gate st top) 0 ≡ 0 → ⊥) → G.comb (top_gate st top) ≡ false
  v-flop z =
      mark-flop (G.comb (top_gate st top)) (occ (top_gate st top) r.done) (get_or m (top_gate st top) 0)
      (r.marked.each (top_gate st top) v_below)
      (top-fresh G valid c (from_top (top - 1) st) r.done (top_gate st top) top-good).1
      z

  pub v-comb : get_or m (top_gate st top) 0 ≡ 0 → G.comb (top_gate st top) ≡ true
  v-comb z =
      mark-comb (G.comb (top_gate st top)) (occ (top_gate st top) r.done) (get_or m (top_gate st top) 0)
      (r.marked.each (top_gate st top) v_below)
      z

  pub visited-skip : (get_or m (top_gate st top) 0 ≡ 0 → ⊥) → Visited G (top_gate st top) c m st top o at c m st (top - 1) o at
  visited-skip z =
      let e = v-flop z in
      let u = uses-flop G (top_gate st top) e in
      record {
        lowered = record { counts = rw u; stack = rw u };
        marks = rw e;
        order = rw e;
        place = rw e;
      }

  -- the gate is recorded
  v-good : get_or m (top_gate st top) 0 ≡ 0 → WalkState G c (from_top (top - 1) st) (top_gate st top ∷ r.done) (G.ins (top_gate st top))
  v-good z =
      let v = top_gate st top in
      let e = v-comb z in
      let f : kept (G.comb v) v r.done ≡ v ∷ r.done = rw e in
      rw (f, uses-comb G v e) at (good-pop G valid c (from_top (top - 1) st) r.done v top-good)

  pub at-pos : get_or m (top_gate st top) 0 ≡ 0 → 1 ≤ at
  at-pos z = omega (arith, done-short G c (from_top (top - 1) st) (top_gate st top ∷ r.done) (G.ins (top_gate st top)) (v-good z), r.room)

  pub visit-walks : (pins : List ℕ) → G.ins (top_gate st top) ≡ gate_ins pins → get_or m (top_gate st top) 0 ≡ 0 → Walks c (from_top (top - 1) st) pins
  visit-walks pins e z = record { graph = G; done = top_gate st top ∷ r.done; few = few; good = rw e at (v-good z) }

  pub visited-comb : (pins c' st' : List ℕ) (top' : ℕ) → G.ins (top_gate st top) ≡ gate_ins pins → get_or m (top_gate st top) 0 ≡ 0
      → Lowered (gate_ins pins) c (from_top (top - 1) st) c' (from_top top' st')
      → Visited G (top_gate st top) c m st top o at c' (set m (top_gate st top) 1) st' top' (set o (at - 1) (top_gate st top)) (at - 1)
  visited-comb pins c' st' top' q z l =
      let e = v-comb z in
      let u : gate_ins pins ≡ uses G (top_gate st top) = sym (uses-comb G (top_gate st top) e ∙ q) in
      record {
        lowered = rw u at l;
        marks = rw e;
        order = rw e;
        place = rw e;
      }

-- ---- all visits

pub drop-set-here : (o : List ℕ) (i v : ℕ) → i < length o → drop i (set o i v) ≡ v ∷ drop (suc i) o
drop-set-here o i v l =
    drop-cons (set o i v) i 0 (rw length-set l)
    ∙ (rw (get_or-set_same o i v 0 l, drop-set-lt (suc i) o i v (omega arith)))

-- What holds before each visit. The order's cells, which were o₀:
--     0          at                    G.size
--     | as in o₀ | the gates recorded  | as in o₀
pub record Walking (G : Graph) (o₀ c m st : List ℕ) (top : ℕ) (o : List ℕ) (at : ℕ) : Type 0 where
  -- counts, marks and stack fit the gates recorded
  pub ready : Ready G c m st top o at
  -- the order keeps its length
  pub same : length o ≡ length o₀
  -- the gates recorded stand from `at` on
  pub laid : drop at o ≡ ready.done ++ drop G.size o₀
  -- before them nothing has changed
  pub front : take at o ≡ take at o₀
  -- so many pops
  pub left : ℕ
  -- are enough from here
  pub enough : budget G c (from_top top st) ≤ left
  -- and record what the whole walk records
  pub leads : walk G left c (from_top top st) ready.done ≡ recorded G

marked_next : (G : Graph) (v : ℕ) (done m : List ℕ) (b : Bool) → G.comb v ≡ b → v < length m → occ v done ≡ 0 → GatesMarked G done m → GatesMarked G (kept b v done) (cond b (set m v 1) m)
marked_next G v done m false e l z h = h
marked_next G v done m true e l z h =
    record {
      each = λ u q.
          ⊎_elim
          (λ w.
          let a : occ u (v ∷ done) ≡ 1 = omega (arith, w.1, ap (λ (x : ℕ). occ x done) w.0) in
          let f : G.comb u ≡ true = ap G.comb w.0 ∙ e in
          rw (f, a) (rw w.0 (get_or-set_same m v 1 0 l)))
          (λ w.
          let a : occ u (v ∷ done) ≡ occ u done = omega (arith, w.1) in
          rw a (get_or-set_other m v u 1 0 w.0 ∙ h.each u q))
          (hit-or u v);
    }

room_next : (n at v : ℕ) (done : List ℕ) (b : Bool) → (b ≡ true → 1 ≤ at) → at + length done ≡ n → cond b (at - 1) at + length (kept b v done) ≡ n
room_next n at v done false h e = e
room_next n at v done true h e = omega (arith, h refl)

laid_next : (G : Graph) (o₀ o : List ℕ) (at v : ℕ) (done : List ℕ) (b : Bool) → (b ≡ true → 1 ≤ at) → at ≤ length o → drop at o ≡ done ++ drop G.size o₀
    → drop (cond b (at - 1) at) (cond b (set o (at - 1) v) o) ≡ kept b v done ++ drop G.size o₀
laid_next G o₀ o at v done false h l e = e
laid_next G o₀ o at v done true h l e =
    let q : suc (at - 1) ≡ at = omega (arith, h refl) in
    drop-set-here o (at - 1) v (omega (arith, h refl)) ∙ (rw (q, e))

front-next : (o₀ o : List ℕ) (at v : ℕ) (b : Bool) → take at o ≡ take at o₀ → take (cond b (at - 1) at) (cond b (set o (at - 1) v) o) ≡ take (cond b (at - 1) at) o₀
front-next o₀ o at v false e = e
front-next o₀ o at v true e =
    take-set-le (at - 1) o (at - 1) v (omega arith)
    ∙ sym (take-take (at - 1) at o (omega arith))
    ∙ ap (take (at - 1)) e
    ∙ take-take (at - 1) at o₀ (omega arith)

module _ {G : Graph} (valid : ValidGraph G) (few : G.size ≤ max_gates) {o₀ c m st : List ℕ} {top : ℕ} {o : List ℕ} {at : ℕ} (p : 0 < top) (w : Walking G o₀ c m st top o at)
    {c' m' st' : List ℕ} {top' : ℕ} {o' : List ℕ} {at' : ℕ} (x : Visited G (top_gate st top) c m st top o at c' m' st' top' o' at') where
  abbrev now-done : List ℕ
  now-done = kept (G.comb (top_gate st top)) (top_gate st top) w.ready.done

  popped : WalkState G c (from_top (top - 1) st) now-done (uses G (top_gate st top))
  popped = good-pop G valid c (from_top (top - 1) st) w.ready.done (top_gate st top) (top-good valid few p w.ready)

  next-good : WalkState G c' (from_top top' st') now-done []
  next-good = rw (x.lowered.counts, x.lowered.stack) (good-all G (uses G (top_gate st top)) c (from_top (top - 1) st) now-done popped)

  pub next-budget : budget G c (from_top top st) ≡ suc (budget G c' (from_top top' st'))
  next-budget =
      let b = budget-all G (uses G (top_gate st top)) c (from_top (top - 1) st) now-done popped in
      rw (from_top-pop top st p, x.lowered.counts, x.lowered.stack) (omega arith)

  comb-pos : G.comb (top_gate st top) ≡ true → 1 ≤ at
  comb-pos e =
      let v = top_gate st top in
      let f : now-done ≡ v ∷ w.ready.done = rw e in
      let g : WalkState G c (from_top (top - 1) st) (v ∷ w.ready.done) (uses G v) = rw f at popped in
      omega (arith, done-short G c (from_top (top - 1) st) (v ∷ w.ready.done) (uses G v) g, w.ready.room)

  next-ready : length c' ≡ length c → length m' ≡ length m → length st' ≡ length st → length o' ≡ length o → Ready G c' m' st' top' o' at'
  next-ready kc km ks ko =
      let l = w.ready.long in
      let v = top_gate st top in
      record {
        done = now-done;
        long = record { counts = kc ∙ l.counts; marks = km ∙ l.marks; stack = ks ∙ l.stack; order = omega (arith, l.order) };
        good = next-good;
        marked =
            rw x.marks
            (marked_next G v w.ready.done m (G.comb v) refl
            (omega (arith, v_below valid few p w.ready, l.marks))
            (top-fresh G valid c (from_top (top - 1) st) w.ready.done v (top-good valid few p w.ready)).1
            w.ready.marked);
        room = rw x.place (room_next G.size at v w.ready.done (G.comb v) comb-pos w.ready.room);
      }

  next-leads : (k : ℕ) → w.left ≡ k → (j : ℕ) × (budget G c' (from_top top' st') ≤ j) × (walk G j c' (from_top top' st') now-done ≡ recorded G)
  next-leads zero e = absurd (omega (arith, w.enough, next-budget))
  next-leads (suc k) e = (
    k,
    omega (arith, w.enough, next-budget),
    rw (x.lowered.counts, x.lowered.stack) (rw (e, from_top-pop top st p) at w.leads),
  )

  next-laid : drop at' o' ≡ now-done ++ drop G.size o₀
  next-laid =
      rw (x.place, x.order)
      (laid_next G o₀ o at (top_gate st top) w.ready.done (G.comb (top_gate st top)) comb-pos (omega (arith, w.ready.room, w.ready.long.order)) w.laid)

  pub walking-next : length c' ≡ length c → length m' ≡ length m → length st' ≡ length st → length o' ≡ length o → Walking G o₀ c' m' st' top' o' at'
  unfolding next-ready
  walking-next kc km ks ko =
      let v = top_gate st top in
      let n = next-leads w.left refl in
      record {
        ready = next-ready kc km ks ko;
        same = ko ∙ w.same;
        laid = next-laid;
        front = rw (x.place, x.order) (front-next o₀ o at v (G.comb v) w.front);
        left = n.0;
        enough = n.1;
        leads = n.2;
      }

-- ---- the start and the end of all visits

pub walking_start : {G : Graph} → ValidGraph G → {o c m st : List ℕ} {top : ℕ} → Begins G c m st top o → G.size ≤ max_gates → Walking G o c m st top o G.size
unfolding recorded
walking_start {G} valid {o} {c} {m} {st} {top} b few =
    let long : G.size ≤ length c = omega (arith, b.long.counts) in
    let same : (v : ℕ) → v < G.size → get_or c v 0 ≡ use_count G v = λ v _. b.counted.each v in
    let e = b.first in
    let g : WalkState G c (from_top top st) [] [] = rw e (good_start G c same long) in
    let c' = map (use_count G) (range 0 G.size) in
    let h : WalkState G c' (from_top top st) [] [] = rw e (good_start G c' (λ v b. get_or-table (use_count G) G.size v b) (omega (arith, length-table (use_count G) G.size))) in
    record {
      ready = record { done = []; long = b.long; good = g; marked = b.marked; room = omega arith };
      same = refl;
      laid = refl;
      front = refl;
      left = G.size;
      enough = rw e (budget-start G c same long);
      leads = walk_same G valid G.size c c' (from_top top st) [] g h ∙ ap (λ (s : List ℕ). walk G G.size c' s []) e;
    }

pub walking-end : {G : Graph} {o₀ c m st : List ℕ} {top : ℕ} {o : List ℕ} {at : ℕ} → top ≡ 0 → Walking G o₀ c m st top o at → Recorded G o₀ o at
walking-end {G} {o₀} {c} {m} {st} {top} {o} {at} z w =
    let d : w.ready.done ≡ recorded G = sym (walk-empty G w.left c w.ready.done) ∙ (rw z at w.leads) in
    record {
      start = rw d at w.ready.room;
      cells = sym (take-append-drop at o) ∙ ap₂ ◌++◌ w.front (rw d at w.laid) ∙ sym (append_assoc (take at o₀) (recorded G) (drop G.size o₀));
    }
