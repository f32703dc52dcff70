-- The stack in cells, and what lowering counts leaves of it. Assumes nothing.
use mathlib.Core.Path.{◌≡◌, refl, sym, ap, ◌∙◌}
use mathlib.Core.Bool.{true, false}
use mathlib.Core.List.{List, [], ◌∷◌, ◌++◌}
use mathlib.Core.Logic.{⊎_elim}
use Prim.Native.Nat.{ℕ, zero, suc, ◌+◌, ◌-◌, ◌≤◌, ◌<◌}
use native.Mathlib.Omega.{arith}
use native.Mathlib.Numerals.{add-one}
use lib.ListN.{length, get_or, drop, set, drop_of_length-le}
use lib.Seq.{get_or-set_same, get_or-set_other}
use Rattle.lists.specs.Lists.{occ}
use Rattle.lists.proofs.Counting.{hit-or, once-short}
use Rattle.lists.proofs.Places.{drop-next}
use Rattle.signal.specs.Between.Signal.{gate_node}
use Rattle.signal.specs.Cell.{node_of}
use Rattle.signal.specs.Between.Cell.{gate_number}
use Rattle.network.specs.Sizes.{max_gates}
use Rattle.sort_order.specs.Order.{Graph, lowered, pushed, counts_after, stack_after}
use Rattle.sort_order.specs.Between.Walk.{WalkState}
use Rattle.sort.specs.Between.Steps.{gate_named, gate_ins, from_top, Rises, Walks, Lowers, Lowered}
use Rattle.sort_order.proofs.Walk.{good-lower, next-below, next-count, next-fresh}
use Rattle.sort.proofs.Naming.{named-gate, named_none, named-own, rises-none, rises-then}

pub length-from_top : (k : ℕ) (l : List ℕ) → length (from_top k l) ≡ k
length-from_top zero l = refl
length-from_top (suc k) l = ap suc (length-from_top k l)

pub from_top-set : (k : ℕ) (l : List ℕ) (i x : ℕ) → k ≤ i → from_top k (set l i x) ≡ from_top k l
from_top-set zero l i x h = refl
from_top-set (suc k) l i x h =
    let a : get_or (set l i x) k 0 ≡ get_or l k 0 = get_or-set_other l i k x 0 (λ e. omega arith) in
    let b : from_top k (set l i x) ≡ from_top k l = from_top-set k l i x (omega arith) in
    cc

pub from_top-push : (l : List ℕ) (i x : ℕ) → i < length l → from_top (i + 1) (set l i x) ≡ x ∷ from_top i l
from_top-push l i x h =
    let a : get_or (set l i x) i 0 ≡ x = get_or-set_same l i x 0 h in
    let b : from_top i (set l i x) ≡ from_top i l = from_top-set i l i x (omega arith) in
    rw add-one (rw (a, b) refl)

-- ---- lowering

pub counts_after-append : (a b c : List ℕ) → counts_after (a ++ b) c ≡ counts_after b (counts_after a c)
counts_after-append [] b c = refl
counts_after-append (d ∷ a) b c = counts_after-append a b (lowered c d)

pub stack_after-append : (a b c st : List ℕ) → stack_after (a ++ b) c st ≡ stack_after b (counts_after a c) (stack_after a c st)
stack_after-append [] b c st = refl
stack_after-append (d ∷ a) b c st = stack_after-append a b (lowered c d) (pushed (get_or c d 0 - 1) d st)

-- the first of several inputs
pub good-part : (G : Graph) (a b c st done : List ℕ) → WalkState G c st done (a ++ b) → WalkState G (counts_after a c) (stack_after a c st) done b
good-part G [] b c st done g = g
good-part G (d ∷ a) b c st done g = good-part G a b (lowered c d) (pushed (get_or c d 0 - 1) d st) done (good-lower G c st done d (a ++ b) g)

-- there is room on the stack for the next input
pub next-room : (G : Graph) (c st done : List ℕ) (d : ℕ) (rest : List ℕ) → WalkState G c st done (d ∷ rest) → length st < G.size
next-room G c st done d rest g =
    once-short G.size (d ∷ st)
    (λ v p. ⊎_elim (λ w. rw w.0 (next-below G c st done d rest g)) (λ w. (g.low v (omega (arith, w.1))).0) (hit-or v d))
    (λ v.
    ⊎_elim
    (λ w. omega (arith, w.1, ap (λ (x : ℕ). occ x st) w.0, next-fresh G c st done d rest g))
    (λ w. omega (arith, w.1, g.once v))
    (hit-or v d))

-- what lowering one pin asks
pub walks_next : (c st : List ℕ) (s : ℕ) (pins : List ℕ) → Walks c st (s ∷ pins) → Lowers s c (length st)
walks_next c st s pins w =
    record {
      below = λ e. omega (arith, w.few, next-below w.graph c st w.done (gate_number s) (gate_ins pins) (g e));
      used = λ e. next-count w.graph c st w.done (gate_number s) (gate_ins pins) (g e);
      room = λ e. omega (arith, w.few, next-room w.graph c st w.done (gate_number s) (gate_ins pins) (g e));
    }
  where
    g : gate_node (node_of s) ≡ true → WalkState w.graph c st w.done (gate_number s ∷ gate_ins pins)
    g e =
        let q : gate_named s ++ gate_ins pins ≡ gate_number s ∷ gate_ins pins = ap (λ (l : List ℕ). l ++ gate_ins pins) (named-gate s e) in
        rw q at w.good

pub walks-after : (c st : List ℕ) (s : ℕ) (pins : List ℕ) (c' st' : List ℕ) → Walks c st (s ∷ pins) → Lowered (gate_named s) c st c' st' → Walks c' st' pins
walks-after c st s pins c' st' w l =
    record {
      graph = w.graph;
      done = w.done;
      few = w.few;
      good = rw (l.counts, l.stack) (good-part w.graph (gate_named s) (gate_ins pins) c st w.done w.good);
    }

-- ---- lowering one pin

pushed-zero : (m d : ℕ) (st : List ℕ) → m ≡ 0 → pushed m d st ≡ d ∷ st
pushed-zero m d st e = rw e

pub pushed_more : (m d : ℕ) (st : List ℕ) → (m ≡ 0 → ⊥) → pushed m d st ≡ st
pushed_more zero d st e = absurd (e refl)
pushed_more (suc m) d st e = refl

pub lowered_none : (s : ℕ) {c st : List ℕ} → gate_node (node_of s) ≡ false → Lowered (gate_named s) c st c st
lowered_none s e = record { counts = rw (named_none s e); stack = rw (named_none s e) }

pub lowered-stay : (s : ℕ) {d : ℕ} {c st : List ℕ} → gate_node (node_of s) ≡ true → d ≡ gate_number s → d < length c → (get_or (lowered c d) d 0 ≡ 0 → ⊥) → Lowered (gate_named s) c st (lowered c d) st
lowered-stay s {d} {c} {st} e q l z =
    record {
      counts = rw (named-own s e q);
      stack = rw (named-own s e q) (sym (pushed_more (get_or c d 0 - 1) d st (λ y. z (get_or-set_same c d (get_or c d 0 - 1) 0 l ∙ y))));
    }

pub lowered-push : (s : ℕ) {d : ℕ} {c st st' : List ℕ} → gate_node (node_of s) ≡ true → d ≡ gate_number s → d < length c → get_or (lowered c d) d 0 ≡ 0 → st' ≡ d ∷ st → Lowered (gate_named s) c st (lowered c d) st'
lowered-push s {d} {c} {st} e q l z p =
    record {
      counts = rw (named-own s e q);
      stack = rw (named-own s e q) (p ∙ sym (pushed-zero (get_or c d 0 - 1) d st (sym (get_or-set_same c d (get_or c d 0 - 1) 0 l) ∙ z)));
    }

-- ---- lowering all pins of a gate

-- what is still to do from pin i on is what was to do at first
pub record Lowering (pins c₀ st₀ : List ℕ) (top : ℕ) (c st : List ℕ) (t i : ℕ) : Type 0 where
  pub within : i ≤ length pins
  pub counts-long : length c ≡ max_gates
  pub stack-long : length st ≡ max_gates
  pub walks : Walks c (from_top t st) (drop i pins)
  pub counts : counts_after (gate_ins (drop i pins)) c ≡ counts_after (gate_ins pins) c₀
  pub stack : stack_after (gate_ins (drop i pins)) c (from_top t st) ≡ stack_after (gate_ins pins) c₀ (from_top top st₀)
  -- no count rose
  pub rises : Rises 0 c₀ c

pub lowering-start : {pins c st : List ℕ} {top : ℕ} → length c ≡ max_gates → length st ≡ max_gates → Walks c (from_top top st) pins → Lowering pins c st top c st top 0
lowering-start lc ls w = record { within = omega arith; counts-long = lc; stack-long = ls; walks = w; counts = refl; stack = refl; rises = rises-none }

module _ {pins c₀ st₀ : List ℕ} {top : ℕ} {c st : List ℕ} {t i : ℕ} (l : i < length pins) (h : Lowering pins c₀ st₀ top c st t i) where
  pub lowering-asks : Lowers (get_or pins i 0) c t
  lowering-asks = rw (length-from_top t st) at (walks_next c (from_top t st) (get_or pins i 0) (drop (i + 1) pins) (rw (drop-next pins i 0 l) at h.walks))

  pub lowering-next : {c' st' : List ℕ} {t' : ℕ} → length c' ≡ length c → length st' ≡ length st
      → Lowered (gate_named (get_or pins i 0)) c (from_top t st) c' (from_top t' st') → Rises 0 c c' → Lowering pins c₀ st₀ top c' st' t' (i + 1)
  lowering-next {c'} {st'} {t'} kc ks e u =
      let s = get_or pins i 0 in
      let r = gate_ins (drop (i + 1) pins) in
      let q : gate_ins (drop i pins) ≡ gate_named s ++ r = ap gate_ins (drop-next pins i 0 l) in
      record {
        within = omega arith;
        counts-long = kc ∙ h.counts-long;
        stack-long = ks ∙ h.stack-long;
        walks = walks-after c (from_top t st) s (drop (i + 1) pins) c' (from_top t' st') (rw (drop-next pins i 0 l) at h.walks) e;
        counts = rw e.counts (sym (counts_after-append (gate_named s) r c) ∙ (rw q at h.counts));
        stack = rw (e.counts, e.stack) (sym (stack_after-append (gate_named s) r c (from_top t st)) ∙ (rw q at h.stack));
        rises = rises-then h.rises u;
      }

pub lowering-done : {pins c₀ st₀ : List ℕ} {top : ℕ} {c st : List ℕ} {t i : ℕ} → length pins ≤ i → Lowering pins c₀ st₀ top c st t i
    → Lowered (gate_ins pins) c₀ (from_top top st₀) c (from_top t st) × Rises 0 c₀ c
lowering-done {pins} {i = i} l h =
    let e : drop i pins ≡ [] = drop_of_length-le pins l in
    (record { counts = rw e at h.counts; stack = rw e at h.stack }, h.rises)
