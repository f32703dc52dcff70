-- The gates that cells name, and counts raised by them. Assumes nothing.
use mathlib.Core.Path.{◌≡◌, refl, ap, ◌∙◌}
use mathlib.Core.Bool.{true, false, true≢false}
use mathlib.Core.List.{List, [], ◌∷◌, ◌++◌, map}
use mathlib.Core.Logic.{⊎_elim}
use Prim.Native.Nat.{ℕ, ◌+◌, ◌-◌, ◌≤◌, ◌<◌}
use native.Mathlib.Omega.{arith}
use lib.ListN.{length, get_or, drop, set, drop_of_length-le}
use Rattle.lists.specs.Lists.{hit, occ}
use Rattle.lists.proofs.Counting.{hit_same, hit-le, set-hit, get_or-set-le, occ-append}
use Rattle.lists.proofs.Places.{drop-next}
use Rattle.signal.specs.Signal.{Node, Const, Input, Var}
use Rattle.signal.specs.Between.Signal.{gate_node}
use Rattle.signal.specs.Cell.{node_of, sig_of}
use Rattle.signal.specs.Between.Cell.{gate_number}
use Rattle.signal.proofs.Cells.{gate-number}
use Rattle.network.specs.Sizes.{max_pins}
use Rattle.sort_order.specs.Order.{lowered}
use Rattle.sort_order.specs.Sorted.{node_gate, gate_nums}
use Rattle.sort.specs.Between.Steps.{gate_named, gate_ins, Within, Rises, Raised, Countable}

-- ---- one cell

pub named-gate : (s : ℕ) → gate_node (node_of s) ≡ true → gate_named s ≡ gate_number s ∷ []
unfolding gate_named
named-gate s e = ap (λ (n : Node). node_gate n []) (gate-number s e)

pub named_none : (s : ℕ) → gate_node (node_of s) ≡ false → gate_named s ≡ []
unfolding gate_named
named_none s e = go (node_of s) e
  where
    go : (n : Node) → gate_node n ≡ false → node_gate n [] ≡ []
    go Const p = refl
    go (Input i) p = refl
    go (Var g) p = absurd (true≢false p)

-- a gate's number in hand: it is what the cell names
pub occ-gate : (s : ℕ) {g : ℕ} → gate_node (node_of s) ≡ true → g ≡ gate_number s → (v : ℕ) → occ v (gate_named s) ≡ hit v g
occ-gate s e q v = omega (arith, ap (occ v) (named-gate s e), ap (hit v) q)

pub occ-own : (s : ℕ) {g : ℕ} → gate_node (node_of s) ≡ true → g ≡ gate_number s → occ g (gate_named s) ≡ 1
occ-own s {g} e q = omega (arith, occ-gate s e q g, hit_same g)

pub named-own : (s : ℕ) {d : ℕ} → gate_node (node_of s) ≡ true → d ≡ gate_number s → gate_named s ≡ d ∷ []
named-own s e q = rw q (named-gate s e)

-- ---- a run

-- the gates that a run names are those of its signals
pub ins-nums : (cs : List ℕ) → gate_ins cs ≡ gate_nums (map sig_of cs)
unfolding gate_named
ins-nums [] = refl
ins-nums (c ∷ cs) = go (node_of c) (gate_ins cs) (gate_nums (map sig_of cs)) (ins-nums cs)
  where
    go : (n : Node) (a b : List ℕ) → a ≡ b → node_gate n [] ++ a ≡ node_gate n b
    go Const a b e = e
    go (Input i) a b e = e
    go (Var g) a b e = ap (λ (l : List ℕ). g ∷ l) e

-- one pin less to come
occ-less : (v : ℕ) (p : List ℕ) (i : ℕ) → i < length p → occ v (gate_ins (drop i p)) ≡ occ v (gate_named (get_or p i 0)) + occ v (gate_ins (drop (i + 1) p))
occ-less v p i h = rw (drop-next p i 0 h) (occ-append v (gate_named (get_or p i 0)) (gate_ins (drop (i + 1) p)))

-- ---- counts

pub raised_at : (c : List ℕ) (d v : ℕ) → d < length c → get_or (set c d (get_or c d 0 + 1)) v 0 ≡ get_or c v 0 + hit v d
raised_at c d v l = ⊎_elim (λ w. omega (arith, w.0, w.1)) (λ w. omega (arith, w.0, w.1)) (set-hit (λ n. n + 1) c d v l)

pub raised-gate : (s : ℕ) {g : ℕ} {c : List ℕ} → gate_node (node_of s) ≡ true → g ≡ gate_number s → g < length c → Raised (gate_named s) c (set c g (get_or c g 0 + 1))
raised-gate s {g} {c} e q l = record { each = λ v. omega (arith, raised_at c g v l, occ-gate s e q v) }

pub raised-none : {ds c : List ℕ} → ds ≡ [] → Raised ds c c
raised-none e = record { each = λ v. omega (arith, ap (occ v) e) }

pub raised-as : {ds es c c' : List ℕ} → ds ≡ es → Raised ds c c' → Raised es c c'
raised-as e r = rw e at r

pub countable-as : {ds es : List ℕ} {m n : ℕ} {c : List ℕ} → ds ≡ es → m ≡ n → Countable ds m c → Countable es n c
countable-as e q r = rw (e, q) at r

-- ---- no count passes the pins in use

pub rises-none : {most : ℕ} {c : List ℕ} → Rises most c c
rises-none = record { each = λ v. omega arith }

pub rises-as : {m n : ℕ} {c c' : List ℕ} → m ≡ n → Rises m c c' → Rises n c c'
rises-as e r = rw e at r

pub rises-then : {m n : ℕ} {c c' c'' : List ℕ} → Rises m c c' → Rises n c' c'' → Rises (m + n) c c''
rises-then r s = record { each = λ v. omega (arith, r.each v, s.each v) }

-- one pin raises no count by more than one
pub rises-gate : {g : ℕ} {c : List ℕ} → g < length c → Rises 1 c (set c g (get_or c g 0 + 1))
rises-gate {g} {c} l = record { each = λ v. omega (arith, raised_at c g v l, hit-le v g) }

-- lowering raises none
pub rises-lowered : (c : List ℕ) (d : ℕ) → Rises 0 c (lowered c d)
rises-lowered c d = record { each = λ v. omega (arith, get_or-set-le c d v (get_or c d 0 - 1) (omega arith)) }

pub within-rises : {used most now : ℕ} {c c' : List ℕ} → used + most ≤ now → Within used c → Rises most c c' → Within now c'
within-rises l w r = record { each = λ v. omega (arith, w.each v, r.each v) }

-- ---- the pins of a gate

-- the pins before i are counted, and the others can be
pub record Counting (pins c₀ c : List ℕ) (i : ℕ) : Type 0 where
  pub within : i ≤ length pins
  pub long : length c ≡ length c₀
  -- what is still to be counted leads to what all pins do
  pub rest : (v : ℕ) → get_or c v 0 + occ v (gate_ins (drop i pins)) ≡ get_or c₀ v 0 + occ v (gate_ins pins)
  -- the gates still to be counted have counts
  pub index : (v : ℕ) → 0 < occ v (gate_ins (drop i pins)) → v < length c
  -- no count rose by more than the pins that are counted
  pub rises : Rises i c₀ c
  -- and there was room for all
  pub room : (v : ℕ) → get_or c₀ v 0 + length pins ≤ max_pins

pub counting-start : {pins c : List ℕ} → Countable (gate_ins pins) (length pins) c → Counting pins c c 0
counting-start h = record { within = omega arith; long = refl; rest = λ v. refl; index = h.index; rises = rises-none; room = h.room }

module _ {pins c₀ c : List ℕ} {i : ℕ} (l : i < length pins) (h : Counting pins c₀ c i) where
  pub counting-asks : Countable (gate_named (get_or pins i 0)) 1 c
  counting-asks =
      record {
        index = λ v p. h.index v (omega (arith, occ-less v pins i l));
        room = λ v. omega (arith, h.room v, h.rises.each v);
      }

  pub counting-next : {c' : List ℕ} → length c' ≡ length c → Raised (gate_named (get_or pins i 0)) c c' → Rises 1 c c' → Counting pins c₀ c' (i + 1)
  counting-next k r s =
      record {
        within = omega arith;
        long = k ∙ h.long;
        rest = λ v. omega (arith, h.rest v, r.each v, occ-less v pins i l);
        index = λ v p. omega (arith, k, h.index v (omega (arith, occ-less v pins i l)));
        rises = rises-then h.rises s;
        room = h.room;
      }

pub counting-done : {pins c₀ c : List ℕ} {i : ℕ} → length pins ≤ i → Counting pins c₀ c i → Raised (gate_ins pins) c₀ c × Rises (length pins) c₀ c
counting-done {pins} {c₀} {c} {i} l h =
    let e : drop i pins ≡ [] = drop_of_length-le pins l in (
      record { each = λ v. omega (arith, h.rest v, ap (λ (p : List ℕ). occ v (gate_ins p)) e) },
      record { each = λ v. omega (arith, h.rises.each v, h.within) },
    )
