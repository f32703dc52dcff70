-- What the sort keeps, and that every gate input of a combinational gate gets a lower number. Assumes nothing.
use mathlib.Core.Path.{◌≡◌, refl, sym, ap, ◌∙◌, subst}
use mathlib.Core.List.Memᴰ
use mathlib.Core.List.{List, [], ◌∷◌, map, Memᴰ}
use mathlib.Core.Option
use mathlib.Core.Option.{Option, some}
use mathlib.Core.Logic.{⊎_elim}
use Prim.Native.Nat.{ℕ, suc, ◌+◌, ◌≤◌, ◌<◌}
use native.Mathlib.Omega.{arith}
use lib.ListN.{length, get_or, get_elem?, take, length-map, get_or-eq_default}
use mathlib.Core.Bool.{Bool, true, false}
use Rattle.lists.specs.Lists.{occ, sum_of, sum_to, range, optional, all}
use Rattle.lists.proofs.Counting.{hit-or, zero_or, occ-take-le, front-le, sum_head, sum_mono, sum-perm, mem-occ, length-table, get_or-table}
use Rattle.lists.proofs.FirstPlace.{place, place_at, find-place}
use Rattle.lists.proofs.Places.{place-get_or, place-lt, place-mem, mem-place}
use Rattle.lists.proofs.Range.{all-mem, mem-all}
use Rattle.lists.proofs.Tests.{by_order}
use Rattle.signal.specs.Signal.{Node, Const, Input, Var, Signal, const_node, remap_node, remap}
use Rattle.gates.specs.Gate.{Form, Buf, Gate, Comb, Dff, pins, is_comb, is_plain}
use Rattle.gates.specs.Forms.{can_have, formed}
use Rattle.network.specs.Net.{Net, GateIs, Valid, Formed}
use Rattle.network.specs.Record.{pin_cells}
use Rattle.network.specs.Renumber.{remap_gate, place_of, gate_or, permuted}
use Rattle.network.proofs.PinCells.{pins-next}
use Rattle.network.proofs.Renumbering.{renumbered-valid, pins-remap, node-from, comb-from}
use Rattle.sort_order.specs.Order.{uses, use_count, counts_after, sort_order}
use Rattle.sort_order.specs.Sorted.{node_gate, gate_nums, graph, sorted}
use Rattle.sort_order.proofs.Walk.{counts_after-le, uses-comb, uses-ins}
use Rattle.sort_order.proofs.Ordering.{sort-permutes, sort-length, sort-inputs, order-once, some-full}
use Rattle.sort_order.proofs.Sorting.{point-nums, graph-valid, sorted-order, order-has, order-renumbers}

-- ---- the new number is the place in the order

pub new-place : (v : ℕ) (l : List ℕ) → 0 < occ v l → place_of l v ≡ place v l
new-place v l p = ap (λ (r : Option ℕ). Option.get_or r 0) (find-place v l p)

-- ---- counting pins

-- the pins of gate g
abbrev pub pins_at : List Gate → ℕ → ℕ
pins_at gs g = length (pins (get_or gs g (Comb Buf [])))

pub length-pin_cells : (gs : List Gate) → length (pin_cells gs) ≡ sum_to (length gs) (pins_at gs)
unfolding pin_cells
length-pin_cells [] = refl
length-pin_cells (x ∷ gs) = omega (arith, pins-next x gs, length-pin_cells gs, sum_head (length gs) (pins_at (x ∷ gs)))

pub occ-nums : (v : ℕ) (ss : List Signal) → occ v (gate_nums ss) ≤ length ss
occ-nums v [] = omega arith
occ-nums v (s ∷ ss) = go s.node (occ-nums v ss)
  where
    go : (n : Node) → occ v (gate_nums ss) ≤ length ss → occ v (node_gate n (gate_nums ss)) ≤ suc (length ss)
    go Const h = omega arith
    go (Input i) h = omega arith
    go (Var g) h = ⊎_elim (λ w. omega (arith, w.1)) (λ w. omega (arith, w.1)) (hit-or v g)

pub uses-fit : (net : Net) (v g : ℕ) → g < length net.gates → occ v (uses (graph net) g) ≤ pins_at net.gates g
uses-fit net v g h =
    ⊎_elim
    (λ z. omega (arith, z))
    (λ p.
    let e : uses (graph net) g ≡ optional (λ (x : Gate). gate_nums (pins x)) [] (get_elem? net.gates g) = uses-comb (graph net) g (uses-ins (graph net) g v p).0 in
    let q : optional (λ (x : Gate). gate_nums (pins x)) [] (get_elem? net.gates g) ≡ gate_nums (pins (gate_or net g)) = ap (optional (λ (x : Gate). gate_nums (pins x)) []) (place-get_or (Comb Buf []) net.gates g h) in
    omega (arith, ap (occ v) (e ∙ q), occ-nums v (pins (gate_or net g))))
    (zero_or (occ v (uses (graph net) g)))

pub uses-within : (net : Net) (v : ℕ) → use_count (graph net) v ≤ length (pin_cells net.gates)
unfolding use_count
uses-within net v =
    omega (
      arith,
      sum_mono (length net.gates) (λ g. occ v (uses (graph net) g)) (pins_at net.gates) (λ g h. uses-fit net v g h),
      length-pin_cells net.gates,
    )

-- each count while uses are counted: those of the gates before g, and the first i of gate g's
pub counting-within : (net : Net) (g i v : ℕ) → g < length net.gates
    → sum_to g (λ k. occ v (uses (graph net) k)) + occ v (take i (uses (graph net) g)) ≤ length (pin_cells net.gates)
unfolding use_count
counting-within net g i v l =
    omega (
      arith,
      occ-take-le v i (uses (graph net) g),
      front-le (λ k. occ v (uses (graph net) k)) (length net.gates) (suc g) l,
      uses-within net v,
    )

-- each count while the walk lowers: any gates ds were lowered
pub lowering-within : (net : Net) (ds : List ℕ) (v : ℕ)
    → get_or (counts_after ds (map (use_count (graph net)) (range 0 (length net.gates)))) v 0 ≤ length (pin_cells net.gates)
lowering-within net ds v =
    let n = length net.gates in
    let c = map (use_count (graph net)) (range 0 n) in
    let first : get_or c v 0 ≤ length (pin_cells net.gates) =
    by_order n v
    (λ h. omega (arith, get_or-eq_default c 0 {n = v} (omega (arith, length-table (use_count (graph net)) n, h))))
    (λ h. omega (arith, get_or-table (use_count (graph net)) n v h, uses-within net v)) in
    omega (arith, first, counts_after-le ds c v)

-- ---- a renumbered gate

formed-remap : (π : ℕ → ℕ) (y : Gate) → formed (remap_gate π y) ≡ formed y
formed-remap π (Comb f ps) = ap (can_have f) (length-map ps (remap π))
formed-remap π (Dff s) = refl

-- what is a constant stays one, and nothing else becomes one
const-remap : (π : ℕ → ℕ) (n : Node) → const_node (remap_node π n) ≡ const_node n
const-remap π Const = refl
const-remap π (Input i) = refl
const-remap π (Var g) = refl

plain-remap : (π : ℕ → ℕ) (y : Gate) → is_plain (remap_gate π y) ≡ is_plain y
plain-remap π (Comb f ps) = refl
plain-remap π (Dff s) = simp const-remap

pins-many : (π : ℕ → ℕ) (y : Gate) → length (pins (remap_gate π y)) ≡ length (pins y)
pins-many π y = ap length (pins-remap π y) ∙ length-map (pins y) (remap π)

-- ---- the network in the order

module _ (net : Net) (valid : Valid net) (l : List ℕ) (e : sort_order (graph net) ≡ some l) where
  pub once : (v : ℕ) → occ v l ≤ 1
  once v = let f = some-full (graph net) (graph-valid net valid) l e in rw f.0 at (order-once (graph net) (graph-valid net valid) v)

  -- "every gate input of a combinational gate has a lower number"
  pub lower : (i d : ℕ) (f : Form) (ps : List Signal) (s : Signal) → GateIs (permuted l net) i (Comb f ps) → Memᴰ s ps → s.node ≡ Var d → d < i
  lower i d f ps s is m q =
      let G = graph net in
      let gv = graph-valid net valid in
      let fr = (order-renumbers net valid l e).gates_from i (Comb f ps) is in
      let c = comb-from (place_of l) fr.was f ps fr.renamed in
      let t = Memᴰ.of_map (remap (place_of l)) c.0 (subst (Memᴰ s) c.2 m) in
      let n = node-from (place_of l) t.0.node d (ap (λ (u : Signal). u.node) t.2 ∙ q) in
      let g = get_or l i 0 in
      let il : i < length l = subst (λ (k : ℕ). i < k) (length-map l (λ (o : ℕ). remap_gate (place_of l) (gate_or net o))) (place-lt (permuted l net).gates i (Comb f ps) is) in
      let gl : g < length net.gates = place-lt net.gates g fr.was fr.was_at in
      let was : get_elem? net.gates g ≡ some (Comb f c.0) = fr.was_at ∙ ap some c.1 in
      let o : 0 < occ n.0 (optional (λ (x : Gate). gate_nums (pins x)) [] (get_elem? net.gates g)) =
      subst (λ (x : Option Gate). 0 < occ n.0 (optional (λ (x : Gate). gate_nums (pins x)) [] x)) (sym was) (mem-occ n.0 (gate_nums c.0) (point-nums n.0 c.0 t.0 t.1 n.1)) in
      let b : n.0 < length net.gates = gv g n.0 gl o in
      let one : occ n.0 l ≡ 1 = sort-permutes G gv l e n.0 b in
      omega (
        arith,
        n.2,
        new-place n.0 l (omega arith),
        place_at l i il once,
        sort-inputs G gv l e n.0 g gl (ap (optional is_comb false) was) o,
      )

  pub kept-valid : Valid (permuted l net)
  kept-valid = renumbered-valid net (permuted l net) (place_of l) (λ (i : ℕ). get_or l i 0) (order-renumbers net valid l e) valid

  -- a test that renumbering does not change: each gate passes it, if each did before
  kept_test : (p : Gate → Bool) → ((π : ℕ → ℕ) (y : Gate) → p (remap_gate π y) ≡ p y) → ((g : ℕ) (y : Gate) → GateIs net g y → p y ≡ true)
      → (i : ℕ) (x : Gate) → GateIs (permuted l net) i x → p x ≡ true
  kept_test p same h i x is =
      let fr = (order-renumbers net valid l e).gates_from i x is in
      ap p fr.renamed ∙ same (place_of l) fr.was ∙ h (get_or l i 0) fr.was fr.was_at

  pub kept-formed : Formed net → Formed (permuted l net)
  kept-formed = kept_test formed formed-remap

  -- plain flip-flops stay plain
  kept-plain : all is_plain net.gates ≡ true → all is_plain (permuted l net).gates ≡ true
  kept-plain t =
      mem-all is_plain (permuted l net).gates (λ x m.
      let at = mem-place (permuted l net).gates x m in
      kept_test is_plain plain-remap (λ g y is. all-mem is_plain net.gates t y (place-mem net.gates g y is)) at.0 x at.1)

  pub kept-gates : length (permuted l net).gates ≡ length net.gates
  kept-gates = length-map l (λ (o : ℕ). remap_gate (place_of l) (gate_or net o)) ∙ sort-length (graph net) (graph-valid net valid) l e

  pub kept-outputs : length (permuted l net).outputs ≡ length net.outputs
  kept-outputs = length-map net.outputs (remap (place_of l))

  cells_over : (π : ℕ → ℕ) (k : List ℕ) → length (pin_cells (map (λ (o : ℕ). remap_gate π (gate_or net o)) k)) ≡ sum_of (pins_at net.gates) k
  unfolding pin_cells
  cells_over π [] = refl
  cells_over π (o ∷ k) =
      omega (arith, pins-next (remap_gate π (gate_or net o)) (map (λ (p : ℕ). remap_gate π (gate_or net p)) k), pins-many π (gate_or net o), cells_over π k)

  pub kept_pins : length (pin_cells (permuted l net).gates) ≡ length (pin_cells net.gates)
  kept_pins =
      cells_over (place_of l) l
      ∙ sum-perm (length net.gates) (pins_at net.gates) l (order-has net valid l e) (sort-permutes (graph net) (graph-valid net valid) l e)
      ∙ sym (length-pin_cells net.gates)

-- a network whose flip-flops are plain is sorted into such a one
pub sorted-plain : (net new : Net) → Valid net → sorted net ≡ some new → all is_plain net.gates ≡ true → all is_plain new.gates ≡ true
sorted-plain net new valid e t =
    let o = sorted-order net valid new e in
    subst (λ (n : Net). all is_plain n.gates ≡ true) o.2 (kept-plain net valid o.0 o.1 t)
