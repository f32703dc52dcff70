-- The sort's theorems, as a reviewer would read them (document 01, src/network/network.rs). Assumes nothing.
use mathlib.Core.Path.{◌≡◌, refl, sym, subst}
use mathlib.Core.Bool.{Bool, true}
use mathlib.Core.List.{List, [], map}
use mathlib.Core.Option.{none, some}
use mathlib.Core.Logic.{◌↔◌}
use Prim.Native.Nat.{ℕ, ◌+◌, ◌≤◌, ◌<◌}
use native.Mathlib.Omega.{arith}
use lib.ListN.{length, get_or, take}
use Rattle.lists.specs.Lists.{occ, sum_to, range}
use Rattle.lists.proofs.Counting.{length-table, get_or-table}
use Rattle.gates.specs.Gate.{Comb}
use Rattle.network.specs.Net.{Net, GateIs, Valid, Loop, topo_sorted}
use Rattle.network.specs.Record.{pin_cells}
use Rattle.network.specs.Settle.{run_from, run}
use Rattle.network.specs.Renumber.{place_of, permuted}
use Rattle.network.proofs.Summary.{renumbered-runs, renumbered-run}
use Rattle.network.proofs.TopoSorted.{rises_sorted}
use Rattle.sort_order.specs.Order.{uses, use_count, counts_after, start_to, walk, recorded, sort_order}
use Rattle.sort_order.specs.Sorted.{graph, sorted, Preserved}
use Rattle.sort_order.proofs.WalkEnds.{good_start, budget-start, walk-enough}
use Rattle.sort_order.proofs.Ordering as ord
use Rattle.sort_order.proofs.Sorting.{graph-valid, sorted-order, none-loop, sorted-free, order-renumbers}
use Rattle.sort_order.proofs.Keeps.{lower, uses-within, kept-valid, kept-formed, kept-gates, kept-outputs, kept_pins}
use Rattle.sort_order.proofs.Keeps as keeps

-- "New order: flip-flops in old order, then the recorded gates backwards": every gate's number stands in the order exactly once
pub sort-permutes : (net : Net) → Valid net → (l : List ℕ) → sort_order (graph net) ≡ some l
    → ((g : ℕ) → g < length net.gates → occ g l ≡ 1) × (length l ≡ length net.gates)
sort-permutes net valid l e = (
  λ g h. ord.sort-permutes (graph net) (graph-valid net valid) l e g h,
  ord.sort-length (graph net) (graph-valid net valid) l e,
)

-- "The last is popped and recorded", until the stack is empty: as many pops as there are gates are enough, and more change nothing
pub pops-enough : (net : Net) → Valid net → (k : ℕ) → length net.gates ≤ k
    → walk (graph net) k (map (use_count (graph net)) (range 0 (length net.gates))) (start_to (graph net).comb (use_count (graph net)) (length net.gates)) []
    ≡ recorded (graph net)
unfolding recorded
pops-enough net valid k h =
    let G = graph net in
    let c = map (use_count G) (range 0 G.size) in
    let same : (v : ℕ) → v < G.size → get_or c v 0 ≡ use_count G v = λ v l. get_or-table (use_count G) G.size v l in
    let long : G.size ≤ length c = omega (arith, length-table (use_count G) G.size) in
    let b = budget-start G c same long in
    walk-enough G (graph-valid net valid) k G.size c (start_to G.comb (use_count G) G.size) [] (good_start G c same long) (omega (arith, b)) b

-- "After a sort, every gate input of a combinational gate has a lower number"
pub sort-sorts : (net new : Net) → Valid net → sorted net ≡ some new → topo_sorted new ≡ true
sort-sorts net new valid e =
    let o = sorted-order net valid new e in
    rises_sorted new (λ i d f ps s is m q.
    lower net valid o.0 o.1 i d f ps s (subst (λ (n : Net). GateIs n i (Comb f ps)) (sym o.2) is) m q)

-- "A combinational gate never recorded means a loop": the sort gives none exactly where there is a loop
pub loop-exactly : (net : Net) → Valid net → (sorted net ≡ none) ↔ Loop net
loop-exactly net valid = none-loop net valid

-- "one claim over every list of rows, the empty one too, not one for each clock": the sorted network gives the same outputs, each gate
-- starting at the bit that it held under its old number, which the order holds at its new one
pub sorted-runs : (net new : Net) → Valid net → sorted net ≡ some new
    → (l : List ℕ) × (sort_order (graph net) ≡ some l) × ((held : ℕ → Bool) (rows : List (List Bool)) → run_from new (λ g. held (get_or l g 0)) rows ≡ run_from net held rows)
sorted-runs net new valid e =
    let o = sorted-order net valid new e in (
      o.0,
      o.1,
      λ held rows.
          subst (λ (n : Net). run_from n (λ g. held (get_or o.0 g 0)) rows ≡ run_from net held rows) o.2
          (renumbered-runs net (permuted o.0 net) (place_of o.0) (λ g. get_or o.0 g 0) (order-renumbers net valid o.0 o.1) valid
          (sorted-free net valid new e) held rows),
    )

-- the same from the start values, which move with their gates
pub sorted-run : (net new : Net) → Valid net → sorted net ≡ some new → (rows : List (List Bool)) → run new rows ≡ run net rows
sorted-run net new valid e rows =
    let o = sorted-order net valid new e in
    subst (λ (n : Net). run n rows ≡ run net rows) o.2
    (renumbered-run net (permuted o.0 net) (place_of o.0) (λ g. get_or o.0 g 0) (order-renumbers net valid o.0 o.1) valid
    (sorted-free net valid new e) rows)

-- "It counts how often combinational gates use each gate, twice if an input repeats": a count is at most the number of pins
pub count_fits : (net : Net) (v : ℕ) → use_count (graph net) v ≤ length (pin_cells net.gates)
count_fits net v = uses-within net v

-- "prove that none passes the pins in use" (document 02, CR 5): each count, at each moment of the sort, is at most the number of pins in use.
-- While uses are counted, those of the gates before g and the first i of gate g's so far:
pub counting-within : (net : Net) (g i v : ℕ) → g < length net.gates
    → sum_to g (λ k. occ v (uses (graph net) k)) + occ v (take i (uses (graph net) g)) ≤ length (pin_cells net.gates)
counting-within = keeps.counting-within

-- and while the walk lowers the counts with which `recorded` starts, whatever gates ds it has lowered so far
pub lowering-within : (net : Net) (ds : List ℕ) (v : ℕ)
    → get_or (counts_after ds (map (use_count (graph net)) (range 0 (length net.gates)))) v 0 ≤ length (pin_cells net.gates)
lowering-within = keeps.lowering-within

-- what the sort keeps
pub sorted-keeps : (net new : Net) → Valid net → sorted net ≡ some new → Preserved net new
sorted-keeps net new valid e =
    let o = sorted-order net valid new e in
    subst (Preserved net) o.2
    (record {
      valid = kept-valid net valid o.0 o.1;
      inputs = refl;
      gates = kept-gates net valid o.0 o.1;
      outputs = kept-outputs net valid o.0 o.1;
      formed = kept-formed net valid o.0 o.1;
      pins = kept_pins net valid o.0 o.1;
    })
