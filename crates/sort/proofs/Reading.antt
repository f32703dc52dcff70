-- The network that the cells hold, gate by gate. Assumes nothing.
use mathlib.Core.Path.{◌≡◌, refl, sym, ap, ◌∙◌, subst}
use mathlib.Core.Bool.{false}
use mathlib.Core.List.{List, map, []}
use mathlib.Core.Option.{some}
use Prim.Native.Nat.{ℕ, zero, suc, ◌*◌, ◌≤◌, ◌<◌}
use native.Mathlib.Omega.{arith}
use lib.ListN.{length, get_elem?, take}
use Rattle.lists.specs.Lists.{sum_to, optional}
use Rattle.lists.proofs.Counting.{sum-cong}
use Rattle.lists.proofs.Places.{get_or-place}
use Rattle.signal.specs.Cell.{sig_of}
use Rattle.gates.specs.Gate.{Buf, Gate, Comb, pins, is_comb}
use Rattle.gates.specs.Between.Forms.{kind_of}
use Rattle.gates.specs.Between.Decode.{kind_comb}
use Rattle.gates.proofs.Forms.{comb-number}
use Rattle.network.proofs.GateRead.{has-run, gate-is, run-pins, cell-gate, cell-count}
use Rattle.network.specs.declared.Counts.{Counts}
use Rattle.network.specs.Cells.{cell_gates, lent, net_of, pins_below}
use Rattle.network.specs.Record.{gate_width, count_at, run_at, gate_at, pin_cells}
use Rattle.network.specs.Between.Record.{HasRun}
use Rattle.sort_order.specs.Sorted.{gate_nums, graph}
use Rattle.sort_order.specs.Between.Sortable.{Sortable}
use Rattle.sort_order.specs.Between.Walk.{ValidGraph}
use Rattle.sort.specs.Between.Steps.{gate_ins, form_comb, cell_comb, cell_ins, cell_graph, Cells}
use Rattle.sort.proofs.Uses.{run-counted}
use Rattle.sort.proofs.Naming.{ins-nums}
use Rattle.sort_order.proofs.Sorting.{graph-valid}
use Rattle.sort_order.proofs.Keeps.{pins_at, length-pin_cells}

-- ---- a gate that can be read

module _ (cells ps : List ℕ) (g : ℕ) (x : Gate) (e : gate_at cells ps g ≡ some x) where
  pub form-comb : form_comb cells g ≡ is_comb x
  unfolding form_comb
  form-comb = ap (λ (n : ℕ). kind_comb (kind_of n)) (sym (gate-is cells ps g x e).number) ∙ comb-number x

  pub run-nums : gate_ins (run_at cells ps g) ≡ gate_nums (pins x)
  run-nums = ins-nums (run_at cells ps g) ∙ ap gate_nums (sym (gate-is cells ps g x e).all-pins)

-- ---- all gates

module _ (n : Counts) (gs ps os : List ℕ) where
  pub net-gates : (net_of (lent n gs ps os)).gates ≡ cell_gates gs ps 0 n.gates
  unfolding net_of
  net-gates = refl

  pub net-outputs : (net_of (lent n gs ps os)).outputs ≡ map sig_of (take n.outputs os)
  unfolding net_of
  net-outputs = refl

  pub net-size : length (net_of (lent n gs ps os)).gates ≡ n.gates
  net-size = ap length net-gates ∙ cell-count gs ps n.gates

  -- the graph of the cells is the network's
  pub graph-cells : graph (net_of (lent n gs ps os)) ≡ cell_graph gs ps n.gates
  unfolding net_of cell_comb cell_ins
  graph-cells = λ i.
      record {
        size = cell-count gs ps n.gates i;
        comb = λ g. optional is_comb false (get_elem? (cell_gates gs ps 0 n.gates) g);
        ins = λ g. optional (λ (x : Gate). gate_nums (pins x)) [] (get_elem? (cell_gates gs ps 0 n.gates) g);
      }

  module _ {a b : ℕ} (s : Sortable (lent n gs ps os) a b) where
    cell-comb : (g : ℕ) → g < n.gates → form_comb gs g ≡ cell_comb gs ps n.gates g
    unfolding cell_comb
    cell-comb g l =
        let r = s.readable g l in
        form-comb gs ps g r.0 r.1 ∙ sym (ap (optional is_comb false) (cell-gate gs ps n.gates g r.0 l r.1))

    cell-ins : (g : ℕ) → g < n.gates → gate_ins (run_at gs ps g) ≡ cell_ins gs ps n.gates g
    unfolding cell_ins
    cell-ins g l =
        let r = s.readable g l in
        run-nums gs ps g r.0 r.1 ∙ sym (ap (optional (λ (x : Gate). gate_nums (pins x)) []) (cell-gate gs ps n.gates g r.0 l r.1))

    pin-count : (g : ℕ) → g < n.gates → pins_at (cell_gates gs ps 0 n.gates) g ≡ count_at gs g
    pin-count g l =
        let r = s.readable g l in
        ap (λ (x : Gate). length (pins x)) (get_or-place (Comb Buf []) (cell_gates gs ps 0 n.gates) g r.0 (cell-gate gs ps n.gates g r.0 l r.1))
        ∙ sym (run-pins gs ps g r.0 r.1)
        ∙ run-counted (has-run gs ps g r.0 r.1)

    -- the pins in use are the network's
    net-pins : length (pin_cells (net_of (lent n gs ps os)).gates) ≡ pins_below gs n.gates
    net-pins =
        ap (λ (xs : List Gate). length (pin_cells xs)) net-gates
        ∙ length-pin_cells (cell_gates gs ps 0 n.gates)
        ∙ ap (λ (k : ℕ). sum_to k (pins_at (cell_gates gs ps 0 n.gates))) (cell-count gs ps n.gates)
        ∙ sum-cong n.gates (pins_at (cell_gates gs ps 0 n.gates)) (count_at gs) pin-count

    pub sortable-cells : Cells gs ps n.gates
    sortable-cells =
        record {
          few = s.few;
          runs = λ g l. let r = s.readable g l in has-run gs ps g r.0 r.1;
          combs = cell-comb;
          inputs = cell-ins;
          valid = subst ValidGraph graph-cells (graph-valid (net_of (lent n gs ps os)) s.valid);
          few_pins = omega (arith, s.few_pins, net-pins);
        }

pub gates-room : {gs ps : List ℕ} {n : ℕ} → Cells gs ps n → n * gate_width ≤ length gs
gates-room {gs} {ps} {n} h = go n h.runs
  where
    go : (k : ℕ) → ((g : ℕ) → g < k → HasRun gs ps g) → k * gate_width ≤ length gs
    go zero r = omega arith
    go (suc k) r = omega (arith, (r k (omega arith)).cells.within)
