-- Laws for the gates' bits, worked out one after the other in a sorted network. Assumes nothing.
use mathlib.Core.Path.{◌≡◌, refl, sym, ap, ◌∙◌, subst}
use mathlib.Core.Bool.{Bool, true, false}
use mathlib.Core.List.{List, map, Memᴰ}
use mathlib.Core.Option.{some}
use mathlib.Core.Logic.{◌⊎◌, inl, inr, ⊎_elim}
use Prim.Native.Nat.{ℕ, ◌+◌, ◌*◌, ◌≤◌, ◌<◌}
use native.Mathlib.Omega.{arith}
use lib.ListN.{length}
use borrow.Author.Tests.{ltb-true}
use Rattle.lists.proofs.Tests.{by_order}
use Rattle.signal.specs.Signal.{Node, Const, Input, Var, Signal}
use Rattle.signal.specs.Cell.{node_of, sig_of}
use Rattle.gates.specs.Gate.{Form, Gate, Comb, Dff, pins, form_bit}
use Rattle.gates.specs.Forms.{flop_number, form_cell}
use Rattle.gates.proofs.Forms.{comb-other}
use Rattle.network.specs.Net.{Net, GateIs, sorted_from}
use Rattle.network.specs.Clock.{sig_bit, gate_bit}
use Rattle.network.specs.Settle.{settle}
use Rattle.network.specs.Cells.{or_buf, cell_gates, cell_net, valid_node}
use Rattle.network.specs.Record.{form_at, run_at, gate_at}
use Rattle.network.specs.Between.Cells.{NetCells}
use Rattle.network.proofs.GateRead.{cell-gate}
use Rattle.network.proofs.OneChoice.{ranked, settle-fits}
use Rattle.network.proofs.Summary.{sorted-free}
use Rattle.network.proofs.TopoSorted.{sorted_rises}
use Rattle.gate_bits.specs.Between.Slots.{slot_count, pin_bits, Shows}
use Rattle.run_rows.specs.Between.Steps.{IsFlop, Shown, WorkedOut, comb_bit}
use Rattle.run_rows.specs.Between.Asks.{BitReady, Workable}
use Rattle.run_rows.proofs.Showing.{Known, known-bits, put, length-put, gate-keeps-const, shown-more, shown-as, shown-fewer}

-- the gates whose bits are known once those before g are worked out: these, and the flip-flops
abbrev pub Before : List ℕ → ℕ → ℕ → ℕ → Type 0
Before cells n g h = (h < n) × ((h < g) ⊎ (form_at cells h ≡ flop_number))

module _ {cells ps : List ℕ} {n : ℕ} (row : List Bool) (held : ℕ → Bool) (net : NetCells (length row) n cells ps)
    (sorted : sorted_from 0 (cell_gates cells ps 0 n) ≡ true) (inputs : ℕ) (outs : List ℕ) where
  abbrev gates : Net
  gates = cell_net inputs cells ps n outs

  abbrev val : ℕ → Bool
  val = settle gates row held

  gate-at : (g : ℕ) (h : g < n) → GateIs gates g (net.each g h).gate
  gate-at g h = cell-gate cells ps n g (net.each g h).gate h (net.each g h).is

  -- each gate has the bit that it should
  val_is : (g : ℕ) (h : g < n) → val g ≡ gate_bit (sig_bit row val) (held g) (net.each g h).gate
  val_is g h = settle-fits gates (ranked gates (sorted-free gates sorted)) row held g (net.each g h).gate (gate-at g h)

  -- a flip-flop's is its held one
  pub flop-holds : (g : ℕ) → g < n → form_at cells g ≡ flop_number → held g ≡ val g
  flop-holds g h f = by (net.each g h).gate (sym (net.each g h).form ∙ f) (val_is g h)
    where
      by : (x : Gate) → form_cell x ≡ flop_number → val g ≡ gate_bit (sig_bit row val) (held g) x → held g ≡ val g
      by (Dff ff) q e = sym e
      by (Comb k qs) q e = absurd (comb-other k qs q)

  pub work_start : {bits : List Bool} → Shown row held (IsFlop cells n) bits → Shown row val (Before cells n 0) bits
  work_start s = shown-as s flop (λ g k. flop-holds g k.0 (flop g k).form)
    where
      flop : (g : ℕ) → Before cells n 0 g → IsFlop cells n g
      flop g k = record { below = k.0; form = ⊎_elim (λ (l : g < 0). absurd (omega arith)) (λ q. q) k.1 }

  module _ {bits : List Bool} {g : ℕ} (s : Shown row val (Before cells n g) bits) (h : g < n) where
    -- a combinational gate's inputs stand before it
    input-known : (f : Form) (qs : List Signal) → (net.each g h).gate ≡ Comb f qs → (c : ℕ) → Memᴰ c (run_at cells ps g) → Known row (Before cells n g) (node_of c)
    input-known f qs e c m = node (node_of c) refl ((net.each g h).valid c m)
      where
        node : (k : Node) → node_of c ≡ k → valid_node (length row) n k ≡ true → Known row (Before cells n g) k
        node Const q t = tt
        node (Input i) q t = ltb-true i (length row) t
        node (Var d) q t =
            let in-pins : Memᴰ (sig_of c) qs = subst (Memᴰ (sig_of c)) (sym (net.each g h).run ∙ ap pins e) (mathlib.Core.List.Memᴰ.map sig_of m) in
            let lower : d < g = sorted_rises gates sorted g d f qs (sig_of c) (gate-at g h ∙ ap some e) in-pins q in
            (ltb-true d n t, inl lower)

    pub work-comb : {b : Bool} {slot : ℕ} → (form_at cells g ≡ flop_number → ⊥) → b ≡ comb_bit (or_buf (gate_at cells ps g)) (pin_bits bits (run_at cells ps g))
        → slot ≡ 2 * (g + 1) → Shown row val (Before cells n (g + 1)) (put bits slot b)
    work-comb {b} comb is at = shown-more s g (omega (arith, net.few_gates)) at (is ∙ ap (λ o. comb_bit (or_buf o) (pin_bits bits (run_at cells ps g))) (net.each g h).is ∙ by (net.each g h).gate refl) more
      where
        by : (x : Gate) → (net.each g h).gate ≡ x → comb_bit x (pin_bits bits (run_at cells ps g)) ≡ val g
        by (Dff ff) e = absurd (comb ((net.each g h).form ∙ ap form_cell e))
        by (Comb f qs) e =
            ap (form_bit f) (known-bits s (run_at cells ps g) (net.each g h).words (input-known f qs e) ∙ ap (map (sig_bit row val)) (sym (net.each g h).run ∙ ap pins e))
            ∙ sym (val_is g h ∙ ap (gate_bit (sig_bit row val) (held g)) e)

        more : (k : ℕ) → Before cells n (g + 1) k → Before cells n g k ⊎ (k ≡ g)
        more k (l, inr q) = inl (l, inr q)
        more k (l, inl q) = by_order g k (λ o. inr (omega arith)) (λ o. inl (l, inl o))

    pub work-flop : form_at cells g ≡ flop_number → Shown row val (Before cells n (g + 1)) bits
    work-flop f = shown-fewer s less
      where
        less : (k : ℕ) → Before cells n (g + 1) k → Before cells n g k
        less k (l, inr q) = (l, inr q)
        less k (l, inl q) = by_order g k (λ o. let e : g ≡ k = omega arith in (l, inr (ap (form_at cells) (sym e) ∙ f))) (λ o. (l, inl o))

  pub work-done : {bits : List Bool} {g : ℕ} → n ≤ g → Shown row val (Before cells n g) bits → Shown row val (λ k. k < n) bits
  work-done le s = shown-fewer s (λ k l. (l, inl (omega arith)))

-- ---- all of them

-- the bits of the gates before g are worked out, in whatever network of these gates
pub record Working (cells ps : List ℕ) (n : ℕ) (bits₀ bits : List Bool) (g : ℕ) : Type 0 where
  -- one of the gates, or behind the last
  pub within : g ≤ n
  -- as many slots as a table has
  pub size : length bits ≡ slot_count
  -- the constant's bit
  pub const : Shows bits Const false
  -- the bits known
  pub each : (row : List Bool) (held : ℕ → Bool) (inputs : ℕ) (outs : List ℕ) → NetCells (length row) n cells ps
      → Shown row held (IsFlop cells n) bits₀ → Shown row (settle (cell_net inputs cells ps n outs) row held) (Before cells n g) bits

module _ {cells ps slots tables : List ℕ} {bits₀ : List Bool} (w : Workable cells ps slots tables bits₀) where
  abbrev total : ℕ
  total = length tables

  pub working-start : Working cells ps total bits₀ bits₀ 0
  working-start = record {
    within = omega arith;
    size = w.size;
    const = w.const;
    each = λ row held inputs outs net s. work_start row held net w.sorted inputs outs s;
  }

  module _ {bits : List Bool} {g : ℕ} (k : Working cells ps total bits₀ bits g) (h : g < total) where
    pub working-ready : (form_at cells g ≡ flop_number → ⊥) → BitReady cells ps g slots tables bits
    working-ready f = record {
      inputs = w.inputs;
      n = total;
      gate = w.gates.each g h;
      comb = f;
      laid = w.laid.each g h;
      slot = omega (arith, w.room);
      table = h;
      size = k.size;
      const = k.const;
    }

    pub working-comb : {b : Bool} {slot : ℕ} → (form_at cells g ≡ flop_number → ⊥) → b ≡ comb_bit (or_buf (gate_at cells ps g)) (pin_bits bits (run_at cells ps g))
        → slot ≡ 2 * (g + 1) → Working cells ps total bits₀ (put bits slot b) (g + 1)
    working-comb {b} {slot} f is at = record {
      within = omega arith;
      size = length-put bits slot b ∙ k.size;
      const = gate-keeps-const bits b g (omega (arith, w.gates.few_gates)) at k.const;
      each = λ row held inputs outs net s. work-comb row held net w.sorted inputs outs (k.each row held inputs outs net s) h f is at;
    }

    pub working-flop : form_at cells g ≡ flop_number → Working cells ps total bits₀ bits (g + 1)
    working-flop f = record {
      within = omega arith;
      size = k.size;
      const = k.const;
      each = λ row held inputs outs net s. work-flop row held net w.sorted inputs outs (k.each row held inputs outs net s) h f;
    }

  pub working-done : {bits : List Bool} {g : ℕ} → total ≤ g → Working cells ps total bits₀ bits g → WorkedOut cells ps total bits₀ bits
  working-done le k = record {
    size = k.size ∙ sym w.size;
    each = λ row held inputs outs net s. work-done row held net w.sorted inputs outs le (k.each row held inputs outs net s);
  }
