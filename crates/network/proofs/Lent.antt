-- Lent cells and networks, both ways: what passes the tests of refusal 20 is the cells of a network, and a network's cells pass and give
-- it back. Assumes nothing.
use mathlib.Core.Path.{◌≡◌, refl, sym, ap, ◌∙◌, subst}
use mathlib.Core.Bool.{Bool, true, ◌&&◌}
use mathlib.Core.List.Memᴰ
use mathlib.Core.List.{map, Memᴰ}
use mathlib.Core.Option.{some}
use Prim.Native.Nat.{ℕ, ◌+◌, ◌*◌, ◌^◌, ◌≤◌, ◌<◌}
use native.Mathlib.Omega.{arith}
use lib.Dec.{eqb}
use lib.ListN.{length, take, length-map}
use lib.Seq.{length-take-le}
use borrow.Author.Tests.{lt-ltb, ltb-true, eq-eqb, eqb-true}
use Rattle.lists.specs.Lists.{all, range}
use Rattle.lists.proofs.Tests.{and_left, and_right, and_both}
use Rattle.lists.proofs.Places.{place-lt, mem-place, run-get_or}
use Rattle.lists.proofs.Range.{all-mem, mem-all, length-range, map_range, range_all}
use Rattle.signal.specs.Signal.{Node, Const, Input, Var, Signal}
use Rattle.signal.specs.Cell.{sig_cell, node_of, sig_of}
use Rattle.signal.proofs.Cells.{Small, signal-again, cells-again, signals-again}
use Rattle.gates.specs.Gate.{Gate, pins}
use Rattle.gates.specs.Forms.{formed}
use Rattle.network.specs.Net.{Net, GateIs, ValidNode, Valid, Formed}
use Rattle.network.specs.Cells.{Lent, sizes_fit, pins_below, record_fits, records_fit, valid_node, all_valid, is_network, net_of, counts_of, Words}
use Rattle.network.specs.Between.Cells.{Laid, NetCells}
use Rattle.network.specs.Record.{gate_width, first_at, run_at, gate_at, pin_cells}
use Rattle.network.specs.declared.Counts.{Counts}
use Rattle.network.proofs.Records.{Sizes, sizes-give, sizes-from}
use Rattle.network.proofs.RecordCells.{record-in}
use Rattle.network.proofs.PinCells.{pin-mem}
use Rattle.network.proofs.FittingRecords.{Fitting, held_at, run_inside, read_at, held-is, run-mem, gates-laid, pins-laid}
use Rattle.network.proofs.HeldGates.{Holds, Again, held-again}

-- ---- valid nodes

valid-is : (net : Net) (n : Node) → valid_node net.inputs (length net.gates) n ≡ true → ValidNode net n
valid-is net Const t = tt
valid-is net (Input i) t = ltb-true i net.inputs t
valid-is net (Var g) t = ltb-true g (length net.gates) t

is-valid : (net : Net) (n : Node) → ValidNode net n → valid_node net.inputs (length net.gates) n ≡ true
is-valid net Const h = refl
is-valid net (Input i) h = lt-ltb i net.inputs h
is-valid net (Var g) h = lt-ltb g (length net.gates) h

-- the limits leave room in a cell
pub valid-small : (net : Net) (n : Node) → net.inputs ≤ 256 → length net.gates ≤ 1024 → ValidNode net n → Small n
valid-small net Const a b h = tt
valid-small net (Input i) a b h = omega arith
valid-small net (Var g) a b h = omega arith

-- ---- from cells to a network

-- what the tests give
record Tests (l : Lent) : Type 0 where
  sizes : Sizes l.counts (length l.cells) (length l.pins_lent) (length l.outs_lent)
  fits : (g : ℕ) → g < l.counts.gates → record_fits l.cells g ≡ true
  total : pins_below l.cells l.counts.gates ≡ l.counts.pins
  pins_good : (c : ℕ) → Memᴰ c (take l.counts.pins l.pins_lent) → valid_node l.counts.inputs l.counts.gates (node_of c) ≡ true
  outs_good : (c : ℕ) → Memᴰ c (take l.counts.outputs l.outs_lent) → valid_node l.counts.inputs l.counts.gates (node_of c) ≡ true

tests-give : (l : Lent) → is_network l ≡ true → Tests l
unfolding is_network records_fit all_valid
tests-give l e =
    let good : ℕ → Bool = λ c. valid_node l.counts.inputs l.counts.gates (node_of c) in
    let a : sizes_fit l.counts (length l.cells) (length l.pins_lent) (length l.outs_lent) ≡ true = search (and_left, and_right) depth 8 in
    let b : all (record_fits l.cells) (range 0 l.counts.gates) ≡ true = search (and_left, and_right) depth 8 in
    let d : eqb (pins_below l.cells l.counts.gates) l.counts.pins ≡ true = search (and_left, and_right) depth 8 in
    let p : all good (take l.counts.pins l.pins_lent) ≡ true = search (and_left, and_right) depth 8 in
    let o : all good (take l.counts.outputs l.outs_lent) ≡ true = search (and_left, and_right) depth 8 in
    record {
      sizes = sizes-give a;
      fits = λ g h. range_all (record_fits l.cells) 0 l.counts.gates b g (omega arith) (omega arith);
      total = eqb-true (pins_below l.cells l.counts.gates) l.counts.pins d;
      pins_good = all-mem good (take l.counts.pins l.pins_lent) p;
      outs_good = all-mem good (take l.counts.outputs l.outs_lent) o;
    }

module _ (l : Lent) (w : Words l) (t : Tests l) where
  fitting : Fitting l.cells l.pins_lent l.counts.gates l.counts.pins
  fitting =
      record {
        inside = t.sizes.gates-lent;
        pins_inside = t.sizes.pins-lent;
        fit = t.fits;
        total = t.total;
        words = run-get_or 0 (λ x. x < 2 ^ 32) 0 l.counts.pins l.pins_lent w.pin_words;
      }

  gates-counted : length (net_of l).gates ≡ l.counts.gates
  unfolding net_of
  gates-counted =
      length-map (range 0 l.counts.gates) (held_at l.cells l.pins_lent) ∙ length-range 0 l.counts.gates

  pins-are : pin_cells (net_of l).gates ≡ take l.counts.pins l.pins_lent
  unfolding net_of
  pins-are =
      let e : 0 + l.counts.gates ≡ l.counts.gates = omega arith in
      pins-laid fitting l.counts.gates 0 (omega arith)
      ∙ ap (λ (i : ℕ). take i l.pins_lent) (ap (pins_below l.cells) e ∙ t.total)

  pins-counted : length (pin_cells (net_of l).gates) ≡ l.counts.pins
  pins-counted = ap length pins-are ∙ length-take-le l.counts.pins l.pins_lent t.sizes.pins-lent

  outs-counted : length (net_of l).outputs ≡ l.counts.outputs
  unfolding net_of
  outs-counted =
      length-map (take l.counts.outputs l.outs_lent) sig_of ∙ length-take-le l.counts.outputs l.outs_lent t.sizes.outs-lent

  net-laid : Laid (net_of l) l
  unfolding net_of
  net-laid =
      record {
        counted = λ i. record { inputs = l.counts.inputs; gates = sym gates-counted i; pins = sym pins-counted i; outputs = sym outs-counted i };
        gates_laid = ap (λ (k : ℕ). take (k * gate_width) l.cells) gates-counted ∙ gates-laid fitting l.counts.gates 0 (omega arith);
        pins_laid = ap (λ (k : ℕ). take k l.pins_lent) pins-counted ∙ sym pins-are;
        outs_laid = ap (λ (k : ℕ). take k l.outs_lent) outs-counted
            ∙ sym (cells-again (take l.counts.outputs l.outs_lent)
            (run-get_or 0 (λ x. x < 2 ^ 32) 0 l.counts.outputs l.outs_lent w.out_words));
      }

  -- a gate of the network is the one that its record holds
  gate-within : (g : ℕ) (x : Gate) → GateIs (net_of l) g x → g < l.counts.gates
  gate-within g x e = subst (λ (k : ℕ). g < k) gates-counted (place-lt (net_of l).gates g x e)

  gate-is : (g : ℕ) (x : Gate) (e : GateIs (net_of l) g x) → (read_at fitting g (gate-within g x e)).gate ≡ x
  unfolding net_of
  gate-is g x e =
      let q : some (held_at l.cells l.pins_lent (0 + g)) ≡ some x =
      sym (map_range (held_at l.cells l.pins_lent) 0 l.counts.gates g (gate-within g x e)) ∙ e in
      let r : held_at l.cells l.pins_lent (0 + g) ≡ x = cc in
      let z : g ≡ 0 + g = omega arith in
      sym (held-is fitting g (gate-within g x e)) ∙ ap (held_at l.cells l.pins_lent) z ∙ r

  -- a cell that passes is a valid signal of the network
  node-valid : (c : ℕ) (s : Signal) → sig_of c ≡ s → valid_node l.counts.inputs l.counts.gates (node_of c) ≡ true → ValidNode (net_of l) s.node
  unfolding net_of
  node-valid c s e v =
      subst (λ (y : Signal). ValidNode (net_of l) y.node) e
      (valid-is (net_of l) (node_of c) (ap (λ (k : ℕ). valid_node l.counts.inputs k (node_of c)) gates-counted ∙ v))

  net-valid : Valid (net_of l)
  unfolding net_of
  net-valid =
      record {
        pins_valid = λ g x s e m.
            let h : g < l.counts.gates = gate-within g x e in
            let r = read_at fitting g h in
            let q : pins x ≡ map sig_of (run_at l.cells l.pins_lent g) = ap pins (sym (gate-is g x e)) ∙ r.run in
            let u = Memᴰ.of_map sig_of (run_at l.cells l.pins_lent g) (subst (Memᴰ s) q m) in
            node-valid u.0 s u.2 (t.pins_good u.0 (run-mem fitting g h u.0 u.1));
        outs_valid = λ s m.
            let u = Memᴰ.of_map sig_of (take l.counts.outputs l.outs_lent) m in
            node-valid u.0 s u.2 (t.outs_good u.0 u.1);
      }

  net-formed : Formed (net_of l)
  net-formed g x e = ap formed (sym (gate-is g x e)) ∙ (read_at fitting g (gate-within g x e)).good

-- lent cells that pass every test of refusal 20 are the cells of a network with valid signals and pin counts that its forms can have
pub network-laid : (l : Lent) → Words l → is_network l ≡ true → Laid (net_of l) l × Valid (net_of l) × Formed (net_of l)
network-laid l w e = let t : Tests l = tests-give l e in (net-laid l w t, net-valid l w t, net-formed l w t)

-- each of its gates can be read
pub network-readable : (l : Lent) → Words l → is_network l ≡ true → (g : ℕ) → g < l.counts.gates → (x : Gate) × (gate_at l.cells l.pins_lent g ≡ some x)
network-readable l w e g h = let r = read_at (fitting l w (tests-give l e)) g h in (r.gate, r.is)

-- and stands in the cells as they are
pub network-cells : (l : Lent) → Words l → is_network l ≡ true → NetCells l.counts.inputs l.counts.gates l.cells l.pins_lent
network-cells l w e =
    let t : Tests l = tests-give l e in
    let fit = fitting l w t in
    record {
      few_inputs = t.sizes.few.inputs;
      few_gates = t.sizes.few.gates;
      each = λ g h.
          let r = read_at fit g h in
          let first : first_at l.cells g ≡ pins_below l.cells g = r.first in
          record {
            gate = r.gate;
            has = record { cells = record-in h t.sizes.gates-lent; within = omega (arith, run_inside fit g h, t.sizes.pins-lent) };
            is = r.is;
            form = sym r.number;
            start = sym r.starts;
            run = r.run;
            count = r.count;
            good = r.good;
            words = λ c m. fit.words c (run-mem fit g h c m);
            valid = λ c m. t.pins_good c (run-mem fit g h c m);
          };
    }

-- and so do its outputs
pub network-outs : (l : Lent) → is_network l ≡ true → (c : ℕ) → Memᴰ c (take l.counts.outputs l.outs_lent)
    → valid_node l.counts.inputs l.counts.gates (node_of c) ≡ true
network-outs l e = (tests-give l e).outs_good

-- its sizes are within the limits and within its slices
pub network-sizes : (l : Lent) → is_network l ≡ true → Sizes l.counts (length l.cells) (length l.pins_lent) (length l.outs_lent)
network-sizes l e = (tests-give l e).sizes

-- ---- from a network to cells

module _ (net : Net) (l : Lent) (c : Laid net l) (v : Valid net) (f : Formed net)
    (z : Sizes (counts_of net) (length l.cells) (length l.pins_lent) (length l.outs_lent)) where
  node-small : (n : Node) → ValidNode net n → Small n
  node-small n h = valid-small net n z.few.inputs z.few.gates h

  pin-valid : (x : Gate) (s : Signal) → Memᴰ x net.gates → Memᴰ s (pins x) → ValidNode net s.node
  pin-valid x s m u = let t = mem-place net.gates x m in v.pins_valid t.0 x s t.1 u

  holds : Holds l.cells l.pins_lent 0 net.gates
  holds =
      record {
        cells_held = c.gates_laid;
        pins_held = c.pins_laid;
        cells_inside = omega (arith, z.gates-lent);
        pins_within = omega (arith, z.pins-lent);
        all_formed = λ x m. let t = mem-place net.gates x m in f t.0 x t.1;
        all_small = λ x s m u. node-small s.node (pin-valid x s m u);
      }

  -- the cell of a valid signal passes
  cell-passes : (n : ℕ) (s : Signal) → sig_cell s ≡ n → ValidNode net s.node → valid_node net.inputs (length net.gates) (node_of n) ≡ true
  cell-passes n s e h =
      let q : node_of n ≡ s.node = ap node_of (sym e) ∙ ap (λ (y : Signal). y.node) (signal-again s (node-small s.node h)) in
      ap (valid_node net.inputs (length net.gates)) q ∙ is-valid net s.node h

  pins-pass : all_valid net.inputs (length net.gates) (pin_cells net.gates) ≡ true
  unfolding all_valid
  pins-pass =
      mem-all (λ n. valid_node net.inputs (length net.gates) (node_of n)) (pin_cells net.gates)
      (λ n m. let r = pin-mem net.gates n m in cell-passes n r.input r.cell (pin-valid r.gate r.input r.among r.pin))

  outs-pass : all_valid net.inputs (length net.gates) (map sig_cell net.outputs) ≡ true
  unfolding all_valid
  outs-pass =
      mem-all (λ n. valid_node net.inputs (length net.gates) (node_of n)) (map sig_cell net.outputs)
      (λ n m. let r = Memᴰ.of_map sig_cell net.outputs m in cell-passes n r.0 r.2 (v.outs_valid r.0 r.1))

  records-pass : records_fit l.cells (length net.gates) (length (pin_cells net.gates)) ≡ true
  unfolding records_fit
  records-pass =
      let r : Again l.cells l.pins_lent 0 net.gates = held-again net.gates holds in
      let e : length net.gates ≡ 0 + length net.gates = omega arith in
      let q : pins_below l.cells (length net.gates) ≡ pins_below l.cells (0 + length net.gates) = ap (pins_below l.cells) e in
      and_both (all (record_fits l.cells) (range 0 (length net.gates)))
      (eqb (pins_below l.cells (length net.gates)) (length (pin_cells net.gates)))
      r.fit_again
      (eq-eqb (pins_below l.cells (length net.gates)) (length (pin_cells net.gates)) (q ∙ r.ends ∙ omega arith))

  -- the tests of `is_network` over these counts
  abbrev passes : Counts → Bool
  passes n =
      sizes_fit n (length l.cells) (length l.pins_lent) (length l.outs_lent)
      && records_fit l.cells n.gates n.pins
      && all_valid n.inputs n.gates (take n.pins l.pins_lent)
      && all_valid n.inputs n.gates (take n.outputs l.outs_lent)

  net-passes : is_network l ≡ true
  unfolding is_network
  net-passes = ap passes c.counted ∙ simp (sizes-from z, records-pass, c.pins_laid, pins-pass, c.outs_laid, outs-pass)

  net-again : net_of l ≡ net
  unfolding net_of
  net-again =
      let r : Again l.cells l.pins_lent 0 net.gates = held-again net.gates holds in
      let gs : map (held_at l.cells l.pins_lent) (range 0 l.counts.gates) ≡ net.gates =
      ap (λ (n : Counts). map (held_at l.cells l.pins_lent) (range 0 n.gates)) c.counted ∙ r.gates_again in
      let os : map sig_of (take l.counts.outputs l.outs_lent) ≡ net.outputs =
      ap (λ (n : Counts). map sig_of (take n.outputs l.outs_lent)) c.counted
      ∙ ap (map sig_of) c.outs_laid
      ∙ signals-again net.outputs (λ s m. node-small s.node (v.outs_valid s m)) in
      λ i. record { inputs = (c.counted i).inputs; gates = gs i; outputs = os i }

-- and the cells of such a network, within the sizes, pass every test and hold that network: so decoding gives back what was encoded
pub laid-network : (net : Net) (l : Lent) → Laid net l → Valid net → Formed net
    → Sizes (counts_of net) (length l.cells) (length l.pins_lent) (length l.outs_lent) → (is_network l ≡ true) × (net_of l ≡ net)
laid-network net l c v f z = (net-passes net l c v f z, net-again net l c v f z)
