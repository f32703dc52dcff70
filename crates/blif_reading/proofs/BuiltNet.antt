-- The gates as built, in working cells, are a network that the sort takes. Assumes nothing.
use Rattle.refusals.specs.Order.{fine}
use mathlib.Core.Path.{◌≡◌, refl, sym, ap, ◌∙◌, subst}
use mathlib.Core.Bool.{true}
use mathlib.Core.List.{List, map, Memᴰ}
use mathlib.Core.Option.{some}
use Prim.Native.Nat.{ℕ, ◌+◌, ◌*◌, ◌≤◌}
use native.Mathlib.Omega.{arith}
use lib.ListN.{length, get_elem?, take, length-map, length-take}
use Rattle.lists.specs.Lists.{range}
use Rattle.lists.proofs.Every.{every-place}
use Rattle.lists.proofs.Places.{place-lt, lt-place, ext-place, map-map}
use Rattle.lists.proofs.Range.{length-range, map_range}
use Rattle.signal.specs.Signal.{Node, Signal}
use Rattle.signal.specs.Cell.{sig_cell, sig_of}
use Rattle.signal.proofs.Cells.{Small}
use Rattle.signal.proofs.Cells.{signals-again}
use Rattle.gates.specs.Gate.{Gate, pins}
use Rattle.gates.specs.Forms.{formed, gate_from}
use Rattle.gates.proofs.Forms.{gate-again}
use Rattle.network.specs.Net.{ValidNode, Valid}
use Rattle.network.specs.Cells.{lent, or_buf, net_of}
use Rattle.network.specs.Sizes.{max_gates, max_pins}
use Rattle.network.specs.Record.{gate_width, gate_at, pin_cells}
use Rattle.network.specs.declared.Counts.{Counts}
use Rattle.network.proofs.Lent.{valid-small}
use Rattle.sort_order.specs.Between.Sortable.{Sortable}
use Rattle.blif_text.specs.Decls.{Decl, ins, outs, defs}
use Rattle.blif_reading.specs.Read.{decl_fault, signal_of, built_from}
use Rattle.network.proofs.RecordCells.{record-runs, gate-there}
use Rattle.blif_reading.proofs.WorkingLaws.{gate-parts, gate-run}
use Rattle.blif_reading.specs.Between.Working.{GateIn, GatesIn, built_gates}
use Rattle.blif_reading.proofs.SizeLimits.{Sized, sizes-within}
use Rattle.blif_reading.proofs.BuiltCounts.{built-gates, built-pins}
use Rattle.blif_reading.proofs.BuiltEach.{built-formed}
use Rattle.blif_reading.proofs.Passed.{passed, passed-valid}

-- the gates as built, with runs among the first `used` pins, and the outputs stand in the cells, of which these counts are in use
pub record BuiltIn (ds : List Decl) (c : Counts) (gates pins_in outs_in : List ℕ) (used : ℕ) : Type 0 where
  pub held : GatesIn gates pins_in used (built_gates (signal_of ds) (defs ds))
  pub pins_room : used ≤ length pins_in
  pub gates_room : c.gates * gate_width ≤ length gates
  pub inputs_counted : c.inputs ≡ length (ins ds)
  pub gates_counted : c.gates ≡ length (built_gates (signal_of ds) (defs ds))
  pub outputs_counted : c.outputs ≡ length (outs ds)
  pub outs_held : take c.outputs outs_in ≡ map (λ x. sig_cell (signal_of ds x)) (outs ds)

-- ---- one gate

-- a gate whose record and run stand in the cells is read back
gate-held : (gates pins_in : List ℕ) (used h : ℕ) (x : Gate) → GateIn gates pins_in used h x → used ≤ length pins_in → formed x ≡ true
    → ((s : Signal) → Memᴰ s (pins x) → Small s.node) → gate_at gates pins_in h ≡ some x
gate-held gates pins_in used h x c u f s =
    let p = gate-parts c in
    gate-there gates pins_in h (record-runs c.at x c.inside c.is (omega (arith, c.within)))
    ∙ (λ i. gate_from (p.form i) (p.start i) ((ap (map sig_of) (gate-run c) ∙ signals-again (pins x) s) i))
    ∙ gate-again x f

-- ---- all of them

-- the gates in the cells are those of the network
pub gates-are : (ds : List Decl) → built_gates (signal_of ds) (defs ds) ≡ (built_from ds).gates
unfolding built_from
gates-are ds = refl

module _ {ds : List Decl} {c : Counts} {gates pins_in outs_in : List ℕ} {used : ℕ} (fault : decl_fault ds ≡ fine) (b : BuiltIn ds c gates pins_in outs_in used) where
  -- the gates in the cells
  abbrev built : List Gate
  built = built_gates (signal_of ds) (defs ds)

  sizes : Sized ds
  sizes = sizes-within ds (passed ds fault).within

  valid : Valid (built_from ds)
  valid = passed-valid ds (passed ds fault)

  few-gates : length built ≤ max_gates
  few-gates = omega (arith, built-gates (signal_of ds) (defs ds), sizes.gates)

  node-small : (n : Node) → ValidNode (built_from ds) n → Small n
  unfolding built_from
  node-small n h = valid-small (built_from ds) n sizes.inputs (omega (arith, few-gates, ap length (gates-are ds))) h

  -- each gate is read back
  gate-back : (h : ℕ) (x : Gate) → get_elem? built h ≡ some x → gate_at gates pins_in h ≡ some x
  gate-back h x e =
      gate-held gates pins_in used h x (b.held h x e)
      b.pins_room
      (every-place (built-formed (signal_of ds) (defs ds)) h x e)
      (λ s m. node-small s.node (valid.pins_valid h x s (ap (λ (l : List Gate). get_elem? l h) (sym (gates-are ds)) ∙ e) m))

  gates-back : map (λ (g : ℕ). or_buf (gate_at gates pins_in g)) (range 0 c.gates) ≡ built
  gates-back =
      let held : ℕ → Gate = λ g. or_buf (gate_at gates pins_in g) in
      sym
      (ext-place built (map held (range 0 c.gates))
      (sym (length-map (range 0 c.gates) held ∙ length-range 0 c.gates ∙ b.gates_counted))
      (λ i x e.
      let z : 0 + i ≡ i = omega arith in
      map_range held 0 c.gates i (omega (arith, place-lt built i x e, b.gates_counted)) ∙ ap (λ (g : ℕ). some (held g)) z ∙ ap (λ o. some (or_buf o)) (gate-back i x e)))

  outs_back : map sig_of (take c.outputs outs_in) ≡ map (signal_of ds) (outs ds)
  unfolding built_from
  outs_back =
      ap (map sig_of) (b.outs_held ∙ sym (map-map sig_cell (signal_of ds) (outs ds)))
      ∙ signals-again (map (signal_of ds) (outs ds)) (λ s m. node-small s.node (valid.outs_valid s m))

  -- the cells hold the network as built
  pub built-net : net_of (lent c gates pins_in outs_in) ≡ built_from ds
  unfolding net_of built_from
  built-net = λ i. record { inputs = b.inputs_counted i; gates = (gates-back ∙ gates-are ds) i; outputs = outs_back i }

  built-laid : length (pin_cells (net_of (lent c gates pins_in outs_in)).gates) ≤ max_pins
  unfolding net_of
  built-laid = omega (arith, ap (λ (l : List Gate). length (pin_cells l)) gates-back, built-pins (signal_of ds) (defs ds), sizes.pins)

  -- which can be sorted into cells enough for any network
  pub built-sortable : {new_gates new_pins : ℕ} → max_gates * gate_width ≤ new_gates → max_pins ≤ new_pins → Sortable (lent c gates pins_in outs_in) new_gates new_pins
  built-sortable g p =
      record {
        few = omega (arith, few-gates, b.gates_counted);
        readable = λ h l. let t = lt-place built h (omega (arith, l, b.gates_counted)) in (t.0, gate-back h t.0 t.1);
        valid = subst Valid (sym built-net) valid;
        outputs = omega (arith, length-take c.outputs outs_in, ap length b.outs_held, length-map (outs ds) (λ x. sig_cell (signal_of ds x)), b.outputs_counted);
        few_pins = built-laid;
        room = omega (arith, few-gates, b.gates_counted, g);
        pin_room = omega (arith, built-laid, p);
      }
