-- The covers' gates and the sort: refusal 14, and the network read. Assumes nothing.
use Rattle.std.specs.Prelude.{Result, Ok, Err, Some, None}
use mathlib.Core.Path.{◌≡◌, refl, sym, ap, ◌∙◌, subst}
use mathlib.Core.Bool.{Bool, true, false, true≢false, false≢true}
use mathlib.Core.List.{List, map}
use mathlib.Core.Option.{Option, none, some}
use Prim.Native.Nat.{ℕ, ◌*◌, ◌≤◌}
use native.Mathlib.Omega.{arith}
use lib.Dec.{leb, ltb}
use lib.ListN.{length, take, length-map}
use lib.Seq.{length-take-le}
use Rattle.lists.specs.Lists.{Bytes, any, overwrite, range}
use Rattle.lists.proofs.Range.{length-range}
use Rattle.refusals.specs.Order.{refuse_if, fine}
use Rattle.refusals.specs.declared.Refusal.TheVariants as refusal
use Rattle.refusals.proofs.Order.{or_else-right}
use Rattle.signal.specs.Cell.{sig_cell, sig_of}
use Rattle.network.specs.Net.{Net}
use Rattle.network.specs.Sizes.{max_gates}
use Rattle.network.specs.Cells.{lent, net_of, counts_of}
use Rattle.network.specs.Between.Cells.{Laid}
use Rattle.network.specs.Record.{gate_width, gate_cells, pin_cells}
use Rattle.network.specs.declared.Counts.{Counts}
use Rattle.network.proofs.Laying.{laid-overwrite}
use Rattle.sort_order.specs.Sorted.{sorted, Preserved}
use Rattle.sort.specs.Between.Into.{SortOutcome, sort_outcome, sort_into}
use Rattle.sort_order.specs.Between.Sortable.{Sortable}
use Rattle.sort_order.proofs.Summary.{sorted-keeps}
use Rattle.blif_text.specs.Statements.{parsed, first_bad}
use Rattle.blif_text.specs.Lines.{max_text}
use Rattle.blif_text.specs.Decls.{Def, decls_of}
use Rattle.blif_text.specs.Between.Blocks.{defs_at}
use Rattle.blif_reading.specs.Read.{decl_fault, read_fault, answer, signal_of, built_from, read_text}
use Rattle.blif_reading.specs.Between.Working.{GatesIn, placed, built_gates, WorkRoom}
use Rattle.blif_read_gates.specs.Between.Covers.{Buildable, BuiltBy}
use Rattle.blif_read_gates.specs.declared.Built.{Built}
use Rattle.blif_read.specs.Between.Stages.{Holds, Placing}
use Rattle.blif_reading.proofs.BuiltNet.{BuiltIn}
use Rattle.blif_reading.proofs.Passed.{passed}
use Rattle.blif_reading.proofs.SizeLimits.{sizes-within}
use Rattle.blif_reading.proofs.BuiltNet.{built-net, built-sortable}
use Rattle.blif_read.proofs.Refusing.{sorted-or-loop}
use Rattle.refusals.specs.declared.Refusal.{Refusal}
use Rattle.std.specs.declared.option.Option as std-option

-- ---- no refusal took the text

decls-none : (text : Bytes) → read_fault text ≡ fine → decl_fault (decls_of text) ≡ fine
unfolding read_fault
decls-none text e =
    or_else-right (first_bad (parsed text)) (decl_fault (decls_of text))
    (or_else-right (refuse_if (any (leb 128) text) refusal.HighByte) _ (or_else-right (refuse_if (ltb max_text (length text)) refusal.TextTooLong) _ e))

-- ---- what the sort answers

-- the gate count of an answer
gates_in : Result Counts Refusal → ℕ
gates_in (Ok n) = n.gates
gates_in (Err k) = 0

-- the output count of an answer
outputs_in : Result Counts Refusal → ℕ
outputs_in (Ok n) = n.outputs
outputs_in (Err k) = 0

-- whether an answer is a loop
is_loop : std-option.Option ℕ → Bool
is_loop (Some k) = false
is_loop None = true

-- the pins of an order
order_pins : std-option.Option ℕ → ℕ
order_pins (Some k) = k
order_pins None = 0

-- none at a loop
loop-answer : (m : Option Net) (gs ps os : List ℕ) → (sort_into m gs ps os).answer ≡ None → answer fine m ≡ Err refusal.CombinationalLoop
unfolding sort_into answer is_loop
loop-answer none gs ps os e = refl
loop-answer (some x) gs ps os e = absurd (false≢true (ap is_loop e))

-- a network and its pin count otherwise
order-some : (m : Option Net) (gs ps os : List ℕ) (k : ℕ) → (sort_into m gs ps os).answer ≡ Some k
    → (x : Net) × (m ≡ some x) × (k ≡ length (pin_cells x.gates))
unfolding sort_into is_loop order_pins
order-some none gs ps os k e = absurd (true≢false (ap is_loop e))
order-some (some x) gs ps os k e = (x, refl, sym (ap order_pins e))

-- which is what is read
some-answer : {m : Option Net} {x : Net} → m ≡ some x → answer fine m ≡ Ok x
unfolding answer
some-answer e = ap (answer fine) e

-- ---- building

module _ {text tokens blocks : List ℕ} {i g o : ℕ} {gates pins_in os : List ℕ} {used : ℕ} (c : Placing text tokens blocks i g o gates pins_in os used)
    (none : read_fault text ≡ fine) where
  -- what building asks
  pub buildable : WorkRoom gates pins_in → Buildable (defs_at text tokens (length tokens) blocks g) gates pins_in used
  buildable w =
      let p = passed (decls_of text) (decls-none text none) in
      let s = sizes-within (decls_of text) p.within in
      subst (λ (ds : List Def). Buildable ds gates pins_in used) (sym c.blocks-are)
      (record {
        room = w;
        few_gates = s.gates;
        few_pins = s.pins;
        good = p.covered;
        start = c.used-is;
        first = (signal_of (decls_of text), c.gates-in);
      })

  module _ {gates' pins_in' : List ℕ} {b : Built} (h : BuiltBy (defs_at text tokens (length tokens) blocks g) gates pins_in used gates' pins_in' b)
      (gr : (max_gates * gate_width) ≤ length gates') (pr : 16384 ≤ length pins_in') (or : 256 ≤ length os) where
    -- the counts with which the sort is called
    abbrev counts : Counts
    counts = record { inputs = i; gates = b.gates; pins = b.pins; outputs = o }

    -- the cells hold what is built
    cells-built : BuiltIn (decls_of text) counts gates' pins_in' os b.pins
    cells-built =
        let signal = signal_of (decls_of text) in
        record {
          held =
              subst (λ (ds : List Def). GatesIn gates' pins_in' b.pins (built_gates signal ds)) c.blocks-are
              (h.gates-in signal (subst (λ (ds : List Def). GatesIn gates pins_in used (map (placed signal) ds)) (sym c.blocks-are) c.gates-in));
          pins_room = omega (arith, h.few_pins, pr);
          gates_room = omega (arith, h.few_gates, gr);
          inputs_counted = c.inputs;
          gates_counted = h.counted signal ∙ ap (λ (ds : List Def). length (built_gates signal ds)) c.blocks-are;
          outputs_counted = c.outputs;
          outs_held = c.outs-are;
        }

    -- the outputs have room
    outs-room : o ≤ length os
    outs-room = omega (arith, c.outputs, (sizes-within (decls_of text) (passed (decls_of text) (decls-none text none)).within).outputs, or)

    -- what the sort asks
    pub sortable : (new_gates new_pins : ℕ) → (max_gates * gate_width) ≤ new_gates → 16384 ≤ new_pins → Sortable (lent counts gates' pins_in' os) new_gates new_pins
    sortable new_gates new_pins = built-sortable (decls-none text none) cells-built

    module _ (gs ps : List ℕ) {gs' ps' os' : List ℕ} {r : std-option.Option ℕ} (ng : (max_gates * gate_width) ≤ length gs) (np : 16384 ≤ length ps)
        (q : sort_outcome r gs' ps' os' ≡ sort_into (sorted (net_of (lent counts gates' pins_in' os))) gs ps os) where
      is-built : net_of (lent counts gates' pins_in' os) ≡ built_from (decls_of text)
      is-built = built-net (decls-none text none) cells-built

      sorts : sort_outcome r gs' ps' os' ≡ sort_into (sorted (built_from (decls_of text))) gs ps os
      sorts = q ∙ ap (λ (x : Net). sort_into (sorted x) gs ps os) is-built

      -- "14 at a combinational loop among the gates as built"
      pub loop-refused : r ≡ None → read_text text ≡ Err refusal.CombinationalLoop
      loop-refused e =
          sorted-or-loop text none
          ∙ loop-answer (sorted (built_from (decls_of text))) gs ps os (sym (ap (λ (x : SortOutcome (std-option.Option ℕ)). x.answer) sorts) ∙ e)

      -- the counts are the sorted network's
      counts-are : (new : Net) (k : ℕ) → Preserved (net_of (lent counts gates' pins_in' os)) new → k ≡ length (pin_cells new.gates)
          → ◌≡◌ {A = Result Counts Refusal} (Ok (record { inputs = i; gates = b.gates; pins = k; outputs = o })) (Ok (counts_of new))
      unfolding net_of
      counts-are new k kept e =
          let ei : i ≡ new.inputs = sym kept.inputs in
          let eg : b.gates ≡ length new.gates = sym (kept.gates ∙ length-map (range 0 b.gates) _ ∙ length-range 0 b.gates) in
          let eo : o ≡ length new.outputs = sym (kept.outputs ∙ length-map (take o os) sig_of ∙ length-take-le o os (outs-room)) in
          λ j. Ok (record { inputs = ei j; gates = eg j; pins = e j; outputs = eo j })

      -- the network read
      pub order-read : (k : ℕ) → r ≡ Some k → Holds (read_text text) (Ok (record { inputs = i; gates = b.gates; pins = k; outputs = o })) gs' ps' os'
      unfolding sort_into gates_in outputs_in
      order-read k e =
          let f = order-some (sorted (built_from (decls_of text))) gs ps os k (sym (ap (λ (x : SortOutcome (std-option.Option ℕ)). x.answer) sorts) ∙ e) in
          let new = f.0 in
          let s = sorts ∙ ap (λ (m : Option Net). sort_into m gs ps os) f.1 in
          let room = sortable (length gs) (length ps) ng np in
          let kept = sorted-keeps (net_of (lent counts gates' pins_in' os)) new room.valid (ap sorted is-built ∙ f.1) in
          let hg : length new.gates * gate_width ≤ length gs = omega (arith, ap (λ (a : Result Counts Refusal). gates_in a) (counts-are new k kept f.2), h.few_gates, ng) in
          let hp : length (pin_cells new.gates) ≤ length ps = omega (arith, kept.pins, room.pin_room) in
          let ho : length new.outputs ≤ length os = omega (arith, ap (λ (a : Result Counts Refusal). outputs_in a) (counts-are new k kept f.2), outs-room) in
          let pg : overwrite (gate_cells 0 new.gates) gs ≡ gs' = sym (ap (λ (x : SortOutcome (std-option.Option ℕ)). x.gates) s) in
          let pp : overwrite (pin_cells new.gates) ps ≡ ps' = sym (ap (λ (x : SortOutcome (std-option.Option ℕ)). x.pins) s) in
          let po : overwrite (map sig_cell new.outputs) os ≡ os' = sym (ap (λ (x : SortOutcome (std-option.Option ℕ)). x.outs) s) in
          let laid : Laid new (lent (counts_of new) gs' ps' os') =
          subst (Laid new) (λ j. lent (counts_of new) (pg j) (pp j) (po j)) (laid-overwrite new gs ps os hg hp ho) in
          subst (λ (x : Result Net Refusal). Holds x (Ok (record { inputs = i; gates = b.gates; pins = k; outputs = o })) gs' ps' os')
          (sym (sorted-or-loop text none ∙ some-answer f.1))
          (counts-are new k kept f.2, laid)
