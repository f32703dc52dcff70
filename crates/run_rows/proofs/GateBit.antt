-- What a combinational gate makes of the bits in the table, by its truth table or pin after pin. Assumes nothing.
use mathlib.Core.Path.{◌≡◌, sym, ap, ap₂, ◌∙◌}
use mathlib.Core.Bool.{Bool, true, false}
use mathlib.Core.List.{List}
use Prim.Native.Nat.{ℕ, ◌+◌, ◌-◌, ◌*◌, ◌≤◌, ◌<◌}
use native.Mathlib.Omega.{arith}
use lib.Dec.{eqb}
use lib.ListN.{length, get_or, take, drop, length-map}
use lib.Seq.{ext_get_or, get_or-take, get_or-drop}
use Rattle.lists.proofs.Places.{length_run}
use Rattle.lists.proofs.Counting.{get_or-table}
use Rattle.lists.proofs.Tests.{by_order}
use Rattle.signal.specs.Cell.{sig_of}
use Rattle.gates.specs.Gate.{Form, And2, Xor2, And3, Xor3, Maj3, Mux3, AndN, OrN, NandN, NorN, XorN, XnorN, Buf, Gate, Comb, Dff, pins}
use Rattle.gates.specs.Forms.{form_cell, formed}
use Rattle.gates.specs.Between.Forms.{kind_of, kind_of_form}
use Rattle.gates.specs.declared.Kind.{Kind}
use Rattle.gates.proofs.Forms.{number-kind}
use Rattle.network.specs.Cells.{or_buf}
use Rattle.network.specs.Record.{form_at, count_at, run_at, gate_at}
use Rattle.gate_bits.specs.Between.Slots.{bit_at, pin_bits, run_slots, slot_or, bits_in, SixSlots}
use Rattle.gate_bits.specs.Between.Tables.{truth_bit, form_pad, kind_table, kind_pad, wide_bit, padded}
use Rattle.gate_bits.proofs.FormTables.{table-form, kind-table, kind-pad, wide_form}
use Rattle.gate_bits.proofs.SlotBits.{slots-bits, slots-low, length-slots}
use Rattle.run_rows.specs.Between.Steps.{comb_bit}
use Rattle.run_rows.specs.Between.Asks.{BitReady}

pad-few : (f : Form) → form_pad f ≤ 1
pad-few And2 = omega arith
pad-few Xor2 = omega arith
pad-few And3 = omega arith
pad-few Xor3 = omega arith
pad-few Maj3 = omega arith
pad-few Mux3 = omega arith
pad-few AndN = omega arith
pad-few OrN = omega arith
pad-few NandN = omega arith
pad-few NorN = omega arith
pad-few XorN = omega arith
pad-few XnorN = omega arith
pad-few Buf = omega arith

module _ {cells ps : List ℕ} {g : ℕ} {slots tables : List ℕ} {bits : List Bool} (r : BitReady cells ps g slots tables bits) where
  abbrev run : List ℕ
  run = run_at cells ps g

  abbrev gate : Gate
  gate = r.gate.gate

  abbrev pad : ℕ
  pad = kind_pad (kind_of (form_at cells g))

  run_long : length run ≡ count_at cells g
  run_long = sym (length-map run sig_of) ∙ ap length (sym r.gate.run) ∙ r.gate.count

  held-gate : or_buf (gate_at cells ps g) ≡ gate
  held-gate = ap or_buf r.gate.is

  -- the pad is a constant's slot
  pad-one : pad ≤ 1
  pad-one = by gate r.gate.form
    where
      by : (x : Gate) → form_at cells g ≡ form_cell x → pad ≤ 1
      by (Dff ff) n = absurd (r.comb n)
      by (Comb f qs) n = rw (n, number-kind f, kind-pad f) (pad-few f)

  -- its six slots
  six-are : {at : ℕ} → at ≡ g * 6 → take (at + 6 - at) (drop at slots) ≡ run_slots run pad 6
  six-are {at} e =
      let w : at + 6 - at ≡ 6 = omega arith in
      ap (λ (k : ℕ). take k (drop at slots)) w ∙ ext_get_or 0 (take 6 (drop at slots)) (run_slots run pad 6) (six-long ∙ sym (length-slots run pad 6)) (λ i l.
      let below : i < 6 = omega (arith, six-long) in
      get_or-take 6 (drop at slots) i 0 below
      ∙ get_or-drop at slots i 0
      ∙ ap (λ (k : ℕ). get_or slots (k + i) 0) e
      ∙ r.laid.slot i below
      ∙ sym (get_or-table (slot_or run pad) 6 i below))
    where
      six-long : length (take 6 (drop at slots)) ≡ 6
      six-long = length_run at 6 slots (omega (arith, r.slot))

  pub six-slots : {at : ℕ} → at ≡ g * 6 → SixSlots (take (at + 6 - at) (drop at slots)) bits
  six-slots e =
      rw (six-are e)
      (record { six = length-slots run pad 6; within = λ i l. rw r.size (slots-low run pad 6 i (omega (arith, pad-one)) l) })

  -- ---- by the gate

  -- the constant that stands for an input which is not there
  pad-bit : get_or bits pad false ≡ eqb pad 1
  pad-bit = by_order 1 pad (λ l. let e : pad ≡ 1 = omega (arith, pad-one) in rw e r.const.inverse) (λ l. let e : pad ≡ 0 = omega arith in rw e r.const.plain)

  -- what a gate of up to six inputs makes
  pub table_is : {at : ℕ} {b : Bool} → count_at cells g ≤ 6 → at ≡ g * 6
      → b ≡ truth_bit (get_or tables g 0) (bits_in bits (take (at + 6 - at) (drop at slots))) → b ≡ comb_bit (or_buf (gate_at cells ps g)) (pin_bits bits run)
  table_is few e is =
      is
      ∙ ap₂ truth_bit r.laid.table (ap (bits_in bits) (six-are e) ∙ slots-bits bits run pad 6 ∙ ap (λ (d : Bool). padded 6 d (pin_bits bits run)) pad-bit)
      ∙ by gate r.gate.form r.gate.good (ap length r.gate.run ∙ length-map run sig_of)
      ∙ ap (λ (x : Gate). comb_bit x (pin_bits bits run)) (sym held-gate)
    where
      by : (x : Gate) → form_at cells g ≡ form_cell x → formed x ≡ true → length (pins x) ≡ length run
          → truth_bit (kind_table (kind_of (form_at cells g))) (padded 6 (eqb pad 1) (pin_bits bits run)) ≡ comb_bit x (pin_bits bits run)
      by (Dff ff) n good l = absurd (r.comb n)
      by (Comb f qs) n good l =
          let long : length (pin_bits bits run) ≡ length qs = length-map run (bit_at bits) ∙ sym l in
          let k : kind_of (form_at cells g) ≡ kind_of_form f = ap kind_of n ∙ number-kind f in
          ap₂ (λ (t : ℕ) (p : ℕ). truth_bit t (padded 6 (eqb p 1) (pin_bits bits run))) (ap kind_table k ∙ kind-table f) (ap kind_pad k ∙ kind-pad f)
          ∙ table-form f (pin_bits bits run) (omega (arith, long, l, run_long)) (rw long good)

  -- and of more
  pub wide_is : {b : Bool} {k : Kind} {form : ℕ} {part : List ℕ} → 6 < count_at cells g → form ≡ form_at cells g → k ≡ kind_of form → part ≡ run
      → b ≡ wide_bit k (pin_bits bits part) → b ≡ comb_bit (or_buf (gate_at cells ps g)) (pin_bits bits run)
  wide_is many e q p is =
      is
      ∙ ap₂ (λ (k : Kind) (part : List ℕ). wide_bit k (pin_bits bits part)) (q ∙ ap kind_of e) p
      ∙ by gate r.gate.form r.gate.good (ap length r.gate.run ∙ length-map run sig_of)
      ∙ ap (λ (x : Gate). comb_bit x (pin_bits bits run)) (sym held-gate)
    where
      by : (x : Gate) → form_at cells g ≡ form_cell x → formed x ≡ true → length (pins x) ≡ length run
          → wide_bit (kind_of (form_at cells g)) (pin_bits bits run) ≡ comb_bit x (pin_bits bits run)
      by (Dff ff) n good l = absurd (r.comb n)
      by (Comb f qs) n good l =
          let long : length (pin_bits bits run) ≡ length qs = length-map run (bit_at bits) ∙ sym l in
          ap (λ (m : ℕ). wide_bit (kind_of m) (pin_bits bits run)) n
          ∙ ap (λ (k : Kind). wide_bit k (pin_bits bits run)) (number-kind f)
          ∙ wide_form f (pin_bits bits run) (omega (arith, long, l, run_long)) (rw long good)
