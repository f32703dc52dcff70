-- What is laid out before the clocks, and what the functions of a clock ask of it. Assumes nothing.
use mathlib.Core.Path.{◌≡◌, sym, ap, ap₂, ◌∙◌}
use mathlib.Core.Bool.{Bool, true, false, cond}
use mathlib.Core.List.{List, ◌++◌}
use Prim.Native.Nat.{ℕ, ◌+◌, ◌*◌, ◌≤◌, ◌<◌}
use native.Mathlib.Omega.{arith}
use lib.ListN.{length, get_or, take, replicate, length-append, length-replicate, get_or-map}
use lib.Seq.{length-take-le, take_at, get_or-take}
use Rattle.lists.specs.Lists.{optional}
use Rattle.lists.proofs.Range.{all-mem}
use Rattle.lists.proofs.Places.{place-mem, place-get_or}
use Rattle.signal.specs.Signal.{Signal}
use Rattle.signal.specs.Cell.{node_of, sig_of}
use Rattle.gates.specs.Gate.{Gate, Comb, Dff, pins, is_plain}
use Rattle.gates.specs.Forms.{flop_number, form_cell}
use Rattle.gates.specs.Between.Forms.{kind_of}
use Rattle.gates.proofs.Forms.{comb-other}
use Rattle.gates.proofs.Plain.{plain-flop}
use Rattle.network.specs.Net.{Net, GateIs}
use Rattle.network.specs.Clock.{sig_bit, next_bit}
use Rattle.network.specs.Settle.{next_of}
use Rattle.network.specs.Cells.{cell_net}
use Rattle.network.specs.Record.{form_at, run_at}
use Rattle.network.proofs.GateRead.{cell-gate}
use Rattle.gate_bits.specs.Between.Slots.{slot_count}
use Rattle.gate_bits.specs.Between.Tables.{kind_pad}
use Rattle.gate_bits.proofs.SlotBits.{slot_at}
use Rattle.run_rows.specs.Between.Steps.{LaidOut, IsFlop, Flops, Shown, data_bit}
use Rattle.run_rows.specs.Between.Asks.{Runnable, TakeRoom, PutRoom}
use Rattle.run_rows.proofs.PlainFlops.{flop-three}
use Rattle.run_rows.proofs.Showing.{known-bit, valid-known}

-- the network with what is laid out: a table for each gate among the tables, the first k cells of the list
pub record Prepared (inputs n : ℕ) (cells ps outs slots tables flops : List ℕ) (k : ℕ) : Type 0 where
  -- the network
  pub runs : Runnable inputs n cells ps outs
  -- slots for all
  pub slots_long : n * 6 ≤ length slots
  -- tables for all
  pub tables_long : n ≤ length tables
  -- each gate is laid out
  pub laid : LaidOut cells ps n slots (take n tables)
  -- the list has the cells
  pub flops_long : k ≤ length flops
  -- of the flip-flops
  pub listed : Flops cells n flops k

module _ {inputs n : ℕ} {cells ps outs slots tables flops : List ℕ} {k : ℕ} (p : Prepared inputs n cells ps outs slots tables flops k) where
  abbrev net : Net
  net = cell_net inputs cells ps n outs

  pub taken-tables : length (take n tables) ≡ n
  taken-tables = length-take-le n tables p.tables_long

  -- the part of the list that is in use
  pub taken-flops : Flops cells n (take k flops) (length (take k flops))
  taken-flops =
      let long : length (take k flops) ≡ k = length-take-le k flops p.flops_long in
      rw long
      (record {
        few = p.listed.few;
        flop = λ i l. rw (get_or-take k flops i 0 l) (p.listed.flop i l);
        listed = λ g f. let w = p.listed.listed g f in (w.0, w.1, get_or-take k flops w.0 0 w.1 ∙ w.2);
      })

  -- each listed gate's first slot is one of the table's
  first-low : {g : ℕ} → IsFlop cells n g → get_or slots (g * 6) 0 < slot_count
  first-low {g} f =
      let z : g * 6 ≡ g * 6 + 0 = omega arith in
      let e = ap (λ (k : ℕ). get_or slots k 0) z ∙ (p.laid.each g f.below).slot 0 (omega arith) ∙ slot_at (run_at cells ps g) (kind_pad (kind_of (form_at cells g))) 0 (omega (arith, flop-three (p.runs.gates.each g f.below) f.form)) in
      omega (arith, e)

  few-flops : (next : List Bool) → length next ≡ 1024 → length (take k flops) ≤ length next
  few-flops next room = omega (arith, taken-flops.few, p.runs.gates.few_gates)

  pub prepared-takes : {bits next : List Bool} → length bits ≡ slot_count → length next ≡ 1024 → TakeRoom (take k flops) slots bits next
  prepared-takes {next = next} size room = record {
    within = λ i l. omega (arith, (taken-flops.flop i l).below, p.slots_long);
    low = λ i l. omega (arith, first-low (taken-flops.flop i l));
    room = few-flops next room;
  }

  pub prepared-holds : {bits next : List Bool} → length bits ≡ slot_count → length next ≡ 1024 → PutRoom (take k flops) next bits
  prepared-holds {next = next} size room = record {
    low = λ i l. omega (arith, (taken-flops.flop i l).below, p.runs.gates.few_gates);
    room = few-flops next room;
    size = size;
  }

  -- ---- a flip-flop's next bit

  module _ {row : List Bool} {val : ℕ → Bool} {bits : List Bool} (long : length row ≡ inputs) (s : Shown row val (λ g. g < n) bits) where
    abbrev σ : Signal → Bool
    σ = sig_bit row val

    module _ {g : ℕ} (f : IsFlop cells n g) where
      gate-is : GateIs net g (p.runs.gates.each g f.below).gate
      gate-is = cell-gate cells ps n g _ f.below (p.runs.gates.each g f.below).is

      abbrev run : List ℕ
      run = run_at cells ps g

      three : length run ≡ 3
      three = flop-three (p.runs.gates.each g f.below) f.form

      -- the table has the bit of its first pin
      data-pin : data_bit slots bits g ≡ σ (sig_of (get_or run 0 0))
      data-pin =
          let z : g * 6 ≡ g * 6 + 0 = omega arith in
          let first = place-mem run 0 (get_or run 0 0) (place-get_or 0 run 0 (omega (arith, three))) in
          ap (λ (k : ℕ). get_or bits k false)
          (ap (λ (k : ℕ). get_or slots k 0) z ∙ (p.laid.each g f.below).slot 0 (omega arith) ∙ slot_at run (kind_pad (kind_of (form_at cells g))) 0 (omega (arith, three)))
          ∙ known-bit s (get_or run 0 0) ((p.runs.gates.each g f.below).words (get_or run 0 0) first)
          (valid-known row (λ h. h < n) n (node_of (get_or run 0 0)) (λ h l. l) (rw long ((p.runs.gates.each g f.below).valid (get_or run 0 0) first)))

      -- "a reset of one gives zero, else an enable of one takes the data": it takes the data
      pub next-held : (held : ℕ → Bool) → data_bit slots bits g ≡ next_of net σ held g
      next-held held =
          data-pin
          ∙ by (p.runs.gates.each g f.below).gate (sym (p.runs.gates.each g f.below).form ∙ f.form)
          (all-mem is_plain net.gates p.runs.plain (p.runs.gates.each g f.below).gate (place-mem net.gates g _ gate-is))
          (ap (λ l. get_or l 0 (sig_of 0)) (p.runs.gates.each g f.below).run ∙ get_or-map sig_of run 0 0)
          ∙ ap (optional (next_bit σ (held g)) (held g)) (sym gate-is)
        where
          by : (x : Gate) → form_cell x ≡ flop_number → is_plain x ≡ true → {d : Signal} → get_or (pins x) 0 (sig_of 0) ≡ d → σ d ≡ next_bit σ (held g) x
          by (Comb k qs) e t q = absurd (comb-other k qs e)
          by (Dff ff) e t q =
              let plain = plain-flop ff t in
              ap σ (sym q)
              ∙ sym (ap₂ (λ (r e : Signal). cond (σ r) false (cond (σ e) (σ ff.data_in) (held g))) plain.reset_zero plain.enable_one)

-- what laying out leaves: the tables stand before the array's others
pub prepared-from : {inputs n : ℕ} {cells ps outs slots laid flops : List ℕ} {k : ℕ} (rest : List ℕ) → Runnable inputs n cells ps outs → length laid ≡ n
    → LaidOut cells ps (length laid) slots laid → n * 6 ≤ length slots → k ≤ length flops → Flops cells n flops k
    → Prepared inputs n cells ps outs slots (laid ++ rest) flops k
prepared-from {n = n} {laid = laid} rest r l o s f w = record {
  runs = r;
  slots_long = s;
  tables_long = omega (arith, length-append laid rest);
  laid = rw (take_at laid rest n l) (rw l at o);
  flops_long = f;
  listed = w;
}

-- laid out in tables and lists made for 1,024 gates
pub prepared_of : {inputs n : ℕ} {cells ps outs slots laid flops : List ℕ} {k : ℕ} (rest : List ℕ) → Runnable inputs n cells ps outs
    → length laid ≡ length {A = ℕ} (take n (replicate 1024 0)) → LaidOut cells ps (length laid) slots laid → length slots ≡ length {A = ℕ} (replicate 6144 0)
    → length flops ≡ length {A = ℕ} (replicate 1024 0) → Flops cells n flops k → Prepared inputs n cells ps outs slots (laid ++ rest) flops k
prepared_of rest r l o s f w =
    let few = r.gates.few_gates in
    prepared-from rest r (l ∙ length-take-le {A = ℕ} _ (replicate 1024 0) few) o (omega (arith, few, s, length-replicate {A = ℕ} 6144 0))
    (omega (arith, few, w.few, f, length-replicate {A = ℕ} 1024 0)) w
