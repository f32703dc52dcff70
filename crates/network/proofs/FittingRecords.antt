-- Records that fit, one run of pins after the other, are the cells of the gates that they hold. Assumes nothing.
use mathlib.Core.Path.{◌≡◌, refl, sym, ap, ap₂, ◌∙◌}
use mathlib.Core.Bool.{true}
use mathlib.Core.List.{List, ◌++◌, map, append-nil, append_assoc, Memᴰ}
use mathlib.Core.Option.{some}
use Prim.Native.Nat.{ℕ, zero, suc, ◌+◌, ◌*◌, ◌^◌, ◌≤◌, ◌<◌}
use native.Mathlib.Omega.{arith}
use lib.ListN.{length, take, drop, length-map}
use lib.Seq.{take-add}
use borrow.Author.Tests.{eqb-true}
use Rattle.lists.specs.Lists.{range}
use Rattle.lists.proofs.Tests.{and_left, and_right}
use Rattle.lists.proofs.Places.{length_run, mem-run}
use Rattle.signal.specs.Cell.{sig_cell, sig_of}
use Rattle.signal.proofs.Cells.{cells-again}
use Rattle.gates.specs.Gate.{Gate, pins}
use Rattle.gates.specs.Forms.{form_cell, start_cell, formed, can_take, can_start}
use Rattle.gates.proofs.Forms.{From, gate-from, gate-made}
use Rattle.network.specs.Cells.{pins_below, record_fits, or_buf}
use Rattle.network.specs.Record.{gate_width, record_of, form_at, first_at, count_at, start_at, run_at, gate_at, gate_cells, pin_cells}
use Rattle.network.specs.Between.Record.{record_at}
use Rattle.network.proofs.RecordCells.{record-in, records-split, start-mono, gate-there}
use Rattle.network.proofs.GateRead.{gate-record}

-- n records fit, their runs fill p pins, and the pins are 32-bit numbers
pub record Fitting (cells pins_l : List ℕ) (n p : ℕ) : Type 0 where
  pub inside : n * gate_width ≤ length cells
  pub pins_inside : p ≤ length pins_l
  pub fit : (g : ℕ) → g < n → record_fits cells g ≡ true
  pub total : pins_below cells n ≡ p
  pub words : (c : ℕ) → Memᴰ c (take p pins_l) → c < 2 ^ 32

-- the gate that a record and its run hold
pub record ReadAt (cells pins_l : List ℕ) (g : ℕ) : Type 0 where
  pub gate : Gate
  pub is : gate_at cells pins_l g ≡ some gate
  pub number : form_cell gate ≡ form_at cells g
  pub starts : start_cell gate ≡ start_at cells g
  pub first : first_at cells g ≡ pins_below cells g
  pub run : pins gate ≡ map sig_of (run_at cells pins_l g)
  pub count : length (pins gate) ≡ count_at cells g
  pub good : formed gate ≡ true

-- gate g of the cells, as the network that they hold has it
abbrev pub held_at : List ℕ → List ℕ → ℕ → Gate
held_at cells pins_l g = or_buf (gate_at cells pins_l g)

module _ {cells pins_l : List ℕ} {n p : ℕ} (c : Fitting cells pins_l n p) where
  pub run_inside : (g : ℕ) → g < n → pins_below cells g + count_at cells g ≤ p
  run_inside g h = omega (arith, start-mono cells g n h, c.total)

  pub read_at : (g : ℕ) → g < n → ReadAt cells pins_l g
  read_at g h =
      let fits : record_fits cells g ≡ true = c.fit g h in
      let takes : can_take (form_at cells g) (count_at cells g) ≡ true = search (and_left, and_right) depth 8 in
      let may : can_start (form_at cells g) (start_at cells g) ≡ true = search (and_left, and_right) depth 8 in
      let at : first_at cells g ≡ pins_below cells g = eqb-true (first_at cells g) (pins_below cells g) (search (and_left, and_right) depth 8) in
      let end : first_at cells g + count_at cells g ≤ length pins_l = omega (arith, run_inside g h, c.pins_inside) in
      let size : length (map sig_of (run_at cells pins_l g)) ≡ count_at cells g =
      length-map (run_at cells pins_l g) sig_of ∙ length_run (first_at cells g) (count_at cells g) pins_l end in
      let made = gate-made (form_at cells g) (start_at cells g) (map sig_of (run_at cells pins_l g)) (rw size takes) may in
      let from : From (form_at cells g) (start_at cells g) (map sig_of (run_at cells pins_l g)) made.0 =
      gate-from (form_at cells g) (start_at cells g) (map sig_of (run_at cells pins_l g)) made.0 made.1 in
      record {
        gate = made.0;
        is = gate-there cells pins_l g (record { cells = record-in h c.inside; within = end }) ∙ made.1;
        number = from.number;
        starts = from.starts;
        first = at;
        run = from.all-pins;
        count = ap length from.all-pins ∙ size;
        good = from.good;
      }

  pub held-is : (g : ℕ) (h : g < n) → held_at cells pins_l g ≡ (read_at g h).gate
  held-is g h = ap or_buf (read_at g h).is

  -- what stands in a gate's run stands in the pins in use
  pub run-mem : (g : ℕ) → g < n → (x : ℕ) → Memᴰ x (run_at cells pins_l g) → Memᴰ x (take p pins_l)
  run-mem g h x m =
      let f : first_at cells g ≡ pins_below cells g = (read_at g h).first in
      mem-run (first_at cells g) (count_at cells g) p pins_l x (omega (arith, run_inside g h)) m

  -- the run's cells are those of the gate's inputs
  run-cells : (g : ℕ) (h : g < n) → map sig_cell (pins (held_at cells pins_l g)) ≡ take (count_at cells g) (drop (pins_below cells g) pins_l)
  run-cells g h =
      let r = read_at g h in
      ap (λ (x : Gate). map sig_cell (pins x)) (held-is g h)
      ∙ ap (map sig_cell) r.run
      ∙ cells-again (run_at cells pins_l g) (λ x m. c.words x (run-mem g h x m))
      ∙ ap (λ (i : ℕ). take (count_at cells g) (drop i pins_l)) r.first

  -- the records from gate g on are the cells of their gates
  pub gates-laid : (k g : ℕ) → g + k ≤ n → take (k * gate_width) (drop (g * gate_width) cells) ≡ gate_cells (pins_below cells g) (map (held_at cells pins_l) (range g k))
  unfolding gate_cells
  gates-laid zero g h = refl
  gates-laid (suc k) g h =
      let l : g < n = omega arith in
      let r = read_at g l in
      let e : count_at cells g ≡ length (pins (held_at cells pins_l g)) = sym r.count ∙ sym (ap (λ (x : Gate). length (pins x)) (held-is g l)) in
      let m : record_at cells g ≡ record_of (pins_below cells g) (held_at cells pins_l g) =
      gate-record cells pins_l g r.gate r.is ∙ ap₂ record_of r.first (sym (held-is g l)) in
      let ih : take (k * gate_width) (drop (suc g * gate_width) cells) ≡ gate_cells (pins_below cells g + count_at cells g) (map (held_at cells pins_l) (range (suc g) k)) =
      gates-laid k (suc g) (omega arith) in
      records-split cells g k
      ∙ ap₂ ◌++◌ m ih
      ∙ ap (λ (n : ℕ). record_of (pins_below cells g) (held_at cells pins_l g) ++ gate_cells (pins_below cells g + n) (map (held_at cells pins_l) (range (suc g) k))) e

  -- the pins before gate g and the pins of k gates from it on are the pins before gate g + k
  pub pins-laid : (k g : ℕ) → g + k ≤ n
      → take (pins_below cells g) pins_l ++ pin_cells (map (held_at cells pins_l) (range g k)) ≡ take (pins_below cells (g + k)) pins_l
  unfolding pin_cells
  pins-laid zero g h = let e : g ≡ g + 0 = omega arith in append-nil (take (pins_below cells g) pins_l) ∙ ap (λ (i : ℕ). take (pins_below cells i) pins_l) e
  pins-laid (suc k) g h =
      let l : g < n = omega arith in
      let rest : List ℕ = pin_cells (map (held_at cells pins_l) (range (suc g) k)) in
      let e : suc g + k ≡ g + suc k = omega arith in
      sym (append_assoc (take (pins_below cells g) pins_l) (map sig_cell (pins (held_at cells pins_l g))) rest)
      ∙ ap (λ (m : List ℕ). take (pins_below cells g) pins_l ++ m ++ rest) (run-cells g l)
      ∙ ap (λ (m : List ℕ). m ++ rest) (sym (take-add (pins_below cells g) (count_at cells g) pins_l))
      ∙ pins-laid k (suc g) (omega arith)
      ∙ ap (λ (i : ℕ). take (pins_below cells i) pins_l) e
