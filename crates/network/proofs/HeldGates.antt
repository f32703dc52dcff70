-- Cells that hold gates one after the other have records that fit, and the gates come back. Assumes nothing.
use mathlib.Core.Path.{◌≡◌, refl, sym, ap, ap₂, ◌∙◌}
use mathlib.Core.Bool.{true, ◌&&◌}
use mathlib.Core.List.{List, [], ◌∷◌, ◌++◌, map, Memᴰ}
use mathlib.Core.Option.{some}
use Prim.Native.Nat.{ℕ, suc, ◌+◌, ◌*◌, ◌≤◌}
use native.Mathlib.Omega.{arith}
use lib.Dec.{eqb}
use lib.ListN.{length, take, drop, length-map}
use lib.Seq.{take-add, drop-drop}
use borrow.Author.Tests.{eq-eqb}
use Rattle.lists.specs.Lists.{all, range}
use Rattle.lists.proofs.Tests.{and_both}
use Rattle.lists.proofs.Places.{length_run, same_parts}
use Rattle.signal.specs.Signal.{Signal}
use Rattle.signal.specs.Cell.{sig_cell, sig_of}
use Rattle.signal.proofs.Cells.{Small, signals-again}
use Rattle.gates.specs.Gate.{Gate, pins}
use Rattle.gates.specs.Forms.{form_cell, formed, can_take, can_start, gate_from}
use Rattle.gates.proofs.Forms.{gate-again, takes-formed, starts-formed}
use Rattle.network.specs.Cells.{pins_below, record_fits, or_buf}
use Rattle.network.specs.Record.{gate_width, record_of, form_at, first_at, count_at, start_at, run_at, gate_at, gate_cells, pin_cells}
use Rattle.network.specs.Between.Record.{record_at, RecordIn}
use Rattle.network.proofs.RecordCells.{length-record_of, length-record_at, record_is, record-runs, records-split, gate-there}
use Rattle.network.proofs.FittingRecords.{held_at}
use Rattle.network.proofs.PinCells.{pins-next}

-- the gates' cells stand from gate g's place on, their pins where its run starts, and the gates are such as a network's are
pub record Holds (cells pins_l : List ℕ) (g : ℕ) (gs : List Gate) : Type 0 where
  pub cells_held : take (length gs * gate_width) (drop (g * gate_width) cells) ≡ gate_cells (pins_below cells g) gs
  pub pins_held : take (length (pin_cells gs)) (drop (pins_below cells g) pins_l) ≡ pin_cells gs
  pub cells_inside : g * gate_width + length gs * gate_width ≤ length cells
  pub pins_within : pins_below cells g + length (pin_cells gs) ≤ length pins_l
  pub all_formed : (x : Gate) → Memᴰ x gs → formed x ≡ true
  pub all_small : (x : Gate) (s : Signal) → Memᴰ x gs → Memᴰ s (pins x) → Small s.node

-- what the record and the run of the first of them hold
record First (cells pins_l : List ℕ) (g : ℕ) (x : Gate) : Type 0 where
  form : form_at cells g ≡ form_cell x
  first : first_at cells g ≡ pins_below cells g
  size : count_at cells g ≡ length (pins x)
  gate : gate_at cells pins_l g ≡ some x
  fits : record_fits cells g ≡ true

module _ {cells pins_l : List ℕ} {g : ℕ} {x : Gate} {xs : List Gate} (c : Holds cells pins_l g (x ∷ xs)) where
  inside : RecordIn cells g
  inside = record { within = omega (arith, c.cells_inside) }

  cells-split : (record_at cells g ≡ record_of (pins_below cells g) x)
      × (take (length xs * gate_width) (drop (suc g * gate_width) cells) ≡ gate_cells (pins_below cells g + length (pins x)) xs)
  unfolding gate_cells
  cells-split =
      same_parts (record_at cells g) (record_of (pins_below cells g) x) (length-record_at cells g inside ∙ sym (length-record_of (pins_below cells g) x))
      (sym (records-split cells g (length xs)) ∙ c.cells_held)

  pins-split : take (length (pins x)) (drop (pins_below cells g) pins_l) ++ take (length (pin_cells xs)) (drop (pins_below cells g + length (pins x)) pins_l)
      ≡ map sig_cell (pins x) ++ pin_cells xs
  unfolding pin_cells
  pins-split =
      ap (λ (l : List ℕ). take (length (pins x)) (drop (pins_below cells g) pins_l) ++ take (length (pin_cells xs)) l)
      (sym (drop-drop (length (pins x)) (pins_below cells g) pins_l))
      ∙ sym (take-add (length (pins x)) (length (pin_cells xs)) (drop (pins_below cells g) pins_l))
      ∙ ap (λ (i : ℕ). take i (drop (pins_below cells g) pins_l)) (sym (pins-next x xs))
      ∙ c.pins_held

  -- so the first run is the first gate's, and the rest the others'
  runs-split : (take (length (pins x)) (drop (pins_below cells g) pins_l) ≡ map sig_cell (pins x))
      × (take (length (pin_cells xs)) (drop (pins_below cells g + length (pins x)) pins_l) ≡ pin_cells xs)
  runs-split =
      same_parts (take (length (pins x)) (drop (pins_below cells g) pins_l)) (map sig_cell (pins x))
      (length_run (pins_below cells g) (length (pins x)) pins_l (omega (arith, c.pins_within, pins-next x xs)) ∙ sym (length-map (pins x) sig_cell))
      pins-split

  first-is : First cells pins_l g x
  first-is =
      let q = record_is inside cells-split.0 in
      let f : form_at cells g ≡ form_cell x = q.form in
      let s : first_at cells g ≡ pins_below cells g = q.first in
      let k : count_at cells g ≡ length (pins x) = q.count in
      let good : formed x ≡ true = c.all_formed x (Memᴰ.head refl) in
      let run : map sig_of (run_at cells pins_l g) ≡ pins x =
      ap₂ (λ (m i : ℕ). map sig_of (take m (drop i pins_l))) k s
      ∙ ap (map sig_of) runs-split.0
      ∙ signals-again (pins x) (λ y m. c.all_small x y (Memᴰ.head refl) m) in
      record {
        form = f;
        first = s;
        size = k;
        gate = gate-there cells pins_l g (record-runs (pins_below cells g) x inside cells-split.0 (omega (arith, c.pins_within, pins-next x xs)))
            ∙ (λ i. gate_from (f i) (q.start i) (run i)) ∙ gate-again x good;
        fits =
            and_both (can_take (form_at cells g) (count_at cells g) && can_start (form_at cells g) (start_at cells g)) (eqb (first_at cells g) (pins_below cells g))
            (and_both (can_take (form_at cells g) (count_at cells g)) (can_start (form_at cells g) (start_at cells g))
            (ap₂ can_take f k ∙ takes-formed x ∙ good)
            (ap₂ can_start f q.start ∙ starts-formed x))
            (eq-eqb (first_at cells g) (pins_below cells g) s);
      }

  later-holds : Holds cells pins_l (suc g) xs
  later-holds =
      let k : count_at cells g ≡ length (pins x) = first-is.size in
      let e : pins_below cells g + length (pins x) ≡ pins_below cells g + count_at cells g = omega arith in
      record {
        cells_held = cells-split.1 ∙ ap (λ (i : ℕ). gate_cells i xs) e;
        pins_held = ap (λ (i : ℕ). take (length (pin_cells xs)) (drop i pins_l)) (sym e) ∙ runs-split.1;
        cells_inside = omega (arith, c.cells_inside);
        pins_within = omega (arith, c.pins_within, pins-next x xs);
        all_formed = λ y m. c.all_formed y (Memᴰ.tail m);
        all_small = λ y s m w. c.all_small y s (Memᴰ.tail m) w;
      }

-- the records fit, their runs follow each other, and the gates come back
pub record Again (cells pins_l : List ℕ) (g : ℕ) (gs : List Gate) : Type 0 where
  pub fit_again : all (record_fits cells) (range g (length gs)) ≡ true
  pub ends : pins_below cells (g + length gs) ≡ pins_below cells g + length (pin_cells gs)
  pub gates_again : map (held_at cells pins_l) (range g (length gs)) ≡ gs

pub held-again : {cells pins_l : List ℕ} {g : ℕ} (gs : List Gate) → Holds cells pins_l g gs → Again cells pins_l g gs
unfolding pin_cells
held-again {cells} {pins_l} {g} [] c =
    let e : g + 0 ≡ g = omega arith in
    record { fit_again = refl; ends = ap (pins_below cells) e ∙ omega arith; gates_again = refl }
held-again {cells} {pins_l} {g} (x ∷ xs) c =
    let f : First cells pins_l g x = first-is c in
    let r : Again cells pins_l (suc g) xs = held-again xs (later-holds c) in
    let e : g + suc (length xs) ≡ suc g + length xs = omega arith in
    record {
      fit_again = and_both (record_fits cells g) (all (record_fits cells) (range (suc g) (length xs))) f.fits r.fit_again;
      ends = ap (pins_below cells) e ∙ r.ends ∙ omega (arith, f.size, pins-next x xs);
      gates_again = ap₂ (λ (y : Gate) (m : List Gate). y ∷ m) (ap or_buf f.gate) r.gates_again;
    }
