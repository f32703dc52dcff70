-- Where a gate's record and its run of pins stand in the cells. Assumes nothing.
use Rattle.std.specs.Prelude.{None}
use mathlib.Core.Path.{◌≡◌, refl, sym, ap, ◌∙◌, subst}
use mathlib.Core.Bool.{Bool, true, false}
use mathlib.Core.List.{List, [], ◌∷◌, ◌++◌, map}
use mathlib.Core.Option.{none}
use Prim.Native.Nat.{ℕ, zero, suc, ◌+◌, ◌-◌, ◌*◌, ◌/◌, ◌≤◌, ◌<◌}
use native.Mathlib.Omega.{arith}
use native.Mathlib.Nat.{add-suc}
use lib.ListN.{length, take, drop, length-map}
use lib.Seq.{drop-cons, take-add, drop-drop}
use Rattle.lists.specs.Between.Lists.{overwrite_at}
use Rattle.lists.proofs.Tests.{by_order}
use Rattle.lists.proofs.OverAt.{length-overwrite_at, run-before, drop-behind, run-overwrite_at}
use Rattle.lists.proofs.Places.{length_run}
use borrow.Author.Tests.{le-leb}
use Rattle.signal.specs.Cell.{bit_of, sig_of}
use Rattle.gates.specs.Forms.{gate_from, form_number, flop_number, form_cell, start_cell}
use Rattle.gates.specs.Between.Forms.{kind_of, nary_form}
use Rattle.gates.specs.Between.Decode.{with_pins}
use Rattle.gates.specs.Gate.{FlipFlop, Gate, Comb, Dff, Buf, pins}
use Rattle.gates.specs.declared.NaryType.{NaryType}
use Rattle.gates.specs.declared.PinRun.{PinRun}
use Rattle.signal.specs.declared.Signal as signal
use Rattle.gates.specs.declared.Gate as code
use Rattle.gates.specs.declared.Gate.TheVariants as G
use Rattle.signal.specs.Signal.{Signal, remap}
use Rattle.network.specs.Renumber.{remap_gate}
use Rattle.network.specs.Cells.{pins_below}
use Rattle.network.specs.Record.{gate_width, record_cells, record_of, form_at, first_at, count_at, start_at, run_at, has_run, gate_at}
use Rattle.network.specs.Between.Record.{record_at, with_first, decoded_at, RecordIn, HasRun, hand_record}

-- ---- records

-- gate g's record is within the cells of n records
pub record-in : {cells : List ℕ} {g n : ℕ} → g < n → n * gate_width ≤ length cells → RecordIn cells g
record-in h l = record { within = omega (arith, h, l) }

-- and so it is where the cells have so many records
pub record-below : {cells : List ℕ} {g : ℕ} → g < length cells / gate_width → RecordIn cells g
record-below h = record { within = omega (arith, h) }

-- its parts
pub record-parts : (cells : List ℕ) (g : ℕ) → RecordIn cells g → record_at cells g ≡ record_cells (form_at cells g) (first_at cells g) (count_at cells g) (start_at cells g)
record-parts cells g h =
    let w = h.within in
    let a : suc (g * gate_width) ≡ g * gate_width + 1 = omega arith in
    let b : suc (g * gate_width + 1) ≡ g * gate_width + 2 = omega arith in
    let c : suc (g * gate_width + 2) ≡ g * gate_width + 3 = omega arith in
    ap (take gate_width)
    (drop-cons cells (g * gate_width) 0 (omega arith)
    ∙ ap (λ (l : List ℕ). form_at cells g ∷ l)
    (ap (λ (i : ℕ). drop i cells) a
    ∙ drop-cons cells (g * gate_width + 1) 0 (omega arith)
    ∙ ap (λ (l : List ℕ). first_at cells g ∷ l)
    (ap (λ (i : ℕ). drop i cells) b
    ∙ drop-cons cells (g * gate_width + 2) 0 (omega arith)
    ∙ ap (λ (l : List ℕ). count_at cells g ∷ l) (ap (λ (i : ℕ). drop i cells) c ∙ drop-cons cells (g * gate_width + 3) 0 (omega arith)))))

pub length-record_of : (at : ℕ) (x : Gate) → length (record_of at x) ≡ gate_width
unfolding record_of
length-record_of at x = refl

pub length-record_at : (cells : List ℕ) (g : ℕ) → RecordIn cells g → length (record_at cells g) ≡ gate_width
length-record_at cells g h = length_run (g * gate_width) gate_width cells (omega (arith, h.within))

-- a gate whose pins are moved has its record but for the first pin
pub with_first-record_of : (at to : ℕ) (x : Gate) → with_first to (record_of at x) ≡ record_of to x
unfolding record_of
with_first-record_of at to x = refl

-- a gate that is renumbered has the record of before
pub record_of-remap : (π : ℕ → ℕ) (at : ℕ) (x : Gate) → record_of at (remap_gate π x) ≡ record_of at x
unfolding record_of
record_of-remap π at (Comb f ps) = ap (λ (n : ℕ). record_cells (form_number f) at n 0) (length-map ps (remap π))
record_of-remap π at (Dff s) = refl

-- a gate in hand that is read from a text, with the gate that it stands for
pub hand-buf : (at : ℕ) (a : signal.Signal) (s : Signal) → hand_record at (G.Buf a) ≡ record_of at (Comb Buf (s ∷ []))
unfolding record_of
hand-buf at a s = refl

pub hand-nary : (at : ℕ) (t : NaryType) (r : PinRun) (ps : List Signal) → r.count ≡ length ps → hand_record at (G.Nary t r) ≡ record_of at (Comb (nary_form t) ps)
unfolding record_of
hand-nary at t r ps e = ap (λ (n : ℕ). record_cells (form_number (nary_form t)) at n 0) e

pub hand-dff : (at : ℕ) (d e r : signal.Signal) (v : Bool) (s : FlipFlop) → v ≡ s.start → hand_record at (G.Dff d e r v) ≡ record_of at (Dff s)
unfolding record_of
hand-dff at d e r v s p = ap (λ (b : Bool). record_cells flop_number at 3 (bit_of b)) p

pub length-hand_record : (at : ℕ) (x : code.Gate) → length (hand_record at x) ≡ gate_width
length-hand_record at x = refl

-- the parts of a record that is a gate's
pub record RecordIs (cells : List ℕ) (g at : ℕ) (x : Gate) : Type 0 where
  pub form : form_at cells g ≡ form_cell x
  pub first : first_at cells g ≡ at
  pub count : count_at cells g ≡ length (pins x)
  pub start : start_at cells g ≡ start_cell x

pub record_is : {cells : List ℕ} {g at : ℕ} {x : Gate} → RecordIn cells g → record_at cells g ≡ record_of at x → RecordIs cells g at x
unfolding record_of
record_is {cells} {g} h e = let q = sym (record-parts cells g h) ∙ e in record { form = cc; first = cc; count = cc; start = cc }

-- a gate's record, with its run within the pins
pub record-runs : {cells ps : List ℕ} {g : ℕ} (at : ℕ) (x : Gate) → RecordIn cells g → record_at cells g ≡ record_of at x → at + length (pins x) ≤ length ps → HasRun cells ps g
record-runs at x h e l = let p = record_is h e in record { cells = h; within = omega (arith, p.first, p.count, l) }

-- a record that was written, and one apart from it
pub record_at-written : (cells r : List ℕ) (g : ℕ) → RecordIn cells g → length r ≡ gate_width → record_at (overwrite_at (g * gate_width) r cells) g ≡ r
record_at-written cells r g h l =
    ap (λ (n : ℕ). take n (drop (g * gate_width) (overwrite_at (g * gate_width) r cells))) (sym l)
    ∙ run-overwrite_at (g * gate_width) r cells (omega (arith, l, h.within))

pub record_at-apart : (cells r : List ℕ) (g j : ℕ) → length r ≡ gate_width → (g ≡ j → ⊥) → record_at (overwrite_at (j * gate_width) r cells) g ≡ record_at cells g
record_at-apart cells r g j l n =
    by_order j g
    (λ v. ap (take gate_width) (drop-behind (j * gate_width) r cells (g * gate_width) (omega (arith, l))))
    (λ v. run-before (j * gate_width) r cells (g * gate_width) gate_width (omega arith))

-- a record that is written leaves as many cells
pub record_in-written : {cells : List ℕ} {g : ℕ} (j : ℕ) (r : List ℕ) → RecordIn cells g → RecordIn (overwrite_at j r cells) g
record_in-written {cells} j r h = record { within = omega (arith, h.within, length-overwrite_at j r cells) }

-- the record of gate g stands before those of k more
pub records-split : (cells : List ℕ) (g k : ℕ)
    → take (suc k * gate_width) (drop (g * gate_width) cells) ≡ record_at cells g ++ take (k * gate_width) (drop (suc g * gate_width) cells)
records-split cells g k =
    let e : suc k * gate_width ≡ gate_width + k * gate_width = omega arith in
    let d : g * gate_width + gate_width ≡ suc g * gate_width = omega arith in
    ap (λ (i : ℕ). take i (drop (g * gate_width) cells)) e
    ∙ take-add gate_width (k * gate_width) (drop (g * gate_width) cells)
    ∙ ap (λ (l : List ℕ). record_at cells g ++ take (k * gate_width) l) (drop-drop gate_width (g * gate_width) cells ∙ ap (λ (i : ℕ). drop i cells) d)

-- pin counts add up
start-le : (cells : List ℕ) (g k : ℕ) → pins_below cells g ≤ pins_below cells (g + k)
start-le cells g zero = let e : g ≡ g + 0 = omega arith in subst (λ (i : ℕ). pins_below cells g ≤ pins_below cells i) e (omega arith)
start-le cells g (suc k) =
    let h : pins_below cells g ≤ pins_below cells (g + k) = start-le cells g k in
    rw (add-suc g k) (omega arith)

pub start-mono : (cells : List ℕ) (g n : ℕ) → g < n → pins_below cells g + count_at cells g ≤ pins_below cells n
start-mono cells g n h =
    let e : suc g + (n - suc g) ≡ n = omega arith in
    subst (λ (i : ℕ). pins_below cells (suc g) ≤ pins_below cells i) e (start-le cells (suc g) (n - suc g))

-- where both are there, the gate is the one of its number and its pins; else there is none
module _ (cells ps : List ℕ) (g : ℕ) where
  module _ (t : has_run cells ps g ≡ true) where
    pub gate-some : gate_at cells ps g ≡ gate_from (form_at cells g) (start_at cells g) (map sig_of (run_at cells ps g))
    unfolding gate_at
    gate-some = rw t

    pub decoded-some : decoded_at cells ps g ≡ with_pins (kind_of (form_at cells g)) (first_at cells g) (start_at cells g) (run_at cells ps g)
    unfolding decoded_at
    decoded-some = rw t

  module _ (t : has_run cells ps g ≡ false) where
    pub gate-none : gate_at cells ps g ≡ none
    unfolding gate_at
    gate-none = rw t

    pub decoded-none : decoded_at cells ps g ≡ None
    unfolding decoded_at
    decoded-none = rw t

  module _ (h : HasRun cells ps g) where
    pub both-there : has_run cells ps g ≡ true
    both-there = rw (le-leb (suc g * gate_width) (length cells) h.cells.within, le-leb (first_at cells g + count_at cells g) (length ps) h.within)

    pub gate-there : gate_at cells ps g ≡ gate_from (form_at cells g) (start_at cells g) (map sig_of (run_at cells ps g))
    gate-there = gate-some both-there

    pub decoded-there : decoded_at cells ps g ≡ with_pins (kind_of (form_at cells g)) (first_at cells g) (start_at cells g) (run_at cells ps g)
    decoded-there = decoded-some both-there
