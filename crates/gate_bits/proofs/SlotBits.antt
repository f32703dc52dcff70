-- A signal's slot, its bit in a table, and tables in which one node's bit is put. Assumes nothing.
use mathlib.Core.Path.{◌≡◌, refl, sym, ap, ◌∙◌}
use mathlib.Core.Bool.{Bool, true, false, not}
use mathlib.Core.List.{List, [], ◌∷◌, map}
use Prim.Native.Nat.{ℕ, zero, suc, ◌+◌, ◌-◌, ◌%◌, ◌^◌, ◌<◌}
use native.Mathlib.Omega.{arith}
use native.Mathlib.Nat.{add-zero}
use native.Mathlib.Numerals.{add-one}
use lib.ListN.{length, get_or, set, length-set, length-map, get_or-map}
use lib.Seq.{take_all, get_or-set_same, get_or-set_other}
use Rattle.lists.specs.Lists.{range, overwrite}
use Rattle.lists.proofs.Places.{map-map, get_d_any}
use Rattle.lists.proofs.Range.{range_cons}
use Rattle.lists.proofs.Over.{length-overwrite, take-overwrite}
use Rattle.lists.proofs.Counting.{length-table, get_or-table}
use Rattle.signal.specs.Signal.{Node, Const, Input, Var, invert_if}
use Rattle.signal.specs.Cell.{bit_of, node_cell, node_of, sig_of}
use Rattle.signal.proofs.Cells.{cell-again}
use Rattle.gate_bits.specs.Between.Slots.{slot_count, slot_of, bit_at, pin_bits, node_slot, HasSlot, Shows, slot_or, run_slots, bits_in}
use Rattle.gate_bits.specs.Between.Tables.{padded}

-- ---- a signal's slot

-- the low twelve bits of a node's cell
slot-node : (n : Node) (i : Bool) → HasSlot n → slot_of (node_cell n + bit_of i) ≡ node_slot n + bit_of i
slot-node Const false h = refl
slot-node Const true h = refl
slot-node (Var v) false h = omega arith
slot-node (Var v) true h = omega arith
slot-node (Input v) false h = omega arith
slot-node (Input v) true h = omega arith

pub slot-cell : (c : ℕ) → c < 2 ^ 32 → HasSlot (node_of c) → slot_of c ≡ node_slot (node_of c) + bit_of (sig_of c).inv
slot-cell c l h = ap slot_of (sym (cell-again c l)) ∙ slot-node (node_of c) (sig_of c).inv h

shows-slot : {bits : List Bool} {n : Node} {b : Bool} → Shows bits n b → (i : Bool) → get_or bits (node_slot n + bit_of i) false ≡ invert_if i b
shows-slot s false = rw add-zero s.plain
shows-slot s true = rw add-one s.inverse

pub shows-bit : {bits : List Bool} {c : ℕ} {b : Bool} → c < 2 ^ 32 → HasSlot (node_of c) → Shows bits (node_of c) b → bit_at bits c ≡ invert_if (sig_of c).inv b
shows-bit {bits} {c} l h s = ap (λ (k : ℕ). get_or bits k false) (slot-cell c l h) ∙ shows-slot s (sig_of c).inv

-- ---- one node's bit put in a table

pub slot-low : (n : Node) → HasSlot n → suc (node_slot n) < slot_count
slot-low Const h = omega arith
slot-low (Var v) h = omega arith
slot-low (Input v) h = omega arith

slot-even : (n : Node) → HasSlot n → node_slot n % 2 ≡ 0
slot-even Const h = refl
slot-even (Var v) h = omega arith
slot-even (Input v) h = omega arith

-- two nodes with one slot are one node
one-slot : (n m : Node) → HasSlot n → HasSlot m → node_slot m ≡ node_slot n → m ≡ n
one-slot Const Const h k e = refl
one-slot Const (Var w) h k e = absurd (omega arith)
one-slot Const (Input w) h k e = absurd (omega arith)
one-slot (Var v) Const h k e = absurd (omega arith)
one-slot (Var v) (Var w) h k e = let q : w ≡ v = omega arith in ap Var q
one-slot (Var v) (Input w) h k e = absurd (omega arith)
one-slot (Input v) Const h k e = absurd (omega arith)
one-slot (Input v) (Var w) h k e = absurd (omega arith)
one-slot (Input v) (Input w) h k e = let q : w ≡ v = omega arith in ap Input q

pub put-here : (bits : List Bool) (n : Node) (b : Bool) → HasSlot n → length bits ≡ slot_count → Shows (set (set bits (node_slot n) b) (node_slot n + 1) (not b)) n b
put-here bits n b h l = record {
  plain =
      get_or-set_other (set bits (node_slot n) b) (node_slot n + 1) (node_slot n) (not b) false (λ e. omega arith)
      ∙ get_or-set_same bits (node_slot n) b false (omega (arith, slot-low n h));
  inverse =
      rw add-one (get_or-set_same (set bits (node_slot n) b) (suc (node_slot n)) (not b) false (omega (arith, slot-low n h, length-set bits (node_slot n) b)));
}

pub put_other : (bits : List Bool) (n m : Node) (b : Bool) {v : Bool} → HasSlot n → HasSlot m → (m ≡ n → ⊥) → Shows bits m v → Shows (set (set bits (node_slot n) b) (node_slot n + 1) (not b)) m v
put_other bits n m b h k d s = record {
  plain = kept (node_slot m) (λ e. apart e) (λ e. omega (arith, slot-even n h, slot-even m k)) ∙ s.plain;
  inverse = kept (suc (node_slot m)) (λ e. omega (arith, slot-even n h, slot-even m k)) (λ e. apart (omega arith)) ∙ s.inverse;
}
  where
    apart : node_slot m ≡ node_slot n → ⊥
    apart e = d (one-slot n m h k e)

    kept : (i : ℕ) → (i ≡ node_slot n → ⊥) → (i ≡ node_slot n + 1 → ⊥) → get_or (set (set bits (node_slot n) b) (node_slot n + 1) (not b)) i false ≡ get_or bits i false
    kept i p q = get_or-set_other (set bits (node_slot n) b) (node_slot n + 1) i (not b) false q ∙ get_or-set_other bits (node_slot n) i b false p

-- ---- the slots of a run of pins

pub slot_at : (run : List ℕ) (pad i : ℕ) → i < length run → slot_or run pad i ≡ slot_of (get_or run i 0)
slot_at run pad i h = get_d_any (map slot_of run) i pad (slot_of 0) (omega (arith, length-map run slot_of)) ∙ get_or-map slot_of run i 0

-- the bit in the slot of pin i is that of pin i
slot-bit : (bits : List Bool) (run : List ℕ) (pad i : ℕ) → get_or bits (slot_or run pad i) false ≡ get_or (pin_bits bits run) i (get_or bits pad false)
slot-bit bits run pad i =
    sym (get_or-map (λ s. get_or bits s false) (map slot_of run) i pad)
    ∙ ap (λ (l : List Bool). get_or l i (get_or bits pad false)) (map-map (λ s. get_or bits s false) slot_of run)

pub slots-bits : (bits : List Bool) (run : List ℕ) (pad n : ℕ) → bits_in bits (run_slots run pad n) ≡ padded n (get_or bits pad false) (pin_bits bits run)
slots-bits bits run pad n = map-map (λ s. get_or bits s false) (slot_or run pad) (range 0 n) ∙ (λ j. map (λ i. slot-bit bits run pad i j) (range 0 n))

slot-or-low : (run : List ℕ) (pad i : ℕ) → pad < slot_count → slot_or run pad i < slot_count
slot-or-low [] pad i h = h
slot-or-low (c ∷ run) pad zero h = omega arith
slot-or-low (c ∷ run) pad (suc i) h = slot-or-low run pad i h

pub slots-low : (run : List ℕ) (pad n i : ℕ) → pad < slot_count → i < n → get_or (run_slots run pad n) i 0 < slot_count
slots-low run pad n i h l = rw (get_or-table (slot_or run pad) n i l) (slot-or-low run pad i h)

pub length-slots : (run : List ℕ) (pad n : ℕ) → length (run_slots run pad n) ≡ n
length-slots run pad n = length-table (slot_or run pad) n

-- ---- slots laid one after the other

-- of the slots from pin i on, the first, then the others
pub slots-left : (run : List ℕ) (pad n i : ℕ) → i < n
    → map (slot_or run pad) (range i (n - i)) ≡ slot_or run pad i ∷ map (slot_or run pad) (range (i + 1) (n - (i + 1)))
slots-left run pad n i h = ap (map (slot_or run pad)) (range_cons n i h)

-- laid over as many
pub slots-over : (run : List ℕ) (pad : ℕ) (o : List ℕ) → overwrite (run_slots run pad (length o)) o ≡ run_slots run pad (length o)
slots-over run pad o =
    let t = run_slots run pad (length o) in
    let e : length t ≡ length o = length-slots run pad (length o) in
    sym (take_all (length t) (overwrite t o) (omega (arith, length-overwrite t o))) ∙ take-overwrite t o (omega arith)
