-- Gates that stand in the cells while others are written. Assumes nothing.
use mathlib.Core.Path.{◌≡◌, sym, ap, ap₂, ◌∙◌, subst}
use mathlib.Core.Bool.{Bool}
use mathlib.Core.List.{List, map}
use Prim.Native.Nat.{ℕ, ◌+◌, ◌*◌, ◌≤◌, ◌<◌}
use native.Mathlib.Omega.{arith}
use lib.ListN.{length, take, drop, length-map}
use Rattle.lists.specs.Lists.{Bytes}
use Rattle.lists.specs.Between.Lists.{overwrite_at}
use Rattle.lists.proofs.OverAt.{length-overwrite_at, run-overwrite_at}
use Rattle.signal.specs.Signal.{Signal}
use Rattle.signal.specs.Cell.{sig_cell}
use Rattle.gates.specs.Gate.{Gate, pins}
use Rattle.network.specs.Sizes.{max_pins}
use Rattle.gates.specs.Between.Decode as decode
use Rattle.gates.specs.Between.Decode.{pin_count}
use Rattle.gates.specs.declared.Gate as code
use Rattle.network.specs.Record.{gate_width, record_of}
use Rattle.network.specs.Between.Record.{RecordIn, hand_record, RunFrom, LayRoom, GateLaid}
use Rattle.network.proofs.RecordCells.{record-in, length-hand_record}
use Rattle.blif_reading.specs.Build.{literals, literal_gate}
use Rattle.blif_reading.specs.TextModel.{col_of_byte}
use Rattle.blif_reading.specs.Between.Working.{GateIn}
use Rattle.blif_reading.proofs.WorkingLaws.{record-kept, run-kept, used-more, gate-written}
use Rattle.blif_read_gates.specs.Between.Steps.{literal_cells, literals_at, line_cells, line_in_hand, LineRoom, LinePut, GatesKept}
use Rattle.blif_read_gates.proofs.LiteralLaws.{LaidAt}
use Rattle.blif_read_gates.proofs.CellLaws.{overwrite-front, front_less, literals-sig, literals-few, line-sig, record-sig, line-few, hand-long, hand-from, hand-pins}

-- a gate whose record and run are written
pub gate-put : (gates pins_in : List ℕ) (at : ℕ) {gates' pins_in' t c : List ℕ} {r h : ℕ} (x : Gate) → gates' ≡ overwrite_at (h * gate_width) c gates → pins_in' ≡ overwrite_at at t pins_in
    → c ≡ record_of at x → t ≡ map sig_cell (pins x) → r ≡ at + length (pins x) → RecordIn gates h → r ≤ length pins_in → GateIn gates' pins_in' r h x
gate-put gates pins_in at {h = h} x eg ep ec et er l fit = rw (eg, ep, ec, et, er) (gate-written gates pins_in at h x l (omega arith))

-- ---- gates kept

-- one step, then another
pub kept_then : {keep : ℕ → Type 0} {gates pins_in gates' pins_in' gates'' pins_in'' : List ℕ} {at at' at'' : ℕ}
    → GatesKept keep gates pins_in at gates' pins_in' at' → GatesKept keep gates' pins_in' at' gates'' pins_in'' at'' → GatesKept keep gates pins_in at gates'' pins_in'' at''
kept_then {keep} {gates} {pins_in} {gates'} {pins_in'} {gates''} {pins_in''} {at} {at'} {at''} a b =
    record {
      low = omega (arith, a.low, b.low);
      front = front_less at at' pins_in'' pins_in' a.low b.front ∙ a.front;
      stay = λ h x k g. b.stay h x k (a.stay h x k g);
    }

-- fewer gates
pub kept-some : {keep some : ℕ → Type 0} {gates pins_in gates' pins_in' : List ℕ} {at at' : ℕ}
    → ((h : ℕ) → some h → keep h) → GatesKept keep gates pins_in at gates' pins_in' at' → GatesKept some gates pins_in at gates' pins_in' at'
kept-some f a = record { low = a.low; front = a.front; stay = λ h x k g. a.stay h x (f h k) g }

-- a record and its run are written
pub kept_put : (gates pins_in t c : List ℕ) (at at' j : ℕ) → length c ≡ gate_width → at ≤ at'
    → GatesKept (λ h. h ≡ j → ⊥) gates pins_in at (overwrite_at (j * gate_width) c gates) (overwrite_at at t pins_in) at'
kept_put gates pins_in t c at at' j n l =
    record {
      low = l;
      front = overwrite-front at t pins_in;
      stay = λ h x ne g. used-more at' l (record-kept j c n ne (run-kept at t (omega arith) g));
    }

-- ---- a line

-- the gate in hand of the literals that were written can be laid, and then the line is put
module _ (columns : Bytes) (one : Bool) (source at h : ℕ) {m : ℕ} (gates pins_in : List ℕ) {pins₁ : List ℕ} (d : LaidAt at (literals_at columns source pins_in) pins_in pins₁ m)
    (room : LineRoom (length columns) source at h gates pins_in) where
  abbrev lits : List ℕ
  lits = literals_at columns source pins_in

  lits-few : length lits ≤ length columns
  lits-few = literals-few columns (take (length columns) (drop source pins_in))

  lits-fit : at + length lits ≤ length pins_in
  lits-fit = omega (arith, lits-few, room.fits, room.room.pin_room)

  same : length pins₁ ≡ length pins_in
  same = ap length d.0 ∙ length-overwrite_at at lits pins_in

  -- there are as many pins as literals at least
  pub hand-room : (at < length pins₁) × (at + m ≤ length pins₁)
  hand-room = (omega (arith, same, room.fits, room.room.pin_room), omega (arith, same, d.1, lits-fit))

  module _ {x : code.Gate} (e : x ≡ line_in_hand one at (take m (drop at pins₁))) where
    hand-is : x ≡ line_in_hand one at lits
    hand-is =
        e ∙ ap (line_in_hand one at) (ap₂ (λ (k : ℕ) (p : List ℕ). take k (drop at p)) d.1 d.0 ∙ run-overwrite_at at lits pins_in lits-fit)

    hand-count : pin_count x ≡ length (line_cells one lits)
    hand-count = ap pin_count hand-is ∙ hand-long one at lits

    pub line-room : LayRoom x h at gates pins₁
    line-room =
        let k : at + pin_count x ≤ max_pins = omega (arith, hand-count, line-few one lits, lits-few, room.fits) in
        record {
          record-in = record-in room.low room.room.gate_room;
          room = omega (arith, k, same, room.room.pin_room);
          few = k;
          from = subst (RunFrom at) (sym hand-is) (hand-from one at lits);
        }

    pub line-put : {gates' pins_in' : List ℕ} {r : ℕ} → GateLaid x h at gates pins₁ gates' pins_in' r → LinePut columns one source at h gates pins_in gates' pins_in' r
    line-put p =
        record {
          runs = p.runs ∙ ap₂ (λ (y : code.Gate) (q : List ℕ). overwrite_at at (decode.pins_in y q) q) hand-is d.0 ∙ hand-pins one at lits pins_in lits-fit;
          records = p.records ∙ ap (λ (y : code.Gate). overwrite_at (h * gate_width) (hand_record at y) gates) hand-is;
          end = p.end ∙ ap (λ (k : ℕ). at + k) hand-count;
        }

-- room for a line with as many columns
pub room-wide : {width width' source at h : ℕ} {gates pins_in : List ℕ} → width ≡ width' → LineRoom width source at h gates pins_in → LineRoom width' source at h gates pins_in
room-wide {source = source} {at = at} {h = h} {gates = gates} {pins_in = pins_in} e l = subst (λ (w : ℕ). LineRoom w source at h gates pins_in) e l

module _ {columns : Bytes} {one : Bool} {source at h : ℕ} {gates pins_in gates' pins_in' : List ℕ} {r : ℕ} (p : LinePut columns one source at h gates pins_in gates' pins_in' r) where
  -- the other gates stay
  pub line_kept : GatesKept (λ k. k ≡ h → ⊥) gates pins_in at gates' pins_in' r
  line_kept =
      let lits = literals_at columns source pins_in in
      let c = hand_record at (line_in_hand one at lits) in
      rw (p.records, p.runs, p.end)
      (kept_put gates pins_in (line_cells one lits) c at (at + length (line_cells one lits)) h (length-hand_record at (line_in_hand one at lits)) (omega arith))

  -- no cell is added
  pub line_same : (length gates' ≡ length gates) × (length pins_in' ≡ length pins_in)
  line_same =
      let lits = literals_at columns source pins_in in (
        ap length p.records ∙ length-overwrite_at (h * gate_width) (hand_record at (line_in_hand one at lits)) gates,
        ap length p.runs ∙ length-overwrite_at at (line_cells one lits) pins_in,
      )

  -- no more pins than columns, or one
  line-end : r ≤ at + length columns + 1
  line-end =
      let sources = take (length columns) (drop source pins_in) in
      omega (arith, p.end, literals-few columns sources, line-few one (literal_cells columns sources))

  -- the line's gate
  pub line-gate : LineRoom (length columns) source at h gates pins_in → (ss : List Signal) → take (length columns) (drop source pins_in) ≡ map sig_cell ss
      → GateIn gates' pins_in' r h (literal_gate one (literals (map col_of_byte columns) ss))
  line-gate room ss e =
      let ls = literals (map col_of_byte columns) ss in
      let lits = literals_at columns source pins_in in
      let le : lits ≡ map sig_cell ls = ap (literal_cells columns) e ∙ literals-sig columns ss in
      let run = line_cells one lits in
      let q : run ≡ map sig_cell (pins (literal_gate one ls)) = ap (line_cells one) le ∙ line-sig one ls in
      let f : hand_record at (line_in_hand one at lits) ≡ record_of at (literal_gate one ls) = ap (λ (cs : List ℕ). hand_record at (line_in_hand one at cs)) le ∙ record-sig one at ls in
      let n : length run ≡ length (pins (literal_gate one ls)) = ap length q ∙ length-map (pins (literal_gate one ls)) sig_cell in
      let fit : r ≤ length pins_in = omega (arith, line-end, room.fits, room.room.pin_room) in
      gate-put gates pins_in at (literal_gate one ls) p.records p.runs f q (p.end ∙ ap (λ (k : ℕ). at + k) n) (record-in room.low room.room.gate_room) fit
