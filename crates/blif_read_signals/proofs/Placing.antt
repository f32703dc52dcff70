-- Gates placed block by block: each stays where the next ones are written. Assumes nothing.
use Rattle.std.specs.Prelude.{Result, Ok, Err}
use mathlib.Core.Path.{◌≡◌, refl, sym, ap, ap₂, ◌∙◌}
use mathlib.Core.Bool.{Bool, true, false, ◌&&◌, false≢true}
use mathlib.Core.List.{List, [], ◌∷◌, map, flat_map, map-append}
use mathlib.Core.Option.{Option, none, some}
use Prim.Native.Nat.{ℕ, ◌+◌, ◌-◌, ◌*◌, ◌≤◌, ◌<◌}
use native.Mathlib.Omega.{arith}
use native.Mathlib.Decide.{ℕ_discrete}
use lib.ListN.{length, get_elem?, length-take, length-map}
use Rattle.lists.specs.Lists.{Bytes, all, range, sum_of, optional}
use Rattle.lists.specs.Between.Lists.{overwrite_at}
use Rattle.lists.proofs.Tests.{and_left, and_right}
use Rattle.lists.proofs.OverAt.{length-overwrite_at}
use Rattle.lists.proofs.Places.{map-map, place-lt}
use Rattle.lists.proofs.Range.{all_append, map_range, length-range, range_cons, range-end}
use Rattle.signal.specs.Signal.{Signal, zero_s, one_s}
use Rattle.signal.specs.Cell.{sig_cell}
use Rattle.gates.specs.Gate.{Gate, pins}
use Rattle.network.specs.Sizes.{max_gates, max_pins}
use Rattle.gates.specs.declared.NaryType.TheVariants as N
use Rattle.network.specs.Record.{gate_width, record_of}
use Rattle.network.specs.Between.Record.{hand_record}
use Rattle.network.proofs.RecordCells.{record-in, hand-dff, hand-nary, length-hand_record}
use Rattle.blif_text.specs.Decls.{Def, latch, cover, cover_ins, used_names}
use Rattle.blif_meaning.specs.Model.{init_bit}
use Rattle.blif_meaning.specs.WellFormed.{opt_name}
use Rattle.blif_reading.specs.Between.Working.{GateIn, placed, placed_count, WorkRoom}
use Rattle.blif_reading.proofs.WorkingLaws.{record-kept, run-kept, used-more, gate-written}
use Rattle.blif_read_signals.specs.Between.Resolve.{is_found, all_found, placed_to, Signals, PlacedBy}
use Rattle.blif_read_signals.specs.Between.Steps.{GateRoom, placed_in_hand, placed_run, DefPlaced}
use Rattle.refusals.specs.declared.Refusal.{Refusal}
use Rattle.refusals.specs.declared.Refusal.TheVariants as refusal

-- ---- the gate of a definition

-- found names are the cells of their signals
found-cells : (sig : Bytes → ℕ) (signal_of : Bytes → Signal) → Signals sig signal_of → (ns : List Bytes) → all is_found (map sig ns) ≡ true
    → map sig ns ≡ map sig_cell (map signal_of ns)
found-cells sig signal_of s [] f = refl
found-cells sig signal_of s (x ∷ ns) f =
    let b : Bool = all is_found (map sig ns) in
    ap₂ (λ (a : ℕ) (l : List ℕ). a ∷ l) (s x (and_left (is_found (sig x)) b f)) (found-cells sig signal_of s ns (and_right (is_found (sig x)) b f))

-- and so is one that may be left out
found-cell : (sig : Bytes → ℕ) (signal_of : Bytes → Signal) → Signals sig signal_of → (t : Signal) (o : Option Bytes) → all is_found (map sig (opt_name o)) ≡ true
    → optional sig (sig_cell t) o ≡ sig_cell (optional signal_of t o)
found-cell sig signal_of s t none f = refl
found-cell sig signal_of s t (some x) f = s x (and_left (is_found (sig x)) true f)

run_is : (sig : Bytes → ℕ) (signal_of : Bytes → Signal) → Signals sig signal_of → (d : Def) → all is_found (map sig (used_names d)) ≡ true
    → placed_run sig d ≡ map sig_cell (pins (placed signal_of d))
unfolding used_names
run_is sig signal_of s (latch l) f =
    let es : List ℕ = map sig (opt_name l.enable) in
    let rs : List ℕ = map sig (opt_name l.reset) in
    let o : (all is_found es && all is_found rs) ≡ true =
    sym (ap (all is_found) (map-append sig (opt_name l.enable) (opt_name l.reset)) ∙ all_append is_found es rs) ∙ and_right (is_found (sig l.input)) _ f in
    let d = s l.input (and_left (is_found (sig l.input)) _ f) in
    let e = found-cell sig signal_of s one_s l.enable (and_left (all is_found es) (all is_found rs) o) in
    let r = found-cell sig signal_of s zero_s l.reset (and_right (all is_found es) (all is_found rs) o) in
    λ i. d i ∷ e i ∷ r i ∷ []
run_is sig signal_of s (cover ns ls) f = found-cells sig signal_of s (cover_ins ns) f

-- its record is that of the gate in hand
record_is : (sig : Bytes → ℕ) (signal_of : Bytes → Signal) (at : ℕ) (d : Def) → hand_record at (placed_in_hand sig at d) ≡ record_of at (placed signal_of d)
record_is sig signal_of at (latch l) =
    hand-dff at (record { a = sig l.input }) (record { a = optional sig 1 l.enable }) (record { a = optional sig 0 l.reset }) (init_bit l.init)
    (record { data_in = signal_of l.input; enable = optional signal_of one_s l.enable; reset = optional signal_of zero_s l.reset; start = init_bit l.init }) refl
record_is sig signal_of at (cover ns ls) =
    hand-nary at N.And (record { first = at; count = length (cover_ins ns) }) (map signal_of (cover_ins ns)) (sym (length-map (cover_ins ns) signal_of))

run_length : (sig : Bytes → ℕ) (d : Def) → length (placed_run sig d) ≡ placed_count d
unfolding cover_ins
run_length sig (latch l) = refl
run_length sig (cover ns ls) =
    let e : length (map sig (cover_ins ns)) ≡ length (cover_ins ns) = length-map (cover_ins ns) sig in
    omega (arith, e, length-take (length ns - 1) ns)

-- the gate stands in the cells after it was placed
def-in : {sig : Bytes → ℕ} (d : Def) {j at : ℕ} {gates pins_in gates' pins_in' : List ℕ} {r : Result ℕ Refusal} → DefPlaced sig d j at gates pins_in gates' pins_in' r
    → GateRoom gates pins_in j at (placed_count d) → all is_found (map sig (used_names d)) ≡ true → (signal_of : Bytes → Signal) → Signals sig signal_of
    → GateIn gates' pins_in' (at + length (placed_run sig d)) j (placed signal_of d)
def-in {sig} d {j} {at} {gates} {pins_in} {gates'} {pins_in'} {r} p w t signal_of s =
    let x : Gate = placed signal_of d in
    let e : placed_run sig d ≡ map sig_cell (pins x) = run_is sig signal_of s d t in
    let n : length (placed_run sig d) ≡ length (pins x) = ap length e ∙ length-map (pins x) sig_cell in
    let g : gates' ≡ overwrite_at (j * gate_width) (record_of at x) gates =
    p.records t ∙ ap (λ (c : List ℕ). overwrite_at (j * gate_width) c gates) (record_is sig signal_of at d) in
    let q : pins_in' ≡ overwrite_at at (map sig_cell (pins x)) pins_in = p.runs t ∙ ap (λ (l : List ℕ). overwrite_at at l pins_in) e in
    rw (g, q, n)
    (gate-written gates pins_in at j x (record-in w.low w.cells.gate_room) (omega (arith, n, run_length sig d, w.few, w.cells.pin_room)))

-- ---- the answer

-- pins are told where all names were found
pub pins-found : (b : Bool) (k : ℕ) {end : ℕ} → Ok end ≡ placed_to b k → (b ≡ true) × (end ≡ k)
pins-found true k e = (refl, (cc))
pins-found false k e = absurd (let z : ◌≡◌ {A = ℕ} 0 1 = cc in omega arith)

-- a refusal where one was not
pub refused-found : (b : Bool) (k : ℕ) {r : Refusal} → Err r ≡ placed_to b k → (b ≡ false) × (r ≡ refusal.Undefined)
refused-found true k e = absurd (let z : ◌≡◌ {A = ℕ} 0 1 = cc in omega arith)
refused-found false k e = (refl, (cc))

-- ---- block by block

-- the definitions from j on
abbrev from : (ℕ → Def) → ℕ → ℕ → List Def
from def g j = map def (range j (g - j))

from_cons : (def : ℕ → Def) (g j : ℕ) → j < g → from def g j ≡ def j ∷ from def g (j + 1)
from_cons def g j h = ap (map def) (range_cons g j h)

found-cons : (sig : Bytes → ℕ) (d : Def) (ds : List Def) → all_found sig (d ∷ ds) ≡ (all is_found (map sig (used_names d)) && all_found sig ds)
unfolding flat_map
found-cons sig d ds = ap (all is_found) (map-append sig (used_names d) (flat_map used_names ds)) ∙ all_append is_found (map sig (used_names d)) (map sig (flat_map used_names ds))

found-nil : (sig : Bytes → ℕ) → all_found sig [] ≡ true
unfolding flat_map
found-nil sig = refl

-- the gates of the first j definitions are placed, their pins before cell at
pub record Placing (sig : Bytes → ℕ) (def : ℕ → Def) (g : ℕ) (gates₀ pins_in₀ gates pins_in : List ℕ) (j at : ℕ) : Type 0 where
  pub within : j ≤ g
  pub low : g ≤ max_gates
  pub same-gates : length gates ≡ length gates₀
  pub same-pins : length pins_in ≡ length pins_in₀
  pub cells : WorkRoom gates pins_in
  pub few : sum_of placed_count (map def (range 0 g)) ≤ max_pins
  pub found : all_found sig (from def g j) ≡ all_found sig (map def (range 0 g))
  pub counted : at + sum_of placed_count (from def g j) ≡ sum_of placed_count (map def (range 0 g))
  pub gates-in : (signal_of : Bytes → Signal) → Signals sig signal_of → (h : ℕ) → h < j → GateIn gates pins_in at h (placed signal_of (def h))

module _ {sig : Bytes → ℕ} {def : ℕ → Def} {g : ℕ} {gates₀ pins_in₀ gates pins_in : List ℕ} {j at : ℕ} (c : Placing sig def g gates₀ pins_in₀ gates pins_in j at) where
  -- there is room for the next
  pub placing-room : j < g → GateRoom gates pins_in j at (placed_count (def j))
  placing-room h =
      record {
        cells = c.cells;
        low = omega (arith, c.low);
        few = omega (arith, c.few, c.counted, ap (sum_of placed_count) (from_cons def g j h));
      }

  -- whether this definition's names and the others' are found
  now-found : j < g → (all is_found (map sig (used_names (def j))) && all_found sig (from def g (j + 1))) ≡ all_found sig (map def (range 0 g))
  now-found h = sym (ap (all_found sig) (from_cons def g j h) ∙ found-cons sig (def j) (from def g (j + 1))) ∙ c.found

  module _ {gates' pins_in' : List ℕ} {r : Result ℕ Refusal} (h : j < g) (p : DefPlaced sig (def j) j at gates pins_in gates' pins_in' r) where
    -- a name was not found
    pub placing-stops : {k : Refusal} → r ≡ Err k → PlacedBy sig (map def (range 0 g)) gates' pins_in' (Err k)
    placing-stops e =
        let t = refused-found (all is_found (map sig (used_names (def j)))) _ (sym e ∙ p.end) in
        let f = sym (ap (λ (b : Bool). b && all_found sig (from def g (j + 1))) t.0) ∙ now-found h in
        record {
          counted = ap Err t.1 ∙ ap (λ (b : Bool). placed_to b (sum_of placed_count (map def (range 0 g)))) f;
          gates-in = λ u. absurd (false≢true (f ∙ u));
        }

    -- the gates before, after this one was placed
    kept : all is_found (map sig (used_names (def j))) ≡ true → (signal_of : Bytes → Signal) → Signals sig signal_of → (i : ℕ) → i < j → GateIn gates' pins_in' (at + length (placed_run sig (def j))) i (placed signal_of (def i))
    kept t signal_of s i u =
        let k : ℕ = length (placed_run sig (def j)) in
        let cells : List ℕ = hand_record at (placed_in_hand sig at (def j)) in
        rw (p.records t, p.runs t)
        (used-more (at + k) (omega arith)
        (run-kept at (placed_run sig (def j)) (omega arith) (record-kept j cells (length-hand_record at (placed_in_hand sig at (def j))) (λ z. omega arith) (c.gates-in signal_of s i u))))

    pub placing-next : {end : ℕ} → r ≡ Ok end → Placing sig def g gates₀ pins_in₀ gates' pins_in' (j + 1) end
    placing-next {end} e =
        let x = pins-found (all is_found (map sig (used_names (def j)))) _ (sym e ∙ p.end) in
        let t = x.0 in
        let cells : List ℕ = hand_record at (placed_in_hand sig at (def j)) in
        let lg : length gates' ≡ length gates = ap length (p.records t) ∙ length-overwrite_at (j * gate_width) cells gates in
        let lp : length pins_in' ≡ length pins_in = ap length (p.runs t) ∙ length-overwrite_at at (placed_run sig (def j)) pins_in in
        record {
          within = omega arith;
          low = c.low;
          same-gates = lg ∙ c.same-gates;
          same-pins = lp ∙ c.same-pins;
          cells = record { gate_room = omega (arith, c.cells.gate_room); pin_room = omega (arith, c.cells.pin_room) };
          few = c.few;
          found = sym (ap (λ (b : Bool). b && all_found sig (from def g (j + 1))) t) ∙ now-found h;
          counted = omega (arith, c.counted, x.1, run_length sig (def j), ap (sum_of placed_count) (from_cons def g j h));
          gates-in = λ signal_of s i u.
              elim (ℕ_discrete i j) [
                | yes z ↦ rw (z, x.1) (def-in (def j) p (placing-room h) t signal_of s)
                | no z ↦ rw x.1 (kept t signal_of s i (omega arith))
              ];
        }

  pub placing-done : g ≤ j → PlacedBy sig (map def (range 0 g)) gates pins_in (Ok at)
  placing-done h =
      let e : from def g j ≡ [] = ap (map def) (range-end g j h) in
      let all-counted : at ≡ sum_of placed_count (map def (range 0 g)) = omega (arith, c.counted, ap (sum_of placed_count) e) in
      record {
        counted = ap₂ (λ (k : ℕ) (b : Bool). placed_to b k) all-counted (sym (ap (all_found sig) e ∙ found-nil sig) ∙ c.found);
        gates-in = λ t signal_of s i x q.
            let m : map (placed signal_of) (map def (range 0 g)) ≡ map (λ (k : ℕ). placed signal_of (def k)) (range 0 g) = map-map (placed signal_of) def (range 0 g) in
            let l : i < length (map (placed signal_of) (map def (range 0 g))) = place-lt (map (placed signal_of) (map def (range 0 g))) i x q in
            let n : length (map (λ (k : ℕ). placed signal_of (def k)) (range 0 g)) ≡ g = length-map (range 0 g) (λ (k : ℕ). placed signal_of (def k)) ∙ length-range 0 g in
            let u : i < g = omega (arith, ap length m) in
            let z : 0 + i ≡ i = omega arith in
            let v : some x ≡ some (placed signal_of (def i)) =
            sym q ∙ ap (λ (ys : List Gate). get_elem? ys i) m ∙ map_range (λ (k : ℕ). placed signal_of (def k)) 0 g i u ∙ ap (λ (k : ℕ). some (placed signal_of (def k))) z in
            let w : x ≡ placed signal_of (def i) = cc in
            rw (w, ← all-counted) (c.gates-in signal_of s i (omega arith));
      }
