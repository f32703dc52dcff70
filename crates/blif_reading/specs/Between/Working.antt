-- Gates in the reader's working cells while a network is built (document 01, src/io/blif.rs: `build_network`). Runs of pins stand in no
-- fixed order there. Assumes nothing: these are definitions.
use Rattle.std.specs.Prelude.{◌≡◌, List, map, ℕ, ◌+◌, ◌-◌, ◌*◌, ◌≤◌, length, take, drop}
use Rattle.std.proofs.Math.Option.{some}
use Rattle.std.proofs.Math.ListN.{get_elem?}
use Rattle.lists.specs.Lists.{Bytes}
use Rattle.signal.specs.Signal.{Signal}
use Rattle.signal.specs.Cell.{sig_cell}
use Rattle.gates.specs.Gate.{AndN, Gate, Comb, pins}
use Rattle.network.specs.Sizes.{max_gates, max_pins}
use Rattle.network.specs.Record.{gate_width, record_of}
use Rattle.network.specs.Between.Record.{record_at, RecordIn}
use Rattle.blif_text.specs.Decls.{Def, latch, cover, cover_ins}
use Rattle.blif_reading.specs.Build.{latch_gate, gates_for}
use Rattle.blif_reading.specs.TextModel.{block_of}

-- record h and its run of pins, within the first `used` pins, are those of the gate x
pub record GateIn (gates pins_in : List ℕ) (used h : ℕ) (x : Gate) : Type 0 where
  -- the record is within the cells
  pub inside : RecordIn gates h
  -- where its pins start
  pub at : ℕ
  -- the record
  pub is : record_at gates h ≡ record_of at x
  -- the run is within the pins in use
  pub within : at + length (pins x) ≤ used
  -- the pins
  pub run : take (length (pins x)) (drop at pins_in) ≡ map sig_cell (pins x)

-- the gates xs stand in the cells, from record 0 on
abbrev pub GatesIn : List ℕ → List ℕ → ℕ → List Gate → Type 0
GatesIn gates pins_in used xs = (h : ℕ) (x : Gate) → get_elem? xs h ≡ some x → GateIn gates pins_in used h x

-- the gate first placed for a definition: a latch's Dff, and for a cover an And of its inputs
abbrev pub placed : (Bytes → Signal) → Def → Gate
placed signal_of (latch l) = latch_gate signal_of l
placed signal_of (cover ns ls) = Comb AndN (map signal_of (cover_ins ns))

-- how many pins it has
abbrev pub placed_count : Def → ℕ
placed_count (latch l) = 3
placed_count (cover ns ls) = length ns - 1

-- the gates as built for definitions
abbrev pub built_gates : (Bytes → Signal) → List Def → List Gate
built_gates signal_of ds = gates_for signal_of (map block_of ds)

-- the working cells have room for what is counted of the definitions (refusal 6), and for the gates placed first
pub record WorkRoom (gates pins_in : List ℕ) : Type 0 where
  -- "4,096 gate cells and as many working ones"
  pub gate_room : max_gates * gate_width ≤ length gates
  -- "16,384 for pins"
  pub pin_room : max_pins ≤ length pins_in
