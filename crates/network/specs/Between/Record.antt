-- Beside specs/Record: what contracts between the crates and proofs use, and no promise reaches.
-- Assumes nothing: these are definitions.
use Rattle.std.specs.Prelude.{◌≡◌, cond, List, [], ◌∷◌, ℕ, suc, ◌+◌, ◌*◌, ◌^◌, ◌<◌, ◌≤◌, length, take, drop, None}
use Rattle.lists.specs.Between.Lists.{overwrite_at}
use Rattle.signal.specs.Cell.{bit_of}
use Rattle.gates.specs.Between.Forms.{kind_of, kind_number}
use Rattle.gates.specs.Between.Decode.{pins_in, pin_count, kind_of_gate, start_in, with_pins}
use Rattle.gates.specs.declared.Gate as code
use Rattle.gates.specs.declared.Gate.TheVariants as G
use Rattle.network.specs.Sizes.{max_pins}
use Rattle.network.specs.Record.{gate_width, record_cells, form_at, first_at, count_at, start_at, run_at, has_run, pin_cells}
use Rattle.std.specs.declared.option.Option as std-option
use Rattle.gates.specs.declared.Gate.{Gate}

-- gate g's record
abbrev pub record_at : List ℕ → ℕ → List ℕ
record_at cells g = take gate_width (drop (g * gate_width) cells)

-- a gate's record where its pins are moved to start at cell `at`
abbrev pub with_first : ℕ → List ℕ → List ℕ
with_first at r = overwrite_at 1 (at ∷ []) r

-- the same as the code's `Gate`, a Nary gate with the run that its record has: the first pin of a run without pins is the record's too
unfoldable pub decoded_at : List ℕ → List ℕ → ℕ → std-option.Option Gate
decoded_at cells pin_cells g = cond (has_run cells pin_cells g) (with_pins (kind_of (form_at cells g)) (first_at cells g) (start_at cells g) (run_at cells pin_cells g)) None

-- ---- what functions tell each other of records

-- r is the cell x, a 32-bit number
pub record CellIs (x r : ℕ) : Type 0 where
  -- the number is the cell
  pub cell : r ≡ x
  -- and below 2^32
  pub low : r < 2 ^ 32

-- gate g's record is within the cells
pub record RecordIn (cells : List ℕ) (g : ℕ) : Type 0 where
  -- as many cells as it and those before it have
  pub within : suc g * gate_width ≤ length cells

-- a gate's record and its run of pins are there
pub record HasRun (gates pins : List ℕ) (g : ℕ) : Type 0 where
  -- the record is within the cells
  pub cells : RecordIn gates g
  -- the run is within the pins
  pub within : first_at gates g + count_at gates g ≤ length pins

-- the record of a gate in hand, its pins starting at cell `at`
abbrev pub hand_record : ℕ → code.Gate → List ℕ
hand_record at x = record_cells (kind_number (kind_of_gate x)) at (pin_count x) (bit_of (start_in x))

-- a Nary gate's run starts at cell `at`
abbrev pub RunFrom : ℕ → code.Gate → Type 0
RunFrom at (G.Binary t a b) = Unit {0}
RunFrom at (G.Ternary t a b c) = Unit {0}
RunFrom at (G.Nary t r) = r.first ≡ at
RunFrom at (G.Buf a) = Unit {0}
RunFrom at (G.Dff d e r v) = Unit {0}

-- a gate in hand can be laid as gate g, with its pins from cell `at` on
pub record LayRoom (x : code.Gate) (g at : ℕ) (gates pins_in : List ℕ) : Type 0 where
  -- its record is within the cells
  pub record-in : RecordIn gates g
  -- its pins are within theirs
  pub room : at + pin_count x ≤ length pins_in
  -- and within "16,384 pins"
  pub few : at + pin_count x ≤ max_pins
  -- a run stands where its pins are wanted
  pub from : RunFrom at x

-- what laying a gate in hand leaves in the cells, with the cell behind its pins
pub record GateLaid (x : code.Gate) (g at : ℕ) (gates pins_before gates' pins' : List ℕ) (r : ℕ) : Type 0 where
  -- its record
  pub records : gates' ≡ overwrite_at (g * gate_width) (hand_record at x) gates
  -- its pins
  pub runs : pins' ≡ overwrite_at at (pins_in x pins_before) pins_before
  -- the cell behind them
  pub end : r ≡ at + pin_count x
