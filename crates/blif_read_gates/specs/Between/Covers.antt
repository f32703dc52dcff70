-- The gates of covers, built in the working cells (document 01, src/io/blif.rs: `build_network`). Assumes nothing: these are definitions.
use Rattle.refusals.specs.Order.{fine}
use Rattle.std.specs.Prelude.{◌≡◌, List, map, ℕ, ◌+◌, ◌≤◌, length}
use Rattle.lists.specs.Lists.{Bytes, sum_of}
use Rattle.signal.specs.Signal.{Signal}
use Rattle.network.specs.Sizes.{max_gates, max_pins}
use Rattle.blif_text.specs.Decls.{Def}
use Rattle.blif_reading.specs.Read.{gate_count, pin_count, cover_faults}
use Rattle.blif_reading.specs.Between.Working.{GatesIn, placed, placed_count, built_gates, WorkRoom}
use Rattle.blif_read_gates.specs.declared.Built.{Built}
use Rattle.blif_read_gates.specs.Between.Pins.{built_pins}

-- what building asks: the gates placed first, covers with good lines, and sizes within their limits
pub record Buildable (ds : List Def) (gates pins_in : List ℕ) (used : ℕ) : Type 0 where
  -- the working cells
  pub room : WorkRoom gates pins_in
  -- "1,024 gates"
  pub few_gates : sum_of gate_count ds ≤ max_gates
  -- "16,384 pins"
  pub few_pins : sum_of pin_count ds ≤ max_pins
  -- no refusal 12 or 13
  pub good : cover_faults ds ≡ fine
  -- the pins of the gates placed first are in use
  pub start : used ≡ sum_of placed_count ds
  -- and those gates stand in the cells
  pub first : (signal_of : Bytes → Signal) × GatesIn gates pins_in used (map (placed signal_of) ds)

-- the gates built stand in the cells
pub record BuiltBy (ds : List Def) (gates pins_in : List ℕ) (used : ℕ) (gates' pins_in' : List ℕ) (r : Built) : Type 0 where
  -- the gates are counted
  pub counted : (signal_of : Bytes → Signal) → r.gates ≡ length (built_gates signal_of ds)
  -- and the pins in use: those of the gates placed first, and those that building adds
  pub pins : r.pins ≡ used + sum_of built_pins ds
  -- "1,024 gates"
  pub few_gates : r.gates ≤ max_gates
  -- "16,384 pins"
  pub few_pins : r.pins ≤ max_pins
  -- whatever signals the names have
  pub gates-in : (signal_of : Bytes → Signal) → GatesIn gates pins_in used (map (placed signal_of) ds) → GatesIn gates' pins_in' r.pins (built_gates signal_of ds)
