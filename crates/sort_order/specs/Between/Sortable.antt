-- What the sort asks of lent cells. Assumes nothing: these are definitions.
use Rattle.std.specs.Prelude.{◌≡◌, ℕ, ◌*◌, ◌≤◌, ◌<◌, length}
use Rattle.std.proofs.Math.Option.{some}
use Rattle.gates.specs.Gate.{Gate}
use Rattle.network.specs.Net.{Valid}
use Rattle.network.specs.Cells.{Lent, net_of}
use Rattle.network.specs.Sizes.{max_gates, max_pins}
use Rattle.network.specs.Record.{gate_at, gate_width, pin_cells}

-- what the sort asks of the cells: each gate can be read, wherever its run stands, the signals are valid, and the new cells have room
pub record Sortable (l : Lent) (new_gates new_pins : ℕ) : Type 0 where
  -- "1,024 gates"
  pub few : l.counts.gates ≤ max_gates
  -- each gate can be read
  pub readable : (g : ℕ) → g < l.counts.gates → (x : Gate) × (gate_at l.cells l.pins_lent g ≡ some x)
  -- every signal is valid
  pub valid : Valid (net_of l)
  -- the outputs are among those lent
  pub outputs : l.counts.outputs ≤ length l.outs_lent
  -- "16,384 pins"
  pub few_pins : length (pin_cells (net_of l).gates) ≤ max_pins
  -- the new gate cells have room
  pub room : l.counts.gates * gate_width ≤ new_gates
  -- and so have the new pin cells
  pub pin_room : length (pin_cells (net_of l).gates) ≤ new_pins
