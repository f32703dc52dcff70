-- Beside specs/Cells: what contracts between the crates and proofs use, and no promise reaches.
-- Assumes nothing: these are definitions.
use Rattle.std.specs.Prelude.{◌≡◌, true, ℕ, ◌*◌, ◌^◌, ◌≤◌, ◌<◌, length, take}
use mathlib.Core.List.{List, map, Memᴰ}
use Rattle.std.proofs.Math.Option.{some}
use Rattle.signal.specs.Cell.{sig_cell, node_of, sig_of}
use Rattle.gates.specs.Gate.{Gate, pins}
use Rattle.gates.specs.Forms.{form_cell, start_cell, formed}
use Rattle.network.specs.Net.{Net}
use Rattle.network.specs.Sizes.{max_inputs, max_gates}
use Rattle.network.specs.Record.{gate_width, form_at, count_at, start_at, run_at, gate_at, gate_cells, pin_cells}
use Rattle.network.specs.Cells.{Lent, valid_node, counts_of}
use Rattle.network.specs.Between.Record.{HasRun}

-- ---- a lent network

-- the cells in use are those of the network
pub record Laid (net : Net) (l : Lent) : Type 0 where
  -- the counts are the network's
  pub counted : l.counts ≡ counts_of net
  -- the records in use
  pub gates_laid : take (length net.gates * gate_width) l.cells ≡ gate_cells 0 net.gates
  -- the pins in use
  pub pins_laid : take (length (pin_cells net.gates)) l.pins_lent ≡ pin_cells net.gates
  -- the outputs in use
  pub outs_laid : take (length net.outputs) l.outs_lent ≡ map sig_cell net.outputs

-- ---- the gates of a network in cells

-- so few inputs and gates that half of a cell's number, and half of its complement's, tell them apart
pub record FewNodes (inputs gates : ℕ) : Type 0 where
  -- "256 inputs"
  pub few_inputs : inputs ≤ max_inputs
  -- "1,024 gates"
  pub few_gates : gates ≤ max_gates

-- gate g of n, with so many inputs, as the cells of a network have it
pub record GateCells (inputs n : ℕ) (cells ps : List ℕ) (g : ℕ) : Type 0 where
  -- the gate
  pub gate : Gate
  -- its record and its run of pins are there
  pub has : HasRun cells ps g
  -- they hold it
  pub is : gate_at cells ps g ≡ some gate
  -- its form's number
  pub form : form_at cells g ≡ form_cell gate
  -- its start value
  pub start : start_at cells g ≡ start_cell gate
  -- its inputs are the run's
  pub run : pins gate ≡ map sig_of (run_at cells ps g)
  -- as many as the record says
  pub count : length (pins gate) ≡ count_at cells g
  -- and as its form can have
  pub good : formed gate ≡ true
  -- each cell of the run is a 32-bit number
  pub words : (c : ℕ) → Memᴰ c (run_at cells ps g) → c < 2 ^ 32
  -- and a valid signal
  pub valid : (c : ℕ) → Memᴰ c (run_at cells ps g) → valid_node inputs n (node_of c) ≡ true

-- n gates in cells, with so many inputs, as the cells of a network have them
pub record NetCells (inputs n : ℕ) (cells ps : List ℕ) : Type 0 where
  -- "256 inputs"
  pub few_inputs : inputs ≤ max_inputs
  -- "1,024 gates"
  pub few_gates : n ≤ max_gates
  -- each gate
  pub each : (g : ℕ) → g < n → GateCells inputs n cells ps g
