-- What `read_blif` answers and leaves in the lent cells (document 01, "Reading refuses, in order"). Assumes nothing: these are
-- definitions.
use Rattle.std.specs.Prelude.{Bool, ◌&&◌, List, [], map, ℕ, ◌*◌, leb, if◌then◌else◌, Result, Ok, Err}
use Rattle.lists.specs.Lists.{Bytes, zeros, overwrite}
use Rattle.refusals.specs.declared.Refusal.TheVariants as refusal
use Rattle.signal.specs.Cell.{sig_cell}
use Rattle.network.specs.Cells.{counts_of}
use Rattle.network.specs.Sizes.{max_gates, max_pins, max_outputs}
use Rattle.network.specs.Record.{gate_width, gate_cells, pin_cells}
use Rattle.blif_reading.specs.Read.{read_text}
use Rattle.network.specs.Net.{Net}
use Rattle.refusals.specs.declared.Refusal.{Refusal}
use Rattle.network.specs.declared.Counts.{Counts}

-- the lengths of the five lent slices
pub record Lengths : Type 0 where
  -- the gates'
  pub gates : ℕ
  -- the pins'
  pub pins : ℕ
  -- the outputs'
  pub outputs : ℕ
  -- the working gates'
  pub work_gates : ℕ
  -- the working pins'
  pub work_pins : ℕ

-- the same, from its parts
abbrev pub lengths : ℕ → ℕ → ℕ → ℕ → ℕ → Lengths
lengths g p o wg wp = record { gates = g; pins = p; outputs = o; work_gates = wg; work_pins = wp }

-- "1 when fewer 32-bit cells are lent than .. for gates .., 16,384 for pins and 256 for outputs, or than .. and 16,384 again as
-- working cells"; "Refusal 1 then asks for 4,096 gate cells and as many working ones" (document 02, CR 4)
unfoldable pub enough : Lengths → Bool
enough n =
    leb (max_gates * gate_width) n.gates && leb max_pins n.pins && leb max_outputs n.outputs
    && leb (max_gates * gate_width) n.work_gates && leb max_pins n.work_pins

-- an answer, and what the five slices hold then
pub record ReadOutcome : Type 0 where
  -- what was answered: the counts, or a refusal
  pub answer : Result Counts Refusal
  -- the gates' cells
  pub gates : List ℕ
  -- the pins' cells
  pub pins : List ℕ
  -- the outputs' cells
  pub outputs : List ℕ
  -- the working gates' cells
  pub work_gates : List ℕ
  -- the working pins' cells
  pub work_pins : List ℕ

-- the same, from its parts
abbrev pub read_outcome : Result Counts Refusal → List ℕ → List ℕ → List ℕ → List ℕ → List ℕ → ReadOutcome
read_outcome a gs ps os wgs wps = record { answer = a; gates = gs; pins = ps; outputs = os; work_gates = wgs; work_pins = wps }

-- an answer with the cells of gates, pins and outputs, "cells beyond them and working cells are zero"
abbrev pub leaving : Result Counts Refusal → List ℕ → List ℕ → List ℕ → Lengths → ReadOutcome
leaving a gs ps os n =
    read_outcome a (overwrite gs (zeros n.gates)) (overwrite ps (zeros n.pins)) (overwrite os (zeros n.outputs)) (zeros n.work_gates) (zeros n.work_pins)

-- "A refusal gives its number; all lent cells are then zero. Success gives the input, gate, pin and output counts .. Pins here are the
-- sorted gates' inputs, laid in gate order"
abbrev pub filled : Result Net Refusal → Lengths → ReadOutcome
filled (Err r) n = leaving (Err r) [] [] [] n
filled (Ok net) n = leaving (Ok (counts_of net)) (gate_cells 0 net.gates) (pin_cells net.gates) (map sig_cell net.outputs) n

-- the result for slices of these lengths: refusal 1 comes first
abbrev pub answered : Bytes → Lengths → Result Net Refusal
answered text n = if enough n then read_text text else Err refusal.TooFewCells

-- what reading a text answers and leaves in lent slices of these lengths
unfoldable pub read_into : Bytes → Lengths → ReadOutcome
read_into text n = filled (answered text n) n
