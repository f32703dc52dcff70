-- What the functions of a run ask of their slices. Assumes nothing: these are definitions.
use Rattle.std.specs.Prelude.{◌≡◌, Bool, true, false, ℕ, suc, ◌+◌, ◌*◌, ◌^◌, ◌≤◌, ◌<◌, length, get_or}
use mathlib.Core.List.{List, Memᴰ}
use Rattle.lists.specs.Lists.{Bytes, all}
use Rattle.signal.specs.Signal.{Const}
use Rattle.signal.specs.Cell.{node_of}
use Rattle.gates.specs.Gate.{is_plain}
use Rattle.gates.specs.Forms.{flop_number}
use Rattle.network.specs.Net.{sorted_from}
use Rattle.network.specs.Cells.{cell_gates, valid_node}
use Rattle.network.specs.Record.{form_at}
use Rattle.network.specs.Between.Record.{RecordIn, HasRun}
use Rattle.network.specs.Between.Cells.{GateCells, NetCells}
use Rattle.gate_bits.specs.Between.Slots.{slot_count, Shows}
use Rattle.run_rows.specs.Between.Steps.{TableLaid, LaidOut}

-- ---- a network

-- the cells hold n gates that are sorted, of which each flip-flop is plain, and outputs that are valid
pub record Runnable (inputs n : ℕ) (cells ps outs : List ℕ) : Type 0 where
  -- the gates
  pub gates : NetCells inputs n cells ps
  -- "every gate input of a combinational gate has a lower number"
  pub sorted : sorted_from 0 (cell_gates cells ps 0 n) ≡ true
  -- no flip-flop "has another enable or reset"
  pub plain : all is_plain (cell_gates cells ps 0 n) ≡ true
  -- each output's cell is a 32-bit number
  pub words : (c : ℕ) → Memᴰ c outs → c < 2 ^ 32
  -- and a valid signal
  pub valid : (c : ℕ) → Memᴰ c outs → valid_node inputs n (node_of c) ≡ true

-- ---- before the clocks

-- gate g can be laid out
pub record TableRoom (cells ps : List ℕ) (g : ℕ) (slots tables : List ℕ) : Type 0 where
  -- its record and its run are there
  pub has : HasRun cells ps g
  -- six slots for it
  pub slot : g * 6 + 6 ≤ length slots
  -- and a table
  pub table : g < length tables

-- n records, and a cell for each in the list of flip-flops
pub record ListRoom (cells : List ℕ) (n : ℕ) (flops : List ℕ) : Type 0 where
  -- "1,024 gates"
  pub few : n ≤ 1024
  -- each record
  pub records : (g : ℕ) → g < n → RecordIn cells g
  -- a cell for each
  pub room : n ≤ length flops

-- n records, and the bits of the constant and of these gates can be put
pub record StartRoom (cells : List ℕ) (n : ℕ) (bits : List Bool) : Type 0 where
  -- "1,024 gates"
  pub few : n ≤ 1024
  -- each record
  pub records : (g : ℕ) → g < n → RecordIn cells g
  -- as many slots as a table has
  pub size : length bits ≡ slot_count

-- ---- a clock

-- a line that can be a row: an LF at least, and a character for each of 256 inputs at most
pub record RowRoom (line : Bytes) : Type 0 where
  -- an LF at least
  pub some_byte : 0 < length line
  -- "256 inputs"
  pub few : length line ≤ 257

-- combinational gate g's bit can be worked out from a table of bits
pub record BitReady (cells ps : List ℕ) (g : ℕ) (slots tables : List ℕ) (bits : List Bool) : Type 0 where
  -- the number of inputs
  pub inputs : ℕ
  -- the number of gates
  pub n : ℕ
  -- the gate is in the cells
  pub gate : GateCells inputs n cells ps g
  -- it is no flip-flop
  pub comb : form_at cells g ≡ flop_number → ⊥
  -- it is laid out
  pub laid : TableLaid cells ps slots tables g
  -- its slots
  pub slot : g * 6 + 6 ≤ length slots
  -- its table
  pub table : g < length tables
  -- as many slots as a table has
  pub size : length bits ≡ slot_count
  -- the constant's bit
  pub const : Shows bits Const false

-- the gates' bits can be worked out in order
pub record Workable (cells ps slots tables : List ℕ) (bits : List Bool) : Type 0 where
  -- the number of inputs
  pub inputs : ℕ
  -- the gates are in the cells
  pub gates : NetCells inputs (length tables) cells ps
  -- in order
  pub sorted : sorted_from 0 (cell_gates cells ps 0 (length tables)) ≡ true
  -- laid out
  pub laid : LaidOut cells ps (length tables) slots tables
  -- with slots for all
  pub room : length tables * 6 ≤ length slots
  -- as many slots as a table has
  pub size : length bits ≡ slot_count
  -- the constant's bit
  pub const : Shows bits Const false

-- the outputs' bits can be written as a line
pub record LineRoom (outs : List ℕ) (bits : List Bool) (line : Bytes) : Type 0 where
  -- as many slots as a table has
  pub size : length bits ≡ slot_count
  -- a byte for each output and an LF
  pub room : length line ≡ suc (length outs)

-- each flip-flop's first slot is one of the table's, and it has a place
pub record TakeRoom (flops slots : List ℕ) (bits next : List Bool) : Type 0 where
  -- its first slot is there
  pub within : (i : ℕ) → i < length flops → get_or flops i 0 * 6 < length slots
  -- and one of the table's
  pub low : (i : ℕ) → i < length flops → get_or slots (get_or flops i 0 * 6) 0 < length bits
  -- a place for each
  pub room : length flops ≤ length next

-- each flip-flop has a slot and a place
pub record PutRoom (flops : List ℕ) (next bits : List Bool) : Type 0 where
  -- "1,024 gates"
  pub low : (i : ℕ) → i < length flops → get_or flops i 0 < 1024
  -- a place for each
  pub room : length flops ≤ length next
  -- as many slots as a table has
  pub size : length bits ≡ slot_count

-- ---- all clocks

-- whole rows, and a line for the outputs of each
pub record WholeRows (inputs : ℕ) (outs : List ℕ) (rows out : Bytes) : Type 0 where
  -- how many rows
  pub count : ℕ
  -- "a character for each input and an LF"
  pub whole : length rows ≡ count * suc inputs
  -- a line for each
  pub room : length out ≡ count * suc (length outs)
