-- What the functions of a run leave behind (document 01, "A clock"). Assumes nothing: these are definitions.
--   LaidOut          each gate's truth table and slots are laid out
--   Flops            the list of the flip-flops
--   Shown, Held      the table of bits has those of a row and of some gates; of the flip-flops alone, before a row
--   Started          it has the start values, before the first clock
--   RowSettled       what a row and the gates worked out for it leave
--   Stepped          what a step of the flip-flops leaves
--   Clocked          what a clock for each row leaves
--   RunRefused       what a refusal leaves
use Rattle.std.specs.Prelude.{◌≡◌, Bool, true, false, List, [], ℕ, ◌+◌, ◌-◌, ◌*◌, ◌≤◌, ◌<◌, eqb, length, get_or, Result, Err}
use Rattle.std.proofs.Math.Option.{Option, none, some}
use Rattle.lists.specs.Lists.{Bytes, zeros}
use Rattle.refusals.specs.declared.Refusal.{Refusal}
use Rattle.signal.specs.Signal.{Const, Input, Var}
use Rattle.gates.specs.Gate.{Gate, Comb, Dff, form_bit}
use Rattle.gates.specs.Forms.{flop_number}
use Rattle.gates.specs.Between.Forms.{kind_of}
use Rattle.network.specs.Net.{Net}
use Rattle.network.specs.Settle.{settle, run_from}
use Rattle.network.specs.Cells.{cell_net}
use Rattle.network.specs.Record.{form_at, start_at, run_at}
use Rattle.network.specs.Between.Cells.{NetCells}
use Rattle.gate_bits.specs.Between.Slots.{slot_count, slot_or, Shows}
use Rattle.gate_bits.specs.Between.Tables.{kind_table, kind_pad}
use Rattle.run_rows.specs.Rows.{row_of, rows_text}

-- ---- what is laid out before the clocks

-- gate g's truth table and the slots of its first six pins
pub record TableLaid (cells ps slots tables : List ℕ) (g : ℕ) : Type 0 where
  -- the table of its form
  pub table : get_or tables g 0 ≡ kind_table (kind_of (form_at cells g))
  -- a slot for each of six pins
  pub slot : (i : ℕ) → i < 6 → get_or slots (g * 6 + i) 0 ≡ slot_or (run_at cells ps g) (kind_pad (kind_of (form_at cells g))) i

-- laying out gate g leaves those before it as they were
pub record LaidOne (cells ps : List ℕ) (g : ℕ) (slots tables slots' tables' : List ℕ) : Type 0 where
  -- gate g is laid out
  pub laid : TableLaid cells ps slots' tables' g
  -- those before it still are
  pub kept : (h : ℕ) → h < g → TableLaid cells ps slots tables h → TableLaid cells ps slots' tables' h
  -- as many slots
  pub slots_long : length slots' ≡ length slots
  -- as many tables
  pub tables_long : length tables' ≡ length tables

-- n gates are laid out
pub record LaidOut (cells ps : List ℕ) (n : ℕ) (slots tables : List ℕ) : Type 0 where
  -- each of them
  pub each : (g : ℕ) → g < n → TableLaid cells ps slots tables g

-- gate g is a flip-flop, of n gates
pub record IsFlop (cells : List ℕ) (n g : ℕ) : Type 0 where
  -- one of the gates
  pub below : g < n
  -- by its form
  pub form : form_at cells g ≡ flop_number

-- the first k cells list the flip-flops among n gates
pub record Flops (cells : List ℕ) (n : ℕ) (flops : List ℕ) (k : ℕ) : Type 0 where
  -- no more than there are gates
  pub few : k ≤ n
  -- each is one
  pub flop : (i : ℕ) → i < k → IsFlop cells n (get_or flops i 0)
  -- and each that is one is listed
  pub listed : (g : ℕ) → IsFlop cells n g → (i : ℕ) × (i < k) × (get_or flops i 0 ≡ g)

-- ---- the table of bits

-- the table has the row's bits, and val's for the gates in K
pub record Shown (row : List Bool) (val : ℕ → Bool) (K : ℕ → Type 0) (bits : List Bool) : Type 0 where
  -- as many slots as a table has
  pub size : length bits ≡ slot_count
  -- the constant's bit
  pub const : Shows bits Const false
  -- each input has a slot
  pub few_inputs : length row ≤ 256
  -- an input's bit is the row's
  pub inputs : (i : ℕ) → i < length row → Shows bits (Input i) (get_or row i false)
  -- each gate has a slot
  pub few_gates : (g : ℕ) → K g → g < 1024
  -- a gate's bit
  pub gates : (g : ℕ) → K g → Shows bits (Var g) (val g)

-- before a row: the flip-flops' held bits
abbrev pub Held : List ℕ → ℕ → (ℕ → Bool) → List Bool → Type 0
Held cells n held bits = Shown [] held (IsFlop cells n) bits

-- before the first clock
pub record Started (cells : List ℕ) (n : ℕ) (bits : List Bool) : Type 0 where
  -- the constant's bit at zero, and each of n gates' at its start value
  pub shown : Shown [] (λ g. eqb (start_at cells g) 1) (λ g. g < n) bits

-- r tells whether the line is a row; if so, the table has its bits
abbrev pub RowTaken : Option (List Bool) → List Bool → Bool → Type 0
RowTaken none bits r = r ≡ false
RowTaken (some row) bits r = (r ≡ true) × ((i : ℕ) → i < length row → Shows bits (Input i) (get_or row i false))

-- what reading a line leaves
pub record RowRead (line : Bytes) (bits bits' : List Bool) (r : Bool) : Type 0 where
  -- the row's bits
  pub taken : RowTaken (row_of (length line - 1) line) bits' r
  -- a table as before
  pub size : length bits' ≡ length bits
  -- the constant's bit
  pub const : {b : Bool} → Shows bits Const b → Shows bits' Const b
  -- the gates' bits
  pub gates : (g : ℕ) {b : Bool} → g < 1024 → Shows bits (Var g) b → Shows bits' (Var g) b

-- what a combinational gate makes of its inputs' bits
abbrev pub comb_bit : Gate → List Bool → Bool
comb_bit (Comb f ps) bs = form_bit f bs
comb_bit (Dff ff) bs = false

-- what working out the gates leaves, from the flip-flops' bits and a row's: every gate's bit, of a network of these gates
pub record WorkedOut (cells ps : List ℕ) (n : ℕ) (bits bits' : List Bool) : Type 0 where
  -- a table as before
  pub size : length bits' ≡ length bits
  -- whatever the row and the held bits are, and the network's inputs and outputs
  pub each : (row : List Bool) (held : ℕ → Bool) (inputs : ℕ) (outs : List ℕ) → NetCells (length row) n cells ps
      → Shown row held (IsFlop cells n) bits → Shown row (settle (cell_net inputs cells ps n outs) row held) (λ g. g < n) bits'

-- r tells whether there is a row; if so, the gates' bits are those of a clock with this row, from whatever was held
abbrev pub SettledFor : List ℕ → List ℕ → ℕ → Option (List Bool) → List Bool → List Bool → Bool → Type 0
SettledFor cells ps n none bits bits' r = r ≡ false
SettledFor cells ps n (some row) bits bits' r =
    (r ≡ true)
    × ((held : ℕ → Bool) (inputs : ℕ) (outs : List ℕ) → NetCells (length row) n cells ps
    → Held cells n held bits → Shown row (settle (cell_net inputs cells ps n outs) row held) (λ g. g < n) bits')

-- what a line and the gates worked out for it leave
pub record RowSettled (cells ps : List ℕ) (n : ℕ) (line : Bytes) (bits bits' : List Bool) (r : Bool) : Type 0 where
  -- by the row that the line is
  pub told : SettledFor cells ps n (row_of (length line - 1) line) bits bits' r

-- ---- a step

-- the bit of a flip-flop's first pin
abbrev pub data_bit : List ℕ → List Bool → ℕ → Bool
data_bit slots bits g = get_or bits (get_or slots (g * 6) 0) false

-- the bit of each flip-flop's first pin is in its place
pub record DataTaken (flops slots : List ℕ) (bits next : List Bool) : Type 0 where
  -- each
  pub each : (i : ℕ) → i < length flops → get_or next i false ≡ data_bit slots bits (get_or flops i 0)

-- the table has the bits in the flip-flops' places
pub record HeldPut (flops : List ℕ) (next bits bits' : List Bool) : Type 0 where
  -- whatever bits these are
  pub each : (cells : List ℕ) (n : ℕ) (val : ℕ → Bool) → n ≤ 1024 → Flops cells n flops (length flops) → Shows bits Const false
      → ((i : ℕ) → i < length flops → get_or next i false ≡ val (get_or flops i 0)) → Held cells n val bits'

-- "then all flip-flops step together": each holds the bit that its first pin had before the step
pub record Stepped (flops slots : List ℕ) (bits bits' : List Bool) : Type 0 where
  -- whatever bits these are
  pub each : (cells : List ℕ) (n : ℕ) (val : ℕ → Bool) → n ≤ 1024 → Flops cells n flops (length flops) → Shows bits Const false
      → ((g : ℕ) → IsFlop cells n g → data_bit slots bits g ≡ val g) → Held cells n val bits'

-- ---- clocks

-- a clock for each row, from these held bits; r tells whether the text has rows and no other lines
abbrev pub Clocked : Net → Option (List (List Bool)) → (ℕ → Bool) → Bytes → Bool → Type 0
Clocked net none held out r = r ≡ false
Clocked net (some rows) held out r = (r ≡ true) × (out ≡ rows_text (run_from net held rows))

-- a refusal, and zeros in the n bytes of the output rows
pub record RunRefused (k : Refusal) (n : ℕ) (a : Result ℕ Refusal) (out : Bytes) : Type 0 where
  -- the refusal is answered
  pub answer : a ≡ Err k
  -- "A refusal zeroes the output rows"
  pub bytes : out ≡ zeros n
