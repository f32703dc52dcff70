-- The bits of a clock in a table by signal (document 01, "A clock"; src/network/signal.rs: "Gate v is 2 × (v + 1)", "Input v is 2^32 − 2 ×
-- (v + 1)"). The low twelve bits of a signal tell it from every other of 1,024 gates and 256 inputs. Assumes nothing: these are definitions.
--   slot_of c      the slot of a cell's signal
--   bit_at         its bit in a table
--   node_slot n    the slot of a node's signal, not inverted
--   HasSlot n     the node is one of those that have a slot
--   Shows         a table has a node's bit, and the other one for the node inverted
--   run_slots      the slots of a run of pins, filled up
use Rattle.std.specs.Prelude.{◌≡◌, Bool, false, not, List, map, ℕ, suc, ◌+◌, ◌-◌, ◌*◌, ◌%◌, ◌<◌, length, get_or}
use Rattle.lists.specs.Lists.{range}
use Rattle.signal.specs.Signal.{Node, Const, Input, Var}

-- the slots of a table
abbrev pub slot_count : ℕ
slot_count = 4096

-- the slot of a cell's signal
abbrev pub slot_of : ℕ → ℕ
slot_of c = c % slot_count

-- a signal's bit
abbrev pub bit_at : List Bool → ℕ → Bool
bit_at bits c = get_or bits (slot_of c) false

-- the bits of a run of pins
abbrev pub pin_bits : List Bool → List ℕ → List Bool
pin_bits bits run = map (bit_at bits) run

-- the slot of a node's signal; the next one is that of the signal inverted
abbrev pub node_slot : Node → ℕ
node_slot Const = 0
node_slot (Var v) = 2 * (v + 1)
node_slot (Input v) = slot_count - 2 * (v + 1)

-- the node has a slot: it is the constant, one of 256 inputs or one of 1,024 gates
abbrev pub HasSlot : Node → Type 0
HasSlot Const = Unit {0}
HasSlot (Input i) = i < 256
HasSlot (Var g) = g < 1024

-- the table has this bit for the node, and the other one for the node inverted
pub record Shows (bits : List Bool) (n : Node) (b : Bool) : Type 0 where
  -- the node's bit
  pub plain : get_or bits (node_slot n) false ≡ b
  -- "Inversion turns a bit over"
  pub inverse : get_or bits (suc (node_slot n)) false ≡ not b

-- ---- slots laid out before the clocks

-- the slot of pin i, or else the other
abbrev pub slot_or : List ℕ → ℕ → ℕ → ℕ
slot_or run pad i = get_or (map slot_of run) i pad

-- the slots of the first n pins, with the pad for those that are not there
abbrev pub run_slots : List ℕ → ℕ → ℕ → List ℕ
run_slots run pad n = map (slot_or run pad) (range 0 n)

-- the bits in these slots
abbrev pub bits_in : List Bool → List ℕ → List Bool
bits_in bits slots = map (λ s. get_or bits s false) slots

-- six slots of the table
pub record SixSlots (slots : List ℕ) (bits : List Bool) : Type 0 where
  -- six
  pub six : length slots ≡ 6
  -- each is one of the table's
  pub within : (i : ℕ) → i < 6 → get_or slots i 0 < length bits
