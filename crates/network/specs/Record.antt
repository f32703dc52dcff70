-- A gate's record in lent cells and its run of pins. How a record is laid out is said here, and beside it in between/Record where the
-- first pin is changed; no other crate's definitions say it. Assumes nothing: these are definitions.
--   gate_width, record_cells        the cells of a record, how many and which
--   record_of at x                 the record of the gate x whose pins start at cell `at`
--   form_at, .., start_at           the parts of gate g's record
--   gate_at, gate_cells, pin_cells   from cells to gates, and back
use Rattle.std.specs.Prelude.{Bool, ◌&&◌, cond, List, [], ◌∷◌, ◌++◌, map, ℕ, suc, ◌+◌, ◌*◌, leb, length, get_or, take, drop}
use Rattle.std.proofs.Math.Option.{Option, none}
use Rattle.signal.specs.Cell.{sig_cell, sig_of}
use Rattle.gates.specs.Gate.{Gate, pins}
use Rattle.gates.specs.Forms.{form_cell, start_cell, gate_from}

-- the cells of a gate's record
abbrev pub gate_width : ℕ
gate_width = 4

-- the cells of a record: "form number, first pin, pin count"; "Each gate's record gains a fourth cell, a flip-flop's start value" (document
-- 02, CR 4)
abbrev pub record_cells : ℕ → ℕ → ℕ → ℕ → List ℕ
record_cells form first count start = form ∷ first ∷ count ∷ start ∷ []

-- a gate's record, its pins starting at cell `at`
unfoldable pub record_of : ℕ → Gate → List ℕ
record_of at x = record_cells (form_cell x) at (length (pins x)) (start_cell x)

-- gate g's form number
abbrev pub form_at : List ℕ → ℕ → ℕ
form_at cells g = get_or cells (g * gate_width) 0

-- gate g's first pin
abbrev pub first_at : List ℕ → ℕ → ℕ
first_at cells g = get_or cells (g * gate_width + 1) 0

-- gate g's pin count
abbrev pub count_at : List ℕ → ℕ → ℕ
count_at cells g = get_or cells (g * gate_width + 2) 0

-- gate g's start value
abbrev pub start_at : List ℕ → ℕ → ℕ
start_at cells g = get_or cells (g * gate_width + 3) 0

-- gate g's run of pins
abbrev pub run_at : List ℕ → List ℕ → ℕ → List ℕ
run_at cells pin_cells g = take (count_at cells g) (drop (first_at cells g) pin_cells)

-- gate g's record is within the cells, and its run within the pins
abbrev pub has_run : List ℕ → List ℕ → ℕ → Bool
has_run cells pin_cells g = leb (suc g * gate_width) (length cells) && leb (first_at cells g + count_at cells g) (length pin_cells)

-- gate g of the cells; none where its record or its run is not within them, the form is unknown, or it cannot have so many pins or this start
-- value
unfoldable pub gate_at : List ℕ → List ℕ → ℕ → Option Gate
gate_at cells pin_cells g = cond (has_run cells pin_cells g) (gate_from (form_at cells g) (start_at cells g) (map sig_of (run_at cells pin_cells g))) none

-- the records of gates, one after the other, the first one's pins starting at cell `at`
unfoldable pub gate_cells : ℕ → List Gate → List ℕ
gate_cells at [] = []
gate_cells at (x ∷ xs) = record_of at x ++ gate_cells (at + length (pins x)) xs

-- the gates' inputs, "laid in gate order"
unfoldable pub pin_cells : List Gate → List ℕ
pin_cells [] = []
pin_cells (x ∷ xs) = map sig_cell (pins x) ++ pin_cells xs
