-- The steps that build the gates of covers: literals, a line, the lines of a cover, a cover, a block (document 01, src/io/blif.rs:
-- `build_network`). Assumes nothing: these are definitions.
use Rattle.refusals.specs.Order.{fine}
use Rattle.std.specs.Prelude.{◌≡◌, Bool, true, cond, List, [], ◌∷◌, ◌++◌, map, ℕ, zero, suc, ◌+◌, ◌-◌, ◌*◌, ◌%◌, ◌≤◌, ◌<◌, eqb, length, take, drop}
use Rattle.std.proofs.Math.Option.{some}
use Rattle.std.proofs.Math.ListN.{get_elem?}
use Rattle.lists.specs.Lists.{Bytes, all, sum_of}
use Rattle.lists.specs.Between.Lists.{overwrite_at}
use Rattle.signal.specs.Signal.{Signal}
use Rattle.signal.specs.Cell.{bit_of, sig_cell}
use Rattle.gates.specs.Gate.{AndN, Gate, Comb}
use Rattle.network.specs.Sizes.{max_gates, max_pins}
use Rattle.gates.specs.declared.Gate as code
use Rattle.gates.specs.declared.Gate.TheVariants as G
use Rattle.gates.specs.declared.NaryType.TheVariants as N
use Rattle.network.specs.Record.{gate_width, first_at, count_at}
use Rattle.network.specs.Between.Record.{hand_record}
use Rattle.blif_text.specs.Decls.{Def, latch, cover}
use Rattle.blif_text.specs.Between.Places.{tokens_of}
use Rattle.blif_text.specs.Between.Walk.{rows_from, Inside, RowsAt}
use Rattle.blif_reading.specs.Build.{line_gate, cover_gate, line_gates, block_gate, new_gates}
use Rattle.blif_reading.specs.Read.{good_line, added, cover_fault}
use Rattle.blif_reading.specs.TextModel.{line_of, block_of}
use Rattle.blif_reading.specs.Between.Working.{GateIn, placed, placed_count, WorkRoom}
use Rattle.blif_read_gates.specs.Between.Pins.{line_pins, cover_pins, built_pins}

-- ---- cells of literals

-- the cell of the inverted signal: "true flips bit 0"
abbrev pub turn_cell : ℕ → ℕ
turn_cell c = cond (eqb (c % 2) 0) (c + 1) (c - 1)

-- the cells that a column adds: 0 the inverted source, 1 the source, "A dash adds no literal"
abbrev pub column_cells : ℕ → ℕ → List ℕ
column_cells b c = cond (eqb 48 b) (turn_cell c ∷ []) (cond (eqb 49 b) (c ∷ []) [])

-- the cells of a line's literals, of these columns and sources
abbrev pub literal_cells : Bytes → List ℕ → List ℕ
literal_cells [] cs = []
literal_cells (b ∷ bs) [] = []
literal_cells (b ∷ bs) (c ∷ cs) = column_cells b c ++ literal_cells bs cs

-- the same, with the sources from a pin on
abbrev pub literals_at : Bytes → ℕ → List ℕ → List ℕ
literals_at columns source pins_in = literal_cells columns (take (length columns) (drop source pins_in))

-- the pin of a line with fewer than two literals: "Buf of a single literal, Buf(one) of none; with output 0 it is .. Buf of the inverted
-- literal, Buf(zero)"
abbrev pub single_cell : Bool → ℕ → ℕ → ℕ
single_cell one zero c = bit_of one
single_cell one (suc m) c = cond one c (turn_cell c)

-- the pins of a line's gate, of its literals
abbrev pub line_cells : Bool → List ℕ → List ℕ
line_cells one [] = single_cell one 0 0 ∷ []
line_cells one (c ∷ []) = single_cell one 1 c ∷ []
line_cells one (c ∷ d ∷ cs) = c ∷ d ∷ cs

-- the gate of a line in hand, of its literals, which stand from pin `at` on: "A line with output 1 is Nary And of its literals, Buf of a
-- single literal, Buf(one) of none; with output 0 it is Nary Nand, Buf of the inverted literal, Buf(zero)"
abbrev pub line_in_hand : Bool → ℕ → List ℕ → code.Gate
line_in_hand one at [] = G.Buf (record { a = single_cell one 0 0 })
line_in_hand one at (c ∷ []) = G.Buf (record { a = single_cell one 1 c })
line_in_hand one at (c ∷ d ∷ cs) = G.Nary (cond one N.And N.Nand) (record { first = at; count = length (c ∷ d ∷ cs) })

-- the gate in hand that joins so many lines, whose gates' signals stand from pin `at` on: "Or for 1", And for 0
abbrev pub join_in_hand : Bool → ℕ → ℕ → code.Gate
join_in_hand one at count = G.Nary (cond one N.Or N.And) (record { first = at; count = count })

-- ---- one line

-- room for a line's gate and pins behind its sources
pub record LineRoom (width source at h : ℕ) (gates pins_in : List ℕ) : Type 0 where
  -- the working cells
  pub room : WorkRoom gates pins_in
  -- the sources stand before its pins
  pub sources : source + width ≤ at
  -- a pin for each column, or one
  pub fits : at + width + 1 ≤ max_pins
  -- a gate
  pub low : h < max_gates

-- the line's gate is put into record h, its pins from cell at on
pub record LinePut (columns : Bytes) (one : Bool) (source at h : ℕ) (gates pins_in gates' pins_in' : List ℕ) (r : ℕ) : Type 0 where
  -- the pins
  pub runs : pins_in' ≡ overwrite_at at (line_cells one (literals_at columns source pins_in)) pins_in
  -- the record
  pub records : gates' ≡ overwrite_at (h * gate_width) (hand_record at (line_in_hand one at (literals_at columns source pins_in))) gates
  -- the pins' end
  pub end : r ≡ at + length (line_cells one (literals_at columns source pins_in))

-- the cells are those of a good line of a cover with so many inputs
pub record GoodRow (text row : List ℕ) (inputs : ℕ) : Type 0 where
  -- a token is there
  pub low : 0 < length row
  -- the tokens are places within the text
  pub places : Inside text row (length row)
  -- no refusal 12
  pub good : good_line inputs (tokens_of text row) ≡ true

-- ---- the lines of a cover

-- the gates that `keep` tells stand as before, and so do the pins before cell at
pub record GatesKept (keep : ℕ → Type 0) (gates pins_in : List ℕ) (at : ℕ) (gates' pins_in' : List ℕ) (at' : ℕ) : Type 0 where
  -- pins are only added
  pub low : at ≤ at'
  -- those before stay
  pub front : take at pins_in' ≡ take at pins_in
  -- the gates of these records stay
  pub stay : (h : ℕ) (x : Gate) → keep h → GateIn gates pins_in at h x → GateIn gates' pins_in' at' h x

-- from a row on there are so many good lines of a cover with so many inputs
pub record GoodRows (text tokens : List ℕ) (n row count inputs : ℕ) : Type 0 where
  -- rows stand there
  pub rows : RowsAt text tokens n row
  -- as many as there are lines
  pub enough : count ≤ length (rows_from text tokens n row)
  -- no refusal 12
  pub good : all (good_line inputs) (take count (rows_from text tokens n row)) ≡ true

-- room for the gates of lines
pub record LinesRoom (inputs count source at next : ℕ) (gates pins_in : List ℕ) : Type 0 where
  -- the working cells
  pub room : WorkRoom gates pins_in
  -- the sources stand before the pins
  pub sources : source + inputs ≤ at
  -- pins for each line
  pub fits : at + count * (inputs + 1) ≤ max_pins
  -- a gate for each
  pub low : next + count ≤ max_gates

-- the gates of lines are put into the records from `next` on
pub record LinesPut (ls : List (List Bytes)) (inputs source at next : ℕ) (gates pins_in gates' pins_in' : List ℕ) (at' : ℕ) : Type 0 where
  -- the gates before stay
  pub kept : GatesKept (λ h. h < next) gates pins_in at gates' pins_in' at'
  -- the pins' end
  pub end : at' ≡ at + sum_of line_pins ls
  -- each line has its gate
  pub each : (ss : List Signal) → take inputs (drop source pins_in) ≡ map sig_cell ss → (i : ℕ) (y : Gate)
      → get_elem? (map (line_gate ss) (map line_of ls)) i ≡ some y → GateIn gates' pins_in' at' (next + i) y

-- ---- a cover, and a block

-- room for the gates of a cover with so many lines, whose And is gate j
pub record CoverRoom (count j next at : ℕ) (gates pins_in : List ℕ) : Type 0 where
  -- the working cells
  pub room : WorkRoom gates pins_in
  -- its sources are in use
  pub sources : first_at gates j + count_at gates j ≤ at
  -- pins for the cover and for each line
  pub fits : at + (count * (count_at gates j + 2) + 2) ≤ max_pins
  -- the cover's gate stands before those of lines
  pub before : j < next
  -- a gate for each of two or more lines
  pub low : next + added count ≤ max_gates

-- a cover's gate is put in place of the And, and those of its lines into the records from `next` on
pub record CoverBuilt (ls : List (List Bytes)) (j next at : ℕ) (gates pins_in gates' pins_in' : List ℕ) (at' : ℕ) : Type 0 where
  -- the other gates stay
  pub kept : GatesKept (λ h. (h ≡ j → ⊥) × (h < next)) gates pins_in at gates' pins_in' at'
  -- the pins' end
  pub end : at' ≡ at + cover_pins ls
  -- the cover's gate
  pub main : (ss : List Signal) → GateIn gates pins_in at j (Comb AndN ss) → GateIn gates' pins_in' at' j (cover_gate next ss (map line_of ls))
  -- the lines' gates
  pub more : (ss : List Signal) → GateIn gates pins_in at j (Comb AndN ss) → (i : ℕ) (y : Gate)
      → get_elem? (line_gates ss (map line_of ls)) i ≡ some y → GateIn gates' pins_in' at' (next + i) y

-- how many gates a definition adds to those placed first
abbrev pub added_of : Def → ℕ
added_of (latch l) = 0
added_of (cover ns ls) = added (length ls)

-- how many pins it may add to those placed first
abbrev pub added_pins : Def → ℕ
added_pins (latch l) = 0
added_pins (cover ns ls) = length ls * (length ns - 1 + 2) + 2

-- room for the gates of a definition that was placed as gate j
pub record BlockRoom (d : Def) (j next at : ℕ) (gates pins_in : List ℕ) : Type 0 where
  -- the working cells
  pub room : WorkRoom gates pins_in
  -- good lines
  pub good : cover_fault d ≡ fine
  -- its pin count
  pub counted : count_at gates j ≡ placed_count d
  -- its pins are in use
  pub sources : first_at gates j + placed_count d ≤ at
  -- pins
  pub fits : at + added_pins d ≤ max_pins
  -- its gate stands before those of lines
  pub before : j < next
  -- gates
  pub low : next + added_of d ≤ max_gates

-- a definition's gate stands as gate j, and those of its lines from `next` on
pub record BlockBuilt (d : Def) (j next at : ℕ) (gates pins_in gates' pins_in' : List ℕ) (next' at' : ℕ) : Type 0 where
  -- the other gates stay
  pub kept : GatesKept (λ h. (h ≡ j → ⊥) × (h < next)) gates pins_in at gates' pins_in' at'
  -- the gates are counted
  pub counted : next' ≡ next + added_of d
  -- the pins' end
  pub end : at' ≡ at + built_pins d
  -- its gate
  pub main : (signal_of : Bytes → Signal) → GateIn gates pins_in at j (placed signal_of d) → GateIn gates' pins_in' at' j (block_gate signal_of next (block_of d))
  -- its lines' gates
  pub more : (signal_of : Bytes → Signal) → GateIn gates pins_in at j (placed signal_of d) → (i : ℕ) (y : Gate)
      → get_elem? (new_gates signal_of (block_of d)) i ≡ some y → GateIn gates' pins_in' at' (next + i) y
