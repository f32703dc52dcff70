-- What the sort's functions ask of each other and leave behind. Assumes nothing: these are definitions.
use Rattle.std.specs.Prelude.{◌≡◌, Bool, true, false, cond, List, [], ◌∷◌, ◌++◌, map, ℕ, zero, suc, ◌+◌, ◌-◌, ◌*◌, ◌≤◌, ◌<◌, eqb, ltb, length, get_or, take, drop, set}
use Rattle.std.proofs.Math.Option.{Option, none, some}
use Rattle.std.proofs.Math.ListN.{get_elem?}
use Rattle.gates.specs.Gate.{Gate, pins, is_comb}
use Rattle.lists.specs.Lists.{occ, overwrite, optional}
use Rattle.lists.specs.Between.Lists.{overwrite_at}
use Rattle.signal.specs.Between.Signal.{gate_node}
use Rattle.signal.specs.Cell.{node_of}
use Rattle.signal.specs.Between.Cell.{gate_number, remap_cell}
use Rattle.gates.specs.Between.Forms.{kind_of}
use Rattle.gates.specs.Between.Decode.{kind_comb}
use Rattle.network.specs.Cells.{cell_gates, pins_below}
use Rattle.network.specs.Sizes.{max_gates, max_pins}
use Rattle.network.specs.Record.{gate_width, form_at, run_at}
use Rattle.network.specs.Between.Record.{record_at, with_first, RecordIn, HasRun}
use Rattle.sort_order.specs.Order.{Graph, uses, use_count, counts_after, stack_after, flops_to, start_to, recorded}
use Rattle.sort_order.specs.Sorted.{node_gate, gate_nums}
use Rattle.sort_order.specs.Between.Walk.{ValidGraph, WalkState}

-- ---- what cells name

-- the gate that a cell's signal names, where it names one
unfoldable pub gate_named : ℕ → List ℕ
gate_named c = node_gate (node_of c) []

-- the gates that a run of cells names, in order and with repeats
abbrev pub gate_ins : List ℕ → List ℕ
gate_ins [] = []
gate_ins (c ∷ cs) = gate_named c ++ gate_ins cs

-- gate g's form number is that of a combinational gate
unfoldable pub form_comb : List ℕ → ℕ → Bool
form_comb gates g = kind_comb (kind_of (form_at gates g))

-- the gates that gate g's cells name as uses: none where it is a flip-flop
unfoldable pub uses_at : List ℕ → List ℕ → ℕ → List ℕ
uses_at gates pins g = cond (form_comb gates g) (gate_ins (run_at gates pins g)) []

-- which of n gates in cells are combinational
unfoldable pub cell_comb : List ℕ → List ℕ → ℕ → ℕ → Bool
cell_comb gates pins n g = optional is_comb false (get_elem? (cell_gates gates pins 0 n) g)

-- the gate inputs of n gates in cells
unfoldable pub cell_ins : List ℕ → List ℕ → ℕ → ℕ → List ℕ
cell_ins gates ps n g = optional (λ (x : Gate). gate_nums (pins x)) [] (get_elem? (cell_gates gates ps 0 n) g)

-- what the sort sees of n gates in cells
abbrev pub cell_graph : List ℕ → List ℕ → ℕ → Graph
cell_graph gates pins n = record { size = n; comb = cell_comb gates pins n; ins = cell_ins gates pins n }

-- the cells hold n gates, whose records and runs can be read, whose inputs are gates, and which have no more pins than there may be
pub record Cells (gates pins : List ℕ) (n : ℕ) : Type 0 where
  -- "1,024 gates"
  pub few : n ≤ max_gates
  -- each record and its run are there
  pub runs : (g : ℕ) → g < n → HasRun gates pins g
  -- the form number tells which are combinational
  pub combs : (g : ℕ) → g < n → form_comb gates g ≡ cell_comb gates pins n g
  -- the run names the gate's gate inputs
  pub inputs : (g : ℕ) → g < n → gate_ins (run_at gates pins g) ≡ cell_ins gates pins n g
  -- every gate input is a gate
  pub valid : ValidGraph (cell_graph gates pins n)
  -- the pins in use are "16,384 at most"
  pub few_pins : pins_below gates n ≤ max_pins

-- ---- use counts

-- "none passes the pins in use" (document 02, CR 5): no count passes so many
pub record Within (used : ℕ) (c : List ℕ) : Type 0 where
  -- every gate's
  pub each : (v : ℕ) → get_or c v 0 ≤ used

-- no count rises by more than so many
pub record Rises (most : ℕ) (c c' : List ℕ) : Type 0 where
  -- every gate's
  pub each : (v : ℕ) → get_or c' v 0 ≤ get_or c v 0 + most

-- each count is raised by as often as its gate stands in ds
pub record Raised (ds c c' : List ℕ) : Type 0 where
  -- by its gate's places in ds
  pub each : (v : ℕ) → get_or c' v 0 ≡ get_or c v 0 + occ v ds

-- the gates ds, which so many pins name, have counts that can be raised
pub record Countable (ds : List ℕ) (most : ℕ) (c : List ℕ) : Type 0 where
  -- each gate has a count
  pub index : (v : ℕ) → 0 < occ v ds → v < length c
  -- each count is "16,384 at most" when all of these pins raise it
  pub room : (v : ℕ) → get_or c v 0 + most ≤ max_pins

-- each count is how often combinational gates use its gate
pub record Counted (G : Graph) (c : List ℕ) : Type 0 where
  -- for every gate
  pub each : (v : ℕ) → get_or c v 0 ≡ use_count G v

-- ---- the stack

-- the first k cells, the last first
abbrev pub from_top : ℕ → List ℕ → List ℕ
from_top zero l = []
from_top (suc k) l = get_or l k 0 ∷ from_top k l

-- the gate at the top of a stack
abbrev pub top_gate : List ℕ → ℕ → ℕ
top_gate st top = get_or st (top - 1) 0

-- what lowering the counts of the gates ds leaves of the counts and of the stack
pub record Lowered (ds c st c' st' : List ℕ) : Type 0 where
  -- the counts fell in order
  pub counts : c' ≡ counts_after ds c
  -- gates that came to zero were pushed
  pub stack : st' ≡ stack_after ds c st

-- the gate of a cell, if it names one, has a count that can fall, and there is room on the stack
pub record Lowers (s : ℕ) (c : List ℕ) (top : ℕ) : Type 0 where
  -- it has a count
  pub below : gate_node (node_of s) ≡ true → gate_number s < max_gates
  -- the count is not zero
  pub used : gate_node (node_of s) ≡ true → 0 < get_or c (gate_number s) 0
  -- the stack is not full
  pub room : gate_node (node_of s) ≡ true → top < max_gates

-- the counts and the stack are those of some walk that has still to lower what these pins name
pub record Walks (c st pins : List ℕ) : Type 0 where
  -- the walk's gates
  pub graph : Graph
  -- those recorded
  pub done : List ℕ
  -- "1,024 gates"
  pub few : graph.size ≤ max_gates
  -- counts and stack fit them
  pub good : WalkState graph c st done (gate_ins pins)

-- the marks once the flip-flops below k are marked
unfoldable pub flop_mark : (ℕ → Bool) → ℕ → ℕ → ℕ
flop_mark comb k v = cond (ltb v k) (cond (comb v) 0 1) 0

-- the flip-flops below k are marked, and stand at the front of the order o, of which k' cells are written
pub record FlopsPlaced (comb : ℕ → Bool) (k : ℕ) (o₀ m o : List ℕ) (k' : ℕ) : Type 0 where
  -- as many as there are flip-flops
  pub count : k' ≡ length (flops_to comb k)
  -- at most one for each gate passed
  pub few : k' ≤ k
  -- in old order, before what stood there
  pub front : o ≡ flops_to comb k ++ drop k' o₀
  -- flip-flops alone are marked
  pub marks : (v : ℕ) → get_or m v 0 ≡ flop_mark comb k v

-- a gate is not marked
abbrev pub unmarked : List ℕ → ℕ → Bool
unmarked m v = eqb (get_or m v 0) 0

-- the stack st up to its top holds the gates below k that are neither marked nor used
pub record Started (m c : List ℕ) (k : ℕ) (st : List ℕ) (top : ℕ) : Type 0 where
  -- in rising number, the highest at the top
  pub stack : from_top top st ≡ start_to (unmarked m) (λ v. get_or c v 0) k
  -- at most one for each gate passed
  pub low : top ≤ k

-- ---- visits

-- a recorded gate and a flip-flop are marked
pub record GatesMarked (G : Graph) (done m : List ℕ) : Type 0 where
  -- 1 for these, 0 for the others
  pub each : (v : ℕ) → v < G.size → get_or m v 0 ≡ cond (G.comb v) (occ v done) 1

-- counts, marks and stack have a cell for each gate that there may be, and the order one for each that there is
pub record Long (n : ℕ) (c m st o : List ℕ) : Type 0 where
  -- a count for each
  pub counts : length c ≡ max_gates
  -- a mark for each
  pub marks : length m ≡ max_gates
  -- room for each
  pub stack : length st ≡ max_gates
  -- a place for each gate that there is
  pub order : n ≤ length o

-- the walk's cells: counts, marks, stack and its top, order and its first cell that is written
pub record Ready (G : Graph) (c m st : List ℕ) (top : ℕ) (o : List ℕ) (at : ℕ) : Type 0 where
  -- the gates recorded
  pub done : List ℕ
  -- there are cells for all
  pub long : Long G.size c m st o
  -- counts and stack fit them
  pub good : WalkState G c (from_top top st) done []
  -- marks fit them
  pub marked : GatesMarked G done m
  -- there is a place for each gate to come
  pub room : at + length done ≡ G.size

-- what a visit of the gate v at the top of the stack leaves
pub record Visited (G : Graph) (v : ℕ) (c m st : List ℕ) (top : ℕ) (o : List ℕ) (at : ℕ) (c' m' st' : List ℕ) (top' : ℕ) (o' : List ℕ) (at' : ℕ) : Type 0 where
  -- its uses are lowered
  pub lowered : Lowered (uses G v) c (from_top (top - 1) st) c' (from_top top' st')
  -- it is marked, unless it is a flip-flop
  pub marks : m' ≡ cond (G.comb v) (set m v 1) m
  -- it is recorded before those recorded so far, unless it is a flip-flop
  pub order : o' ≡ cond (G.comb v) (set o (at - 1) v) o
  -- which takes a place then
  pub place : at' ≡ cond (G.comb v) (at - 1) at

-- the walk can start: counts, marks and stack are those of the graph
pub record Begins (G : Graph) (c m st : List ℕ) (top : ℕ) (o : List ℕ) : Type 0 where
  -- there are cells for all
  pub long : Long G.size c m st o
  -- uses are counted
  pub counted : Counted G c
  -- flip-flops are marked
  pub marked : GatesMarked G [] m
  -- the stack holds the combinational gates of count zero
  pub first : from_top top st ≡ start_to G.comb (use_count G) G.size

-- the recorded gates stand in the order from cell `at` on
pub record Recorded (G : Graph) (o₀ o : List ℕ) (at : ℕ) : Type 0 where
  -- they end where the gates end
  pub start : at + length (recorded G) ≡ G.size
  -- before them and after the gates the order is as it was
  pub cells : o ≡ take at o₀ ++ recorded G ++ drop G.size o₀

-- the order that was found, if one was
abbrev pub ordered : Bool → List ℕ → Option (List ℕ)
ordered true l = some l
ordered false l = none

-- ---- renumbering

-- the order's numbers are below 1,024, and none stands twice
pub record Numbers (o : List ℕ) : Type 0 where
  -- below the limit
  pub below : (i : ℕ) → i < length o → get_or o i 0 < max_gates
  -- each at one place
  pub distinct : (i j : ℕ) → i < length o → j < length o → get_or o i 0 ≡ get_or o j 0 → i ≡ j

-- the translation table up to k: at each number of the order its place
pub record PlacesTable (o : List ℕ) (k : ℕ) (t : List ℕ) : Type 0 where
  -- a cell for each gate that there may be
  pub long : length t ≡ max_gates
  -- gate number i of the order is gate i now
  pub each : (i : ℕ) → i < k → get_or t (get_or o i 0) 0 ≡ i

-- the records of the gates of an order, the first one's pins starting at cell `at`
abbrev pub moved_gates : List ℕ → List ℕ → ℕ → List ℕ → List ℕ
moved_gates gates pins at [] = []
moved_gates gates pins at (g ∷ o) = with_first at (record_at gates g) ++ moved_gates gates pins (at + length (run_at gates pins g)) o

-- the runs of the gates of an order, one after the other, renumbered by a table
abbrev pub moved_pins : List ℕ → List ℕ → List ℕ → List ℕ → List ℕ
moved_pins gates pins t [] = []
moved_pins gates pins t (g ∷ o) = map (remap_cell t) (run_at gates pins g) ++ moved_pins gates pins t o

-- gate i's record and a run of so many pins from cell `at` on have room in the new cells
pub record RoomFor (i at count : ℕ) (ng np : List ℕ) : Type 0 where
  -- its record is within the new gate cells
  pub record-room : RecordIn ng i
  -- its run is within the new pin cells
  pub run_room : at + count ≤ length np
  -- and within "16,384 pins"
  pub few : at + count ≤ max_pins

-- what moving gate g to gate i leaves in the new cells, with the cell after its pins
pub record GateMoved (gates pins t : List ℕ) (g i at : ℕ) (ng np ng' np' : List ℕ) (r : ℕ) : Type 0 where
  -- its record with the new first pin
  pub records : ng' ≡ overwrite_at (i * gate_width) (with_first at (record_at gates g)) ng
  -- the renumbered pins
  pub runs : np' ≡ overwrite_at at (map (remap_cell t) (run_at gates pins g)) np
  -- the cell after them
  pub end : r ≡ at + length (run_at gates pins g)

-- how many pins the gates of an order have
abbrev pub pins_in : List ℕ → List ℕ → List ℕ → ℕ
pins_in gates pins [] = 0
pins_in gates pins (g ∷ o) = length (run_at gates pins g) + pins_in gates pins o

-- the gates of the order can be read, and the new cells have room for their records and runs
pub record Movable (gates pins o ng np : List ℕ) : Type 0 where
  -- "1,024 gates"
  pub few : length o ≤ max_gates
  -- each record and its run are there
  pub runs : (i : ℕ) → i < length o → HasRun gates pins (get_or o i 0)
  -- the new gate cells have room
  pub room : length o * gate_width ≤ length ng
  -- the new pin cells have room
  pub pin_room : pins_in gates pins o ≤ length np
  -- "16,384 pins"
  pub few_pins : pins_in gates pins o ≤ max_pins

-- what moving the gates of an order leaves in the new cells, with the pins in use
pub record Moved (gates pins t o ng np ng' np' : List ℕ) (r : ℕ) : Type 0 where
  -- the records, in the new order
  pub records : ng' ≡ overwrite (moved_gates gates pins 0 o) ng
  -- the renumbered pins, laid in gate order
  pub runs : np' ≡ overwrite (moved_pins gates pins t o) np
  -- how many there are
  pub end : r ≡ pins_in gates pins o

-- what renumbering leaves: gates and pins moved and n outputs renumbered by the table of the order
pub record RenumberedCells (gates pins o : List ℕ) (n : ℕ) (os ng np os' ng' np' : List ℕ) (r : ℕ) : Type 0 where
  -- the translation table
  pub table : List ℕ
  -- is the order's
  pub tabled : PlacesTable o (length o) table
  -- gates and pins are moved by it
  pub moved : Moved gates pins table o ng np ng' np' r
  -- outputs are renumbered by it
  pub outputs : os' ≡ overwrite (map (remap_cell table) (take n os)) os
