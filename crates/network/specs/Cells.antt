-- A network in lent cells, and what refusal 20 asks of them (document 01, "Sizes, and the reading and writing operations").
-- Assumes nothing: these are definitions.
use Rattle.std.specs.Prelude.{Bool, true, not, ◌&&◌, List, [], map, ℕ, ◌*◌, ◌^◌, ◌<◌, eqb, leb, ltb, length, get_or, take}
use Rattle.std.proofs.Math.Option.{Option, none, some}
use Rattle.lists.specs.Lists.{all, range, sum_to}
use Rattle.signal.specs.Signal.{Node, Const, Input, Var}
use Rattle.signal.specs.Cell.{node_of, sig_of}
use Rattle.gates.specs.Gate.{Buf, Gate, Comb}
use Rattle.gates.specs.Forms.{can_take, can_start}
use Rattle.network.specs.Net.{Net, net_from}
use Rattle.network.specs.declared.Counts.{Counts}
use Rattle.network.specs.Record.{gate_width, form_at, first_at, count_at, start_at, gate_at, pin_cells}
use Rattle.network.specs.Sizes.{over_sizes}

-- ---- a lent network

-- the counts and the cells that are lent
pub record Lent : Type 0 where
  -- how many inputs, gates, pins and outputs are in use
  pub counts : Counts
  -- the gates' records
  pub cells : List ℕ
  -- the pins
  pub pins_lent : List ℕ
  -- the outputs
  pub outs_lent : List ℕ

-- the same, from its parts
abbrev pub lent : Counts → List ℕ → List ℕ → List ℕ → Lent
lent counts gs ps os = record { counts = counts; cells = gs; pins_lent = ps; outs_lent = os }

-- "a size over the limits or over its slices" is refused
unfoldable pub sizes_fit : Counts → ℕ → ℕ → ℕ → Bool
sizes_fit counts gs ps os =
    not (over_sizes counts.inputs counts.outputs counts.gates counts.pins) && leb (counts.gates * gate_width) gs && leb counts.pins ps && leb counts.outputs os

-- where gate g's pins start: the pin counts before it, added up
abbrev pub pins_below : List ℕ → ℕ → ℕ
pins_below cells g = sum_to g (count_at cells)

-- "an unknown form, a pin count its form cannot have" is refused, and so are a start value other than "0 or 1, and else zero" ("another value in
-- that cell is a case of 20") and a run that does not start where the one before it ends
abbrev pub record_fits : List ℕ → ℕ → Bool
record_fits cells g =
    can_take (form_at cells g) (count_at cells g) && can_start (form_at cells g) (start_at cells g) && eqb (first_at cells g) (pins_below cells g)

-- "runs of pins that do not follow each other in gate order and fill the pins in use" are refused
unfoldable pub records_fit : List ℕ → ℕ → ℕ → Bool
records_fit cells n p = all (record_fits cells) (range 0 n) && eqb (pins_below cells n) p

-- the test of `is_valid`, with the input count and the gate count
abbrev pub valid_node : ℕ → ℕ → Node → Bool
valid_node inputs gates Const = true
valid_node inputs gates (Input i) = ltb i inputs
valid_node inputs gates (Var g) = ltb g gates

-- every cell holds a valid signal
unfoldable pub all_valid : ℕ → ℕ → List ℕ → Bool
all_valid inputs gates cs = all (λ c. valid_node inputs gates (node_of c)) cs

-- the lent cells are a network: all that refusal 20 asks
unfoldable pub is_network : Lent → Bool
is_network l =
    sizes_fit l.counts (length l.cells) (length l.pins_lent) (length l.outs_lent)
    && records_fit l.cells l.counts.gates l.counts.pins
    && all_valid l.counts.inputs l.counts.gates (take l.counts.pins l.pins_lent)
    && all_valid l.counts.inputs l.counts.gates (take l.counts.outputs l.outs_lent)

-- a gate that was decoded; where none was, which no network has, a buffer of nothing
abbrev pub or_buf : Option Gate → Gate
or_buf none = Comb Buf []
or_buf (some x) = x

-- k gates of the cells, from gate g on
abbrev pub cell_gates : List ℕ → List ℕ → ℕ → ℕ → List Gate
cell_gates cells pin_cells g k = map (λ (i : ℕ). or_buf (gate_at cells pin_cells i)) (range g k)

-- the network of n gates in cells, with so many inputs and these outputs
abbrev pub cell_net : ℕ → List ℕ → List ℕ → ℕ → List ℕ → Net
cell_net inputs cells pin_cells n outs = net_from inputs (cell_gates cells pin_cells 0 n) (map sig_of outs)

-- the network that the cells hold
unfoldable pub net_of : Lent → Net
net_of l = cell_net l.counts.inputs l.cells l.pins_lent l.counts.gates (take l.counts.outputs l.outs_lent)

-- the counts of a network
abbrev pub counts_of : Net → Counts
counts_of net =
    record { inputs = net.inputs; gates = length net.gates; pins = length (pin_cells net.gates); outputs = length net.outputs }

-- the lent cells are 32-bit numbers, as the slices hold them
pub record Words (l : Lent) : Type 0 where
  -- each pin cell
  pub pin_words : (i : ℕ) → get_or l.pins_lent i 0 < 2 ^ 32
  -- each output cell
  pub out_words : (i : ℕ) → get_or l.outs_lent i 0 < 2 ^ 32
