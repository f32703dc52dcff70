-- The parts of the text of a lent network (document 01, "The text"). Assumes nothing: these are definitions.
use Rattle.std.specs.Prelude.{◌≡◌, Bool, true, false, ℕ, ◌≤◌, ◌<◌}
use mathlib.Core.List.{List, [], ◌∷◌, map, flat_map}
use Rattle.std.proofs.Math.Option.{some}
use Rattle.lists.specs.Lists.{Bytes, any, range}
use Rattle.signal.specs.Signal.{Signal}
use Rattle.gates.specs.Gate.{Gate}
use Rattle.network.specs.Net.{Net}
use Rattle.network.specs.Cells.{Lent, is_network, net_of}
use Rattle.network.specs.Sizes.{max_gates}
use Rattle.network.specs.Record.{form_at, count_at, gate_at}
use Rattle.blif_meaning.specs.Model.{Block}
use Rattle.blif_writing.specs.Names.{name_bytes}
use Rattle.blif_writing.specs.WrittenModel.{input_names, too_wide, wide, latch_blocks, comb_blocks, inverter_block, inverters}
use Rattle.blif_writing.specs.Text.{line, all_lines, head_lines}

-- the lines of blocks, each with its end
abbrev pub blocks_text : List (Block Bytes) → Bytes
blocks_text bs = flat_map line (all_lines bs)

-- "latches": those of the gates, the first of which is gate g
abbrev pub latches_text : ℕ → List Gate → Bytes
latches_text g xs = blocks_text (latch_blocks name_bytes g xs)

-- "gates": their covers, the first of which is gate g
abbrev pub covers_text : ℕ → List Gate → Bytes
covers_text g xs = blocks_text (comb_blocks name_bytes g xs)

-- gate g's latch, if it is a flip-flop
unfoldable pub latch_text : ℕ → Gate → Bytes
latch_text g x = latches_text g (x ∷ [])

-- gate g's cover, if it is combinational
unfoldable pub cover_text : ℕ → Gate → Bytes
cover_text g x = covers_text g (x ∷ [])

-- ---- the gates in lent cells

-- gate g can be read out of the cells
pub record HeldAt (cells ps : List ℕ) (g : ℕ) : Type 0 where
  -- one of 1,024 at most
  pub low : g < max_gates
  -- the gate
  pub gate : Gate
  -- which is what the cells hold
  pub is : gate_at cells ps g ≡ some gate

-- n gates can be read out of the cells, as refusal 20 asks
pub record Readable (cells ps : List ℕ) (n : ℕ) : Type 0 where
  -- at most 1,024 of them
  pub few : n ≤ max_gates
  -- each can
  pub read : (g : ℕ) → g < n → HeldAt cells ps g

-- gate g's record has a form and a pin count that 21 refuses
abbrev pub wide_at : List ℕ → ℕ → Bool
wide_at cells g = too_wide (form_at cells g) (count_at cells g)

-- so has one of the first n records
abbrev pub wide_to : List ℕ → ℕ → Bool
wide_to cells n = any (wide_at cells) (range 0 n)

-- ---- inputs and outputs

-- "two comment lines, `.model`, inputs, outputs", of so many inputs and these outputs
unfoldable pub head_text : ℕ → List Signal → Bytes
head_text n os = flat_map line (head_lines (input_names name_bytes 0 n) (map name_bytes os))

-- ---- a whole network

-- "inverters": one for each signal that is used inverted
abbrev pub inverters_text : Net → Bytes
inverters_text net = blocks_text (map (inverter_block name_bytes) (inverters net))

-- a lent network that neither 20 nor 21 takes
pub record Writable (l : Lent) : Type 0 where
  -- the cells are a network
  pub network : is_network l ≡ true
  -- no gate has too many inputs
  pub narrow : any wide (net_of l).gates ≡ false
  -- each gate can be read
  pub readable : Readable l.cells l.pins_lent l.counts.gates
