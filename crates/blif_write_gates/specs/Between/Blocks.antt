-- The texts of blocks (document 01, "The text"). Assumes nothing: these are definitions.
use Rattle.std.specs.Prelude.{Bool, cond, ℕ}
use mathlib.Core.List.{[], ◌++◌, flat_map}
use Rattle.lists.specs.Lists.{Bytes}
use Rattle.signal.specs.Signal.{Signal}
use Rattle.blif_meaning.specs.Model.{LatchDef, Block}
use Rattle.blif_writing.specs.Names.{name_bytes}
use Rattle.blif_writing.specs.WrittenModel.{is_const, latch_of}
use Rattle.blif_writing.specs.Text.{line, flop_line, stored_line, block_lines}

-- the lines of a block, each with its end
abbrev pub block_text : Block Bytes → Bytes
block_text b = flat_map line (block_lines b)

-- a field of a `.flop` line with the signal's name, "unless enable is one" or "unless reset is zero"
unfoldable pub field_text : Bool → Bytes → Signal → Bytes
field_text v key s = cond (is_const v s) [] (key ++ name_bytes s)

-- the latch of flip-flop g with this data, enable, reset and start value
abbrev pub stored_latch : Signal → Signal → Signal → Bool → ℕ → LatchDef Bytes
stored_latch d e r v g = latch_of name_bytes g (record { data_in = d; enable = e; reset = r; start = v })

-- "`.flop D=d Q=xN init=0`, then ` E=e` unless enable is one, then ` R=r` unless reset is zero", the start value "in place of the fixed 0"
unfoldable pub flop_text : Signal → Signal → Signal → Bool → ℕ → Bytes
flop_text d e r v g = line (flop_line (stored_latch d e r v g))

-- the line of a flip-flop
unfoldable pub stored_text : Signal → Signal → Signal → Bool → ℕ → Bytes
stored_text d e r v g = line (stored_line (stored_latch d e r v g))
