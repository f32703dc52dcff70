-- How many pins building adds (document 01, src/io/blif.rs: `build_network`). Assumes nothing: these are definitions.
--   literal_count cs  the literals of a line's columns
--   line_pins ts      the pins of a line's gate
--   cover_pins ls     those of a cover's gate and of its lines' new gates
--   built_pins d      those that building adds for a definition
use Rattle.std.specs.Prelude.{List, [], ◌∷◌, ℕ, zero, suc, ◌+◌, length}
use Rattle.lists.specs.Lists.{Bytes, sum_of, occ}
use Rattle.blif_text.specs.Decls.{Def, latch, cover, columns}

-- each column 0 or 1 is a literal: "A dash adds no literal"
unfoldable pub literal_count : Bytes → ℕ
literal_count cs = occ 48 cs + occ 49 cs

-- a pin for each literal, and one without any: "Buf(one) of none", "Buf(zero)"
abbrev pub literal_pins : ℕ → ℕ
literal_pins zero = 1
literal_pins (suc m) = suc m

-- the pins of the gate of a line with these tokens
unfoldable pub line_pins : List Bytes → ℕ
line_pins ts = literal_pins (literal_count (columns ts))

-- "A cover without lines is Buf(zero)"; one line's gate is the cover's; "With two or more lines each is a new gate .., and the cover's
-- gate joins them"
abbrev pub cover_pins : List (List Bytes) → ℕ
cover_pins [] = 1
cover_pins (l ∷ []) = line_pins l
cover_pins (l ∷ m ∷ ls) = length (l ∷ m ∷ ls) + sum_of line_pins (l ∷ m ∷ ls)

-- a latch's gate stays as it was placed; a cover's And is replaced
abbrev pub built_pins : Def → ℕ
built_pins (latch l) = 0
built_pins (cover ns ls) = cover_pins ls
