-- A text of rows (document 02, CR 1: "rows of 0 and 1, each ended by LF, one per clock"). Assumes nothing: these are definitions.
--   row_text bits, rows_text rows   rows of bits as a text
--   rows_of n text                 the rows of n bits that a text has; none where it has others
--   Wide n rows                   each row has n bits
use Rattle.std.specs.Prelude.{◌≡◌, Bool, true, false, ◌&&◌, ◌||◌, ℕ, zero, suc, ◌/◌, eqb, length, take, drop, if◌then◌else◌}
use mathlib.Core.List.{List, [], ◌∷◌, ◌++◌, map, Memᴰ}
use Rattle.std.proofs.Math.Option.{Option, none, some}
use Rattle.lists.specs.Lists.{Bytes, same, all}

-- ---- from bits to text

-- the character of a bit: "0 and 1"
abbrev pub digit : Bool → ℕ
digit false = 48
digit true = 49

-- LF
abbrev pub line_end : ℕ
line_end = 10

-- a row: "each ended by LF"
abbrev pub row_text : List Bool → Bytes
row_text bits = map digit bits ++ line_end ∷ []

-- rows, one after the other
abbrev pub rows_text : List (List Bool) → Bytes
rows_text [] = []
rows_text (row ∷ rows) = row_text row ++ rows_text rows

-- ---- from text to bits

-- whether the byte is one of the two characters
abbrev pub is_digit : ℕ → Bool
is_digit c = eqb c 48 || eqb c 49

-- the bit of such a character
abbrev pub digit_bit : ℕ → Bool
digit_bit c = eqb c 49

-- a row of n bits: n such characters and an LF; none for any other line
unfoldable pub row_of : ℕ → Bytes → Option (List Bool)
row_of n line = if all is_digit (take n line) && same (drop n line) (line_end ∷ []) then some (map digit_bit (take n line)) else none

-- a row before others; none where it or one of the others is none
abbrev pub row_before : Option (List Bool) → Option (List (List Bool)) → Option (List (List Bool))
row_before none rows = none
row_before (some row) none = none
row_before (some row) (some rows) = some (row ∷ rows)

-- k rows of n bits, behind which the text ends
abbrev pub rows_in : ℕ → ℕ → Bytes → Option (List (List Bool))
rows_in n zero [] = some []
rows_in n zero (c ∷ t) = none
rows_in n (suc k) t = row_before (row_of n (take (suc n) t)) (rows_in n k (drop (suc n) t))

-- the rows of n bits that a text has; none where "a row has the wrong length, another character or no LF"
unfoldable pub rows_of : ℕ → Bytes → Option (List (List Bool))
rows_of n t = rows_in n (length t / suc n) t

-- each row has n bits
abbrev pub Wide : ℕ → List (List Bool) → Type 0
Wide n rows = (row : List Bool) → Memᴰ row rows → length row ≡ n
