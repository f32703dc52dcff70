-- The sheet of a pass (document 02, CR 2: "The sheet is lines in fixed order"). Assumes nothing: these are definitions.
--   Sheet           a part and its command rows
--   sheet_of t       the sheet that a text is; none where 32 refuses it
--   command_text s   the command rows as a text of rows
--   sheet_text s     the one text of a sheet
--   IsSheet s       what is a sheet
use Rattle.std.specs.Prelude.{◌≡◌, Bool, true, ◌&&◌, ◌||◌, not, ℕ, ◌≤◌, eqb, leb, length, take, drop, if◌then◌else◌}
use mathlib.Core.List.{List, [], ◌∷◌, ◌++◌, flat_map}
use Rattle.std.proofs.Math.Option.{Option, none, some}
use Rattle.lists.specs.Lists.{Bytes, bytes, same, all, any}
use Rattle.blif_text.specs.Lines.{split, ends_in_lf}
use Rattle.blif_writing.specs.Names.{decimal}
use Rattle.printed_lines.specs.Lines.{key_line, count_line}

-- a sheet
pub record Sheet : Type 0 where
  -- the part's letters and digits
  pub part : Bytes
  -- the command rows, each without its LF
  pub rows : List Bytes

-- ---- the two lines before the rows

-- "letters or digits"
unfoldable pub is_letter_or_digit : ℕ → Bool
is_letter_or_digit c = leb 48 c && leb c 57 || leb 65 c && leb c 90 || leb 97 c && leb c 122

-- "1 to 16 letters or digits"
unfoldable pub is_part : Bytes → Bool
is_part p = leb 1 (length p) && leb (length p) 16 && all is_letter_or_digit p

-- "`part=` with 1 to 16 letters or digits"
unfoldable pub is_part_line : Bytes → Bool
is_part_line l = same (take 5 l) (bytes "part=") && is_part (drop 5 l)

-- "1 to 128"
unfoldable pub is_row_count : ℕ → Bool
is_row_count n = leb 1 n && leb n 128

-- "`rows=` with 1 to 128 without leading zeros": the number n in decimal, which starts with no zero
unfoldable pub is_rows_line : ℕ → Bytes → Bool
is_rows_line n l = is_row_count n && same l (bytes "rows=" ++ decimal n [])

-- ---- the sheet

-- "lines in fixed order: `part=` .., `rows=` .., then that many command rows"; the last of these are all the other lines, so that one that
-- is missing or left over makes another number
unfoldable pub in_order : List Bytes → Option Sheet
in_order [] = none
in_order (first ∷ []) = none
in_order (first ∷ second ∷ rows) =
    if is_part_line first && is_rows_line (length rows) second then some (record { part = drop 5 first; rows = rows }) else none

-- "the sheet passes 40,960 bytes"
abbrev pub max_sheet : ℕ
max_sheet = 40960

-- within that size, and "each line ended by LF"
unfoldable pub is_whole : Bytes → Bool
is_whole t = leb (length t) max_sheet && ends_in_lf t

-- the sheet that a text is; none "when a sheet line is missing, misformed or left over, or the sheet passes 40,960 bytes"
unfoldable pub sheet_of : Bytes → Option Sheet
sheet_of t = if is_whole t then in_order (split (eqb 10) t) else none

-- ---- from a sheet to its text

-- the command rows, "each line ended by LF"
abbrev pub command_text : Sheet → Bytes
command_text s = flat_map (λ (row : Bytes). row ++ 10 ∷ []) s.rows

-- the three parts of a sheet, one after the other
abbrev pub sheet_text : Sheet → Bytes
sheet_text s = key_line (bytes "part=") s.part ++ count_line (bytes "rows=") (length s.rows) ++ command_text s

-- what is a sheet; a text is one exactly where it is the text of one
pub record IsSheet (s : Sheet) : Type 0 where
  -- "1 to 16 letters or digits"
  pub part : is_part s.part ≡ true
  -- "1 to 128"
  pub count : is_row_count (length s.rows) ≡ true
  -- no row has an LF in it
  pub rows : all (λ row. not (any (eqb 10) row)) s.rows ≡ true
  -- "the sheet passes 40,960 bytes"
  pub size : length (sheet_text s) ≤ max_sheet
