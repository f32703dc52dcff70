-- `sheet_of`, computed on small texts. Assumes nothing.
use mathlib.Core.Path.{◌≡◌, refl}
use mathlib.Core.Bool.{Bool, true, false, not}
use mathlib.Core.List.{List, [], ◌∷◌, ◌++◌, flat_map}
use Rattle.lists.specs.Lists.{Bytes, bytes, optional, all, same}
use Rattle.blif_text.specs.Lines.{cons_first, split, ends_in_lf}
use Rattle.blif_text.proofs.Splitting.{ended}
use Rattle.pass_sheet.specs.Sheet.{Sheet, is_letter_or_digit, is_part, is_part_line, is_row_count, is_rows_line, in_order, is_whole, sheet_of}

-- whether a text is a sheet
is_sheet_text : Bytes → Bool
is_sheet_text t = optional (λ (s : Sheet). true) false (sheet_of t)

-- a part, the line of the rows, and rows
three : Bytes → Bytes → List Bytes → Bytes
three part rows commands = ended (part ∷ rows ∷ commands)

zero : Bytes
zero = bytes "0"

sheets : List Bytes
sheets =
    three (bytes "part=a") (bytes "rows=1") (zero ∷ [])
    ∷ three (bytes "part=ABCDEFGHIJkl0189") (bytes "rows=2") (zero ∷ bytes "1" ∷ [])
    -- the rows' characters are 31's
    ∷ three (bytes "part=Z9") (bytes "rows=3") (bytes "" ∷ bytes "no row" ∷ (48 ∷ 13 ∷ []) ∷ [])
    ∷ three (bytes "part=a") (bytes "rows=10") (zero ∷ zero ∷ zero ∷ zero ∷ zero ∷ zero ∷ zero ∷ zero ∷ zero ∷ zero ∷ [])
    ∷ []

others : List Bytes
others =
    []
    ∷ (10 ∷ [])
    ∷ three (bytes "part=a") (bytes "rows=1") []
    -- a row too many, an LF too many, and none at the end
    ∷ three (bytes "part=a") (bytes "rows=1") (zero ∷ zero ∷ [])
    ∷ three (bytes "part=a") (bytes "rows=1") (zero ∷ [] ∷ [])
    ∷ (three (bytes "part=a") (bytes "rows=1") [] ++ zero)
    -- numbers
    ∷ three (bytes "part=a") (bytes "rows=01") (zero ∷ [])
    ∷ three (bytes "part=a") (bytes "rows=0") []
    ∷ three (bytes "part=a") (bytes "rows=+1") (zero ∷ [])
    ∷ three (bytes "part=a") (bytes "rows=1 ") (zero ∷ [])
    ∷ three (bytes "part=a") (bytes "rows=") (zero ∷ [])
    -- parts
    ∷ three (bytes "part=") (bytes "rows=1") (zero ∷ [])
    ∷ three (bytes "part=ABCDEFGHIJkl01890") (bytes "rows=1") (zero ∷ [])
    ∷ three (bytes "part=a_b") (bytes "rows=1") (zero ∷ [])
    ∷ three (bytes "part=a" ++ 13 ∷ []) (bytes "rows=1") (zero ∷ [])
    -- keys and their order
    ∷ three (bytes " part=a") (bytes "rows=1") (zero ∷ [])
    ∷ three (bytes "Part=a") (bytes "rows=1") (zero ∷ [])
    ∷ three (bytes "rows=1") (bytes "part=a") (zero ∷ [])
    ∷ []

sheets-taken : all is_sheet_text sheets ≡ true
unfolding is_sheet_text three zero sheets sheet_of is_whole ends_in_lf in_order is_part_line is_part is_letter_or_digit is_rows_line is_row_count split cons_first same flat_map
sheets-taken = refl

others-refused : all (λ t. not (is_sheet_text t)) others ≡ true
unfolding is_sheet_text three zero others sheet_of is_whole ends_in_lf in_order is_part_line is_part is_letter_or_digit is_rows_line is_row_count split cons_first same flat_map
others-refused = refl
