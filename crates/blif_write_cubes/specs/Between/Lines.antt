-- The texts of cube lines (document 01, src/io/blif.rs). Assumes nothing: these are definitions.
use Rattle.std.specs.Prelude.{◌≡◌, Bool, true, false, cond, List, [], ◌∷◌, ◌++◌, map, ℕ, zero, suc, ◌^◌, ◌/◌, ◌%◌, eqb, replicate}
use Rattle.std.specs.Int.Count.{ones}
use Rattle.lists.specs.Lists.{Bytes}
use Rattle.gates.specs.Gate.{Form}
use Rattle.gates.specs.declared.NaryType.{NaryType}
use Rattle.gates.specs.Forms.{form_number}
use Rattle.gates.specs.Between.Forms.{nary_form}
use Rattle.blif_meaning.specs.Model.{Line}
use Rattle.blif_writing.specs.WrittenModel.{col_of, lines_of, too_wide}
use Rattle.blif_writing.specs.Text.{col_byte, out_byte, cube_line, line}

-- a cube line with its end
abbrev pub cube_text : Line → Bytes
cube_text l = line (cube_line l)

-- cube lines, one after the other
abbrev pub lines_text : List Line → Bytes
lines_text [] = []
lines_text (l ∷ ls) = cube_text l ++ lines_text ls

-- what stands behind a cube line's columns: a blank, the output, the line's end
abbrev pub output_text : Bool → Bytes
output_text v = 32 ∷ out_byte v ∷ 10 ∷ []

-- "column i being bit i": the n lowest bits of a mask, the lowest first
abbrev pub mask_bits : ℕ → ℕ → List Bool
mask_bits zero m = []
mask_bits (suc n) m = eqb (m % 2) 1 ∷ mask_bits n (m / 2)

-- the columns of a mask
unfoldable pub mask_columns : ℕ → ℕ → Bytes
mask_columns n m = map col_byte (map col_of (mask_bits n m))

-- the cube line of a mask: what `write_blif_cube` writes
unfoldable pub cube_of : ℕ → ℕ → Bool → Bytes
cube_of n m v = mask_columns n m ++ output_text v

-- a cube line of the same column throughout
unfoldable pub same_cube : ℕ → ℕ → Bool → Bytes
same_cube n x v = replicate n x ++ output_text v

-- a mask's cube line, where the number of its ones has that parity: "those with an odd or even number of ones, output 1"
unfoldable pub minterm_at : ℕ → ℕ → ℕ → Bytes
minterm_at parity n m = cond (eqb (ones m % 2) parity) (cube_of n m true) []

-- the lines of k masks from m upwards
abbrev pub minterms_from : ℕ → ℕ → ℕ → ℕ → Bytes
minterms_from parity n m zero = []
minterms_from parity n m (suc k) = minterm_at parity n m ++ minterms_from parity n (suc m) k

-- "Xor and Xnor list masks in rising order": all masks of n bits
abbrev pub mask_lines : ℕ → ℕ → Bytes
mask_lines parity n = minterms_from parity n 0 (2 ^ n)

-- the rows of a form's lines: "constant rows of cube characters per gate type"
abbrev pub rows_of : Form → ℕ → List Bytes
rows_of f n = map (λ (l : Line). map col_byte l.cols) (lines_of f n)

-- the inputs that a gate of this type may have to be written: "21 when an Xor or Xnor of the Nary form has over 12 inputs"
abbrev pub Narrow : NaryType → ℕ → Type 0
Narrow t n = too_wide (form_number (nary_form t)) n ≡ false
