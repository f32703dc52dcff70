-- The tests of the two lines before the rows, from what the code finds. Assumes nothing.
use mathlib.Core.Path.{◌≡◌, refl, sym, ap, ◌∙◌}
use mathlib.Core.Bool.{true, false, ◌&&◌}
use mathlib.Core.List.{[], ◌++◌}
use Prim.Native.Nat.{ℕ, ◌-◌, ◌≤◌, ◌<◌}
use native.Mathlib.Omega.{arith}
use lib.Dec.{leb}
use lib.ListN.{length, get_or, take, drop, length-take, length-drop, length-append}
use borrow.Author.Tests.{le-leb, lt-leb, leb-true}
use Rattle.lists.specs.Lists.{Bytes, bytes, all, same, range, zeros}
use Rattle.lists.proofs.Tests.{and_left, and_right}
use Rattle.lists.proofs.Range.{range_all, Tested, tested-fails, tested-done}
use Rattle.lists.proofs.Over.{take-overwrite, length-overwrite}
use Rattle.lists.proofs.OverAt.{part-is}
use Rattle.lists.proofs.Same.{same-lengths}
use Rattle.blif_writing.specs.Names.{decimal}
use Rattle.blif_write_names.specs.Between.Text.{Appended}
use Rattle.blif_write_names.proofs.Laws.{and-append}
use Rattle.pass_sheet.specs.Sheet.{is_letter_or_digit, is_part, is_part_line, is_row_count, is_rows_line}

-- ---- the part

module _ (p : Bytes) where
  pub part-empty : length p ≡ 0 → false ≡ is_part p
  unfolding is_part
  part-empty e = rw e

  pub part-long : 16 < length p → false ≡ is_part p
  unfolding is_part
  part-long h = rw (le-leb 1 (length p) (omega arith), lt-leb (length p) 16 h)

  module _ {i : ℕ} (some_byte : length p ≡ 0 → ⊥) (few : length p ≤ 16) (a : Tested is_letter_or_digit p i) where
    within : is_part p ≡ all is_letter_or_digit p
    unfolding is_part
    within = let h : 1 ≤ length p = (let n : length p ≡ 0 → ⊥ = some_byte in omega arith) in rw (le-leb 1 (length p) h, le-leb (length p) 16 few)

    pub part-wrong : i < length p → is_letter_or_digit (get_or p i 0) ≡ false → false ≡ is_part p
    part-wrong h e = tested-fails 0 a h e ∙ sym within

    pub part_right : length p ≤ i → true ≡ is_part p
    part_right h = tested-done 0 a h ∙ sym within

-- and 16 at most
pub part-few : (p : Bytes) → is_part p ≡ true → length p ≤ 16
unfolding is_part
part-few p e = leb-true (length p) 16 (and_right (leb 1 (length p)) (leb (length p) 16) (and_left (leb 1 (length p) && leb (length p) 16) (all is_letter_or_digit p) e))

-- a part has a byte
pub part-some : (p : Bytes) → is_part p ≡ true → 1 ≤ length p
unfolding is_part
part-some p e = leb-true 1 (length p) (and_left (leb 1 (length p)) (leb (length p) 16) (and_left (leb 1 (length p) && leb (length p) 16) (all is_letter_or_digit p) e))

-- ---- the line of the part

-- a line shorter than its key
pub part-line-short : (l : Bytes) → length l < 5 → false ≡ is_part_line l
unfolding is_part_line
part-line-short l h =
    let other : length (take 5 l) ≡ 5 → ⊥ = λ e. omega (arith, e, length-take 5 l) in
    rw (sym (same-lengths (take 5 l) (bytes "part=") other))

-- one with another key
pub part-line-other : (l : Bytes) → same (take 5 l) (bytes "part=") ≡ false → false ≡ is_part_line l
unfolding is_part_line
part-line-other l e = rw e

-- one with the key
pub part-line-with : (l : Bytes) → same (take 5 l) (bytes "part=") ≡ true → is_part (take (length l - 5) (drop 5 l)) ≡ is_part_line l
unfolding is_part_line
part-line-with l e = rw (e, part-is 5 l)

-- such a line has six bytes or more
pub part-line-long : (l : Bytes) → is_part_line l ≡ true → 6 ≤ length l
unfolding is_part_line
part-line-long l e = omega (arith, part-some (drop 5 l) (and_right (same (take 5 l) (bytes "part=")) (is_part (drop 5 l)) e), length-drop 5 l)

-- ---- the line of the number of rows

module _ (n : ℕ) (l : Bytes) where
  pub rows-line-none : n ≡ 0 → false ≡ is_rows_line n l
  unfolding is_rows_line is_row_count
  rows-line-none e = rw e

  pub rows-line-many : 128 < n → false ≡ is_rows_line n l
  unfolding is_rows_line is_row_count
  rows-line-many h = rw (le-leb 1 n (omega arith), lt-leb n 128 h)

-- the line that is wanted
abbrev pub wanted : ℕ → Bytes
wanted n = bytes "rows=" ++ decimal n []

-- no number up to 128 has more than three digits
three-digits : all (λ n. leb (length (decimal n [])) 3) (range 0 129) ≡ true
three-digits = refl

pub decimal-short : (n : ℕ) → n ≤ 128 → length (decimal n []) ≤ 3
decimal-short n h = leb-true (length (decimal n [])) 3 (range_all (λ (k : ℕ). leb (length (decimal k [])) 3) 0 129 three-digits n (omega arith) (omega arith))

pub wanted-short : (n : ℕ) → n ≤ 128 → length (wanted n) ≤ 8
wanted-short n h = omega (arith, decimal-short n h, length-append (bytes "rows=") (decimal n []))

module _ {n : ℕ} {p q : Bytes} {at end : ℕ} (few : n ≤ 128) (key : Appended (bytes "rows=") (zeros 8) 0 p at) (number : Appended (decimal n []) p at q end) where
  both : Appended (wanted n) (zeros 8) 0 q end
  both = and-append key number

  -- the room suffices
  pub wanted-end : end ≡ length (wanted n)
  wanted-end = omega (arith, both.len, wanted-short n few)

  pub wanted-inside : end ≤ length q
  wanted-inside = omega (arith, wanted-end, wanted-short n few, ap length both.out, length-overwrite (wanted n) (zeros 8))

  -- and the line is what stands in front
  pub wanted-front : take end q ≡ wanted n
  wanted-front = (λ i. take (wanted-end i) (both.out i)) ∙ take-overwrite (wanted n) (zeros 8) (wanted-short n few)

  pub rows-line-is : (l : Bytes) → (n ≡ 0 → ⊥) → same l (take end q) ≡ is_rows_line n l
  unfolding is_rows_line is_row_count
  rows-line-is l f = let h : 1 ≤ n = (let g : n ≡ 0 → ⊥ = f in omega arith) in rw (le-leb 1 n h, le-leb n 128 few, wanted-front)
