-- The cover lines of forms: rows out of the fixed tables, one column throughout, and the masks of one parity. Assumes nothing.
use mathlib.Core.Path.{◌≡◌, refl, sym, ◌∙◌, ap, ap₂}
use mathlib.Core.Bool.{Bool, true, false, not, cond}
use mathlib.Core.List.{List, [], ◌∷◌, ◌++◌, map, flat_map, append_assoc, append-nil}
use Prim.Native.Nat.{ℕ, zero, suc, ◌+◌, ◌*◌, ◌^◌, ◌/◌, ◌%◌, ◌≤◌, ◌<◌}
use native.Mathlib.Nat.{pow-succ'}
use native.Mathlib.Omega.{arith}
use lib.Dec.{eqb}
use lib.Count.{ones, ones_step}
use lib.ListN.{length, get_or, drop, replicate, drop_of_length-le, get_or-map}
use lib.Seq.{drop-cons}
use borrow.Author.Rules.{rules}
use Rattle.lists.specs.Lists.{Bytes, all, range}
use Rattle.lists.proofs.Tests.{by_order}
use Rattle.gates.specs.Gate.{odd, XorN, XnorN}
use Rattle.gates.specs.Between.Forms.{binary_form, ternary_form, nary_form}
use Rattle.gates.specs.declared.BinaryType.{BinaryType}
use Rattle.gates.specs.declared.BinaryType.TheVariants as B
use Rattle.gates.specs.declared.TernaryType.{TernaryType}
use Rattle.gates.specs.declared.TernaryType.TheVariants as T
use Rattle.gates.specs.declared.NaryType.{NaryType}
use Rattle.blif_meaning.specs.Model.{Col, Line}
use Rattle.blif_writing.specs.WrittenModel.{cover_row, doubled, masks, col_of, minterms, even, lines_of}
use Rattle.blif_writing.specs.Text.{col_byte, out_byte, spaced, line}
use Rattle.blif_write_names.specs.Between.Text.{Appended}
use Rattle.blif_write_cubes.specs.Between.Lines.{cube_text, lines_text, output_text, mask_bits, mask_columns, cube_of, same_cube, minterm_at, minterms_from, mask_lines}
use Rattle.blif_write_names.proofs.Laws.{append-past, as-text}
use Rattle.blif_write_names.proofs.Parts.{going-kept, Parts, Before, before-start, before-next, before-done}

-- a cube line is its columns and its output
pub cube-text : (l : Line) → cube_text l ≡ map col_byte l.cols ++ output_text l.out
unfolding line spaced flat_map
cube-text l = append_assoc (map col_byte l.cols) (32 ∷ out_byte l.out ∷ []) (10 ∷ [])

-- ---- the fixed tables

-- "all with output 1"
pub binary-ones : (t : BinaryType) → all (λ (l : Line). l.out) (lines_of (binary_form t) 2) ≡ true
binary-ones B.And = refl
binary-ones B.Xor = refl

pub ternary-ones : (t : TernaryType) → all (λ (l : Line). l.out) (lines_of (ternary_form t) 3) ≡ true
ternary-ones T.And = refl
ternary-ones T.Xor = refl
ternary-ones T.Maj = refl
ternary-ones T.Mux = refl

abbrev blank : Line
blank = cover_row true []

one_at : (ls : List Line) (i : ℕ) → all (λ (l : Line). l.out) ls ≡ true → (get_or ls i blank).out ≡ true
one_at [] i e = refl
one_at (l ∷ ls) zero e = Rattle.lists.proofs.Tests.and_left l.out (all (λ (k : Line). k.out) ls) e
one_at (l ∷ ls) (suc i) e = one_at ls i (Rattle.lists.proofs.Tests.and_right l.out (all (λ (k : Line). k.out) ls) e)

-- a line with output 1 is a row, and a part of all lines
row-parts : (ls : List Line) → all (λ (l : Line). l.out) ls ≡ true
    → Parts (length ls) (λ (i k : ℕ). lines_text (drop i ls)) (λ (i : ℕ). get_or (map (λ (l : Line). map col_byte l.cols) ls) i [] ++ output_text true)
row-parts ls t =
    record {
      more = λ i k h.
          let l : Line = get_or ls i blank in
          let f : get_or (map (λ (l : Line). map col_byte l.cols) ls) i [] ≡ map col_byte l.cols = get_or-map (λ (k : Line). map col_byte k.cols) ls i blank in
          let g : cube_text l ≡ map col_byte l.cols ++ output_text true = cube-text l ∙ ap (λ (b : Bool). map col_byte l.cols ++ output_text b) (one_at ls i t) in
          ap lines_text (drop-cons ls i blank h) ∙ ap (λ (x : Bytes). x ++ lines_text (drop (suc i) ls)) (g ∙ ap (λ (x : Bytes). x ++ output_text true) (sym f));
      none = λ i h. ap lines_text (drop_of_length-le ls h);
    }

-- the first i of lines with output 1 are written
pub record Rows (ls : List Line) (o : Bytes) (a : ℕ) (p : Bytes) (at i : ℕ) : Type 0 where
  pub ones : all (λ (l : Line). l.out) ls ≡ true
  pub before : Before (λ (j k : ℕ). lines_text (drop j ls)) (length ls) o a p at i

pub rows_start : {ls : List Line} {o : Bytes} {a : ℕ} → all (λ (l : Line). l.out) ls ≡ true → a ≤ length o → Rows ls o a o a 0
rows_start t h = record { ones = t; before = before-start h }

pub rows-kept : {ls : List Line} {o p : Bytes} {a at i : ℕ} → Rows ls o a p at i → length p ≡ length o
rows-kept c = going-kept c.before.going

-- the code knows the lines by their number
module _ {i count lines : ℕ} (n : count ≡ lines) (h : i < count) where
  pub row-there : i < lines
  row-there = omega arith

module _ {ls : List Line} {o p : Bytes} {a at i count : ℕ} (c : Rows ls o a p at i) (n : count ≡ length ls) where
  pub rows_next : {row q : Bytes} {r : ℕ} → i < count → row ≡ get_or (map (λ (l : Line). map col_byte l.cols) ls) i []
      → Appended (row ++ output_text true) p at q r → Rows ls o a q r (i + 1)
  rows_next h e v =
      record { ones = c.ones; before = before-next (row-parts ls c.ones) c.before (row-there n h) (as-text (ap (λ (x : Bytes). x ++ output_text true) e) v) }

  pub rows-done : count ≤ i → Appended (lines_text ls) o a p at
  rows-done h = before-done (row-parts ls c.ones) c.before (omega arith)

pub ruleset rows = (append-past, binary-ones, ternary-ones, rows_start, rows-kept, row-there, rows_next, rows-done, rules)

-- ---- one column throughout

map_same : (n : ℕ) (x : Col) → map col_byte (replicate n x) ≡ replicate n (col_byte x)
map_same zero x = refl
map_same (suc n) x = ap (λ (l : Bytes). col_byte x ∷ l) (map_same n x)

-- so are written AndN, OrN, NandN and NorN
pub same_line : (n : ℕ) (x : Col) (v : Bool) → same_cube n (col_byte x) v ≡ lines_text (cover_row v (replicate n x) ∷ [])
unfolding same_cube
same_line n x v =
    ap (λ (l : Bytes). l ++ output_text v) (sym (map_same n x)) ∙ sym (cube-text (cover_row v (replicate n x))) ∙ sym (append-nil (cube_text (cover_row v (replicate n x))))

-- ---- the masks of one parity

-- the masks of n + 1 bits from those of n bits
doubled-range : (n a k : ℕ) → doubled (map (mask_bits n) (range a k)) ≡ map (mask_bits (suc n)) (range (2 * a) (2 * k))
doubled-range n a zero = refl
doubled-range n a (suc k) =
    let z : 2 * a % 2 ≡ 0 = omega arith in
    let y : 2 * a / 2 ≡ a = omega arith in
    let x : suc (2 * a) % 2 ≡ 1 = omega arith in
    let w : suc (2 * a) / 2 ≡ a = omega arith in
    let v : 2 * suc k ≡ suc (suc (2 * k)) = omega arith in
    let u : 2 * suc a ≡ suc (suc (2 * a)) = omega arith in
    let first : mask_bits (suc n) (2 * a) ≡ false ∷ mask_bits n a = ap₂ (λ (i j : ℕ). eqb i 1 ∷ mask_bits n j) z y in
    let second : mask_bits (suc n) (suc (2 * a)) ≡ true ∷ mask_bits n a = ap₂ (λ (i j : ℕ). eqb i 1 ∷ mask_bits n j) x w in
    ap (λ (l : List (List Bool)). (false ∷ mask_bits n a) ∷ (true ∷ mask_bits n a) ∷ l)
    (doubled-range n (suc a) k ∙ ap (λ (i : ℕ). map (mask_bits (suc n)) (range i (2 * k))) u)
    ∙ ap₂ (λ (i j : List Bool). i ∷ j ∷ map (mask_bits (suc n)) (range (suc (suc (2 * a))) (2 * k))) (sym first) (sym second)
    ∙ ap (λ (i : ℕ). map (mask_bits (suc n)) (range (2 * a) i)) (sym v)

masks-range : (n : ℕ) → masks n ≡ map (mask_bits n) (range 0 (2 ^ n))
masks-range zero = refl
masks-range (suc n) =
    ap doubled (masks-range n) ∙ doubled-range n 0 (2 ^ n) ∙ ap (λ (k : ℕ). map (mask_bits (suc n)) (range 0 k)) (sym (pow-succ' 2 n))

-- the parity of a sum
odd-sum : (b o : ℕ) → b < 2 → (x : Bool) → x ≡ eqb (o % 2) 1 → Rattle.signal.specs.Signal.invert_if (eqb b 1) x ≡ eqb ((b + o) % 2) 1
odd-sum zero o h x e = e ∙ ap (λ (k : ℕ). eqb k 1) (let q : o % 2 ≡ (0 + o) % 2 = omega arith in q)
odd-sum (suc zero) o h x e =
    by_order 1 (o % 2)
    (λ l.
    let p : o % 2 ≡ 1 = omega arith in
    let q : (1 + o) % 2 ≡ 0 = omega arith in
    ap not (e ∙ ap (λ (k : ℕ). eqb k 1) p) ∙ sym (ap (λ (k : ℕ). eqb k 1) q))
    (λ l.
    let p : o % 2 ≡ 0 = omega arith in
    let q : (1 + o) % 2 ≡ 1 = omega arith in
    ap not (e ∙ ap (λ (k : ℕ). eqb k 1) p) ∙ sym (ap (λ (k : ℕ). eqb k 1) q))
odd-sum (suc (suc b)) o h x e = absurd (omega arith)

odd-bits : (n m : ℕ) → m < 2 ^ n → odd (mask_bits n m) ≡ eqb (ones m % 2) 1
unfolding ones
odd-bits zero m h = let e : 0 ≡ m = omega arith in ap (λ (k : ℕ). eqb (ones k % 2) 1) e
odd-bits (suc n) m h =
    odd-sum (m % 2) (ones (m / 2)) (omega arith) (odd (mask_bits n (m / 2))) (odd-bits n (m / 2) (omega (arith, pow-succ' 2 n)))
    ∙ ap (λ (k : ℕ). eqb (k % 2) 1) (sym (ones_step m))

even-test : (k : ℕ) → not (eqb (k % 2) 1) ≡ eqb (k % 2) 0
even-test k =
    by_order 1 (k % 2)
    (λ l. let p : k % 2 ≡ 1 = omega arith in rw p)
    (λ l. let p : k % 2 ≡ 0 = omega arith in rw p)

even-bits : (n m : ℕ) → m < 2 ^ n → even (mask_bits n m) ≡ eqb (ones m % 2) 0
even-bits n m h = ap not (odd-bits n m h) ∙ even-test (ones m)

cube-of : (n m : ℕ) → cube_of n m true ≡ cube_text (cover_row true (map col_of (mask_bits n m)))
unfolding cube_of mask_columns
cube-of n m = sym (cube-text (cover_row true (map col_of (mask_bits n m))))

module _ (parity n : ℕ) (f : List Bool → Bool) (is : (m : ℕ) → m < 2 ^ n → f (mask_bits n m) ≡ eqb (ones m % 2) parity) where
  one-minterm : (b : Bool) (m : ℕ) (ls : List Line)
      → cond b (cube_of n m true) [] ++ lines_text ls ≡ lines_text (cond b (cover_row true (map col_of (mask_bits n m)) ∷ ls) ls)
  one-minterm true m ls = ap (λ (l : Bytes). l ++ lines_text ls) (cube-of n m)
  one-minterm false m ls = refl

  lines_from : (k m : ℕ) → m + k ≤ 2 ^ n → minterms_from parity n m k ≡ lines_text (minterms f (map (mask_bits n) (range m k)))
  unfolding minterm_at
  lines_from zero m h = refl
  lines_from (suc k) m h =
      ap (λ (l : Bytes). minterm_at parity n m ++ l) (lines_from k (suc m) (omega arith))
      ∙ ap (λ (b : Bool). cond b (cube_of n m true) [] ++ lines_text (minterms f (map (mask_bits n) (range (suc m) k)))) (sym (is m (omega arith)))
      ∙ one-minterm (f (mask_bits n m)) m (minterms f (map (mask_bits n) (range (suc m) k)))

  mask-lines : mask_lines parity n ≡ lines_text (minterms f (masks n))
  mask-lines = lines_from (2 ^ n) 0 (omega arith) ∙ ap (λ (vs : List (List Bool)). lines_text (minterms f vs)) (sym (masks-range n))

pub xor-lines : (n : ℕ) → mask_lines 1 n ≡ lines_text (lines_of XorN n)
xor-lines n = mask-lines 1 n odd (odd-bits n)

pub xnor-lines : (n : ℕ) → mask_lines 0 n ≡ lines_text (lines_of XnorN n)
xnor-lines n = mask-lines 0 n even (even-bits n)

-- ---- a type that an arm of a match knows

pub lines_at : {t u : NaryType} {s : Bytes} (n : ℕ) → t ≡ u → s ≡ lines_text (lines_of (nary_form u) n) → s ≡ lines_text (lines_of (nary_form t) n)
lines_at n e h = h ∙ ap (λ (x : NaryType). lines_text (lines_of (nary_form x) n)) (sym e)
