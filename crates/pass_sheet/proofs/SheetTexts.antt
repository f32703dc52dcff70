-- Which texts are sheets: just the texts of sheets, and each of one. Assumes nothing.
use mathlib.Core.Path.{◌≡◌, refl, sym, ap, ap₂, ◌∙◌, subst}
use mathlib.Core.Bool.{true, false, ◌&&◌, not, false≢true}
use mathlib.Core.List.{List, [], ◌∷◌, ◌++◌, flat_map, append_assoc}
use mathlib.Core.Option.{some, none-ne-some}
use mathlib.Core.Logic.{◌↔◌}
use Prim.Native.Nat.{ℕ, zero, suc, ◌-◌, ◌≤◌}
use native.Mathlib.Omega.{arith}
use lib.Dec.{eqb, leb}
use lib.ListN.{length, get_or, take, drop, take-append-drop, length-append}
use lib.Seq.{take_at, drop_at}
use borrow.Author.Tests.{not-true, eqb-true, eq-eqb, le-leb, leb-true}
use Rattle.lists.specs.Lists.{Bytes, bytes, same, all, any, range}
use Rattle.lists.proofs.Tests.{by-test, and_left, and_right}
use Rattle.lists.proofs.Same.{same-is, same_refl}
use Rattle.lists.proofs.Every.{any_append}
use Rattle.lists.proofs.Range.{range_all}
use Rattle.blif_writing.specs.Names.{decimal}
use Rattle.blif_text.specs.Lines.{cons_first, split, ends_in_lf}
use Rattle.blif_text.proofs.Parts.{Without, split-end}
use Rattle.blif_text.proofs.Splitting.{ended}
use Rattle.pass_sheet.specs.Sheet.{Sheet, is_letter_or_digit, is_part, is_part_line, is_row_count, is_rows_line, in_order, max_sheet, is_whole, sheet_of, command_text, sheet_text, IsSheet}
use Rattle.pass_sheet.proofs.Lines.{Closed, lines-again}

-- ---- lines without an LF

-- no line has an LF in it
abbrev pub NoLf : List Bytes → Type 0
NoLf ls = all (λ row. not (any (eqb 10) row)) ls ≡ true

-- the lines of a text are such
first-no-lf : (c : ℕ) (ls : List Bytes) → eqb 10 c ≡ false → NoLf ls → NoLf (cons_first c ls)
unfolding cons_first
first-no-lf c [] e f = rw e
first-no-lf c (l ∷ ls) e f = rw e f

lines-no-lf : (t : Bytes) → NoLf (split (eqb 10) t)
unfolding split
lines-no-lf [] = refl
lines-no-lf (c ∷ t) = by-test (eqb 10 c) (λ e. rw e (lines-no-lf t)) (λ e. rw e (first-no-lf c (split (eqb 10) t) e (lines-no-lf t)))

-- and such lines, each with an LF behind it, come back
pub ended-again : (ls : List Bytes) → NoLf ls → split (eqb 10) (ended ls) ≡ ls
unfolding split flat_map
ended-again [] f = refl
ended-again (l ∷ ls) f =
    let free : Without (eqb 10) l = not-true (any (eqb 10) l) (and_left (not (any (eqb 10) l)) (all (λ row. not (any (eqb 10) row)) ls) f) in
    let rest : NoLf ls = and_right (not (any (eqb 10) l)) (all (λ row. not (any (eqb 10) row)) ls) f in
    ap (split (eqb 10)) (append_assoc l (10 ∷ []) (ended ls))
    ∙ split-end (eqb 10) l 10 (ended ls) free refl
    ∙ ap (λ (r : List Bytes). l ∷ r) (ended-again ls rest)

-- ---- from a text to its sheet

pub record SheetLines (t : Bytes) (s : Sheet) : Type 0 where
  pub first : Bytes
  pub second : Bytes
  pub lines : split (eqb 10) t ≡ first ∷ second ∷ s.rows
  pub part : s.part ≡ drop 5 first
  pub is-first : is_part_line first ≡ true
  pub is-second : is_rows_line (length s.rows) second ≡ true

in_order_lem : {t : Bytes} {s : Sheet} (ls : List Bytes) → split (eqb 10) t ≡ ls → in_order ls ≡ some s → SheetLines t s
unfolding in_order
in_order_lem [] q e = absurd (none-ne-some _ e)
in_order_lem (first ∷ []) q e = absurd (none-ne-some _ e)
in_order_lem {t} {s} (first ∷ second ∷ rows) q e =
    by-test (is_part_line first && is_rows_line (length rows) second)
    (λ h.
    let is : record { part = drop 5 first; rows = rows } ≡ s = (let z = rw h at e in cc) in
    rw (sym is) (record {
      first = first;
      second = second;
      lines = q;
      part = refl;
      is-first = and_left (is_part_line first) (is_rows_line (length rows) second) h;
      is-second = and_right (is_part_line first) (is_rows_line (length rows) second) h;
    }))
    (λ h. absurd (none-ne-some s (rw h at e)))

-- the two lines before the rows
abbrev part_line : Sheet → Bytes
part_line s = bytes "part=" ++ s.part

abbrev rows_line : Sheet → Bytes
rows_line s = bytes "rows=" ++ decimal (length s.rows) []

-- a sheet's text is its lines, each with an LF behind it
pub lines_of : (s : Sheet) → ended (part_line s ∷ rows_line s ∷ s.rows) ≡ sheet_text s
unfolding flat_map
lines_of s = sym (append_assoc (part_line s ++ 10 ∷ []) (rows_line s ++ 10 ∷ []) (command_text s))

-- the first two lines are those of the sheet
first-is : {t : Bytes} {s : Sheet} (l : SheetLines t s) → l.first ≡ part_line s
unfolding is_part_line
first-is {s = s} l =
    let key : take 5 l.first ≡ bytes "part=" = same-is (take 5 l.first) (bytes "part=") (and_left (same (take 5 l.first) (bytes "part=")) (is_part (drop 5 l.first)) l.is-first) in
    sym (take-append-drop 5 l.first) ∙ ap₂ (λ (a b : Bytes). a ++ b) key (sym l.part)

second_is : {t : Bytes} {s : Sheet} (l : SheetLines t s) → l.second ≡ rows_line s
unfolding is_rows_line
second_is {s = s} l = same-is l.second (rows_line s) (and_right (is_row_count (length s.rows)) (same l.second (rows_line s)) l.is-second)

closed : (t : Bytes) → ends_in_lf t ≡ true → Closed t
unfolding ends_in_lf
closed t e n h = let place : length t - 1 ≡ n = omega (arith, h) in ap (λ (i : ℕ). get_or t i 0) (sym place) ∙ sym (eqb-true 10 (get_or t (length t - 1) 0) e)

pub sheet-lines : (t : Bytes) {s : Sheet} → sheet_of t ≡ some s → (is_whole t ≡ true) × SheetLines t s
unfolding sheet_of
sheet-lines t {s} e =
    by-test (is_whole t) (λ w. (w, in_order_lem (split (eqb 10) t) refl (rw w at e))) (λ w. absurd (none-ne-some s (rw w at e)))

pub sheet-text : (t : Bytes) {s : Sheet} → sheet_of t ≡ some s → (t ≡ sheet_text s) × IsSheet s
unfolding is_whole is_part_line is_rows_line
sheet-text t {s} e =
    let l = sheet-lines t e in
    let lf = closed t (and_right (leb (length t) max_sheet) (ends_in_lf t) l.0) in
    let text : t ≡ sheet_text s =
    sym (lines-again t lf)
    ∙ ap ended l.1.lines
    ∙ ap₂ (λ (a b : Bytes). ended (a ∷ b ∷ s.rows)) (first-is l.1) (second_is l.1)
    ∙ lines_of s in
    let no-lf : NoLf (l.1.first ∷ l.1.second ∷ s.rows) = subst NoLf l.1.lines (lines-no-lf t) in
    let first = l.1.first in
    let second = l.1.second in
    let behind : NoLf (second ∷ s.rows) = and_right (not (any (eqb 10) first)) (all (λ row. not (any (eqb 10) row)) (second ∷ s.rows)) no-lf in (
      text,
      record {
        part = ap is_part l.1.part ∙ and_right (same (take 5 first) (bytes "part=")) (is_part (drop 5 first)) l.1.is-first;
        count = and_left (is_row_count (length s.rows)) (same second (rows_line s)) l.1.is-second;
        rows = and_right (not (any (eqb 10) second)) (all (λ row. not (any (eqb 10) row)) s.rows) behind;
        size = subst (λ (u : Bytes). length u ≤ max_sheet) text (leb-true (length t) max_sheet (and_left (leb (length t) max_sheet) (ends_in_lf t) l.0));
      },
    )

-- ---- from a sheet to its text

-- a letter or digit is no LF
letter-no-lf : (c : ℕ) → is_letter_or_digit c ≡ true → eqb 10 c ≡ false
unfolding is_letter_or_digit
letter-no-lf c e = by-test (eqb 10 c) (λ h. let z : 10 ≡ c = eqb-true 10 c h in absurd (false≢true (subst (λ (k : ℕ). is_letter_or_digit k ≡ true) (sym z) e))) (λ h. h)

letters-no-lf : (p : Bytes) → all is_letter_or_digit p ≡ true → any (eqb 10) p ≡ false
letters-no-lf [] e = refl
letters-no-lf (c ∷ p) e =
    rw (letter-no-lf c (and_left (is_letter_or_digit c) (all is_letter_or_digit p) e), letters-no-lf p (and_right (is_letter_or_digit c) (all is_letter_or_digit p) e))

-- nor is a digit of a number up to 128
digits-no-lf : all (λ n. not (any (eqb 10) (decimal n []))) (range 0 129) ≡ true
digits-no-lf = refl

-- what ends in LF does so behind other bytes too
closed-behind : (w : Bytes) (c : ℕ) (t : Bytes) → Closed (c ∷ t) → Closed (w ++ c ∷ t)
closed-behind [] c t f n h = f n h
closed-behind (b ∷ w) c t f zero h = absurd (omega (arith, h, length-append w (c ∷ t)))
closed-behind (b ∷ w) c t f (suc n) h = closed-behind w c t f n (omega (arith, h))

closed-lf : (t : Bytes) → Closed t → Closed (10 ∷ t)
closed-lf t f zero h = refl
closed-lf t f (suc n) h = f n (omega (arith, h))

ended-closed : (ls : List Bytes) → Closed (ended ls)
unfolding flat_map
ended-closed [] n h = absurd (omega (arith, h))
ended-closed (l ∷ ls) n h =
    subst Closed (sym (append_assoc l (10 ∷ []) (ended ls))) (closed-behind l 10 (ended ls) (closed-lf (ended ls) (ended-closed ls))) n h

module _ (s : Sheet) (is : IsSheet s) where
  pub rows_few : length s.rows ≤ 128
  unfolding is_row_count
  rows_few = leb-true (length s.rows) 128 (and_right (leb 1 (length s.rows)) (leb (length s.rows) 128) is.count)

  no-lf-lines : NoLf (part_line s ∷ rows_line s ∷ s.rows)
  unfolding is_part
  no-lf-lines =
      let letters = and_right (leb 1 (length s.part) && leb (length s.part) 16) (all is_letter_or_digit s.part) is.part in
      let number = not-true (any (eqb 10) (decimal (length s.rows) [])) (range_all (λ (n : ℕ). not (any (eqb 10) (decimal n []))) 0 129 digits-no-lf (length s.rows) (omega arith) (omega (arith, rows_few))) in
      rw (any_append (eqb 10) (bytes "part=") s.part (letters-no-lf s.part letters), any_append (eqb 10) (bytes "rows=") (decimal (length s.rows) []) number) is.rows

  lines_are : split (eqb 10) (sheet_text s) ≡ part_line s ∷ rows_line s ∷ s.rows
  lines_are = ap (split (eqb 10)) (sym (lines_of s)) ∙ ended-again (part_line s ∷ rows_line s ∷ s.rows) no-lf-lines

  last-lf : ends_in_lf (sheet_text s) ≡ true
  unfolding ends_in_lf
  last-lf =
      let t : Bytes = sheet_text s in
      let f : Closed t = subst Closed (lines_of s) (ended-closed (part_line s ∷ rows_line s ∷ s.rows)) in
      eq-eqb 10 (get_or t (length t - 1) 0) (sym (f (length t - 1) (omega arith)))

  pub text-sheet : sheet_of (sheet_text s) ≡ some s
  unfolding sheet_of is_whole in_order is_part_line is_rows_line
  text-sheet =
      let key : take 5 (part_line s) ≡ bytes "part=" = take_at (bytes "part=") s.part 5 refl in
      let value : drop 5 (part_line s) ≡ s.part = drop_at (bytes "part=") s.part 5 refl in
      rw (le-leb (length (sheet_text s)) max_sheet is.size, last-lf, lines_are, key, value, is.part, is.count, same_refl (rows_line s), same_refl (bytes "part="))

-- ---- both ways

pub sheets-are : (t : Bytes) (s : Sheet) → (sheet_of t ≡ some s) ↔ ((t ≡ sheet_text s) × IsSheet s)
sheets-are t s = (sheet-text t, (λ w. ap sheet_of w.0 ∙ text-sheet s w.1))

-- the rows are the lines of their text
pub command-lines : (s : Sheet) → IsSheet s → split (eqb 10) (command_text s) ≡ s.rows
command-lines s is = ended-again s.rows is.rows
