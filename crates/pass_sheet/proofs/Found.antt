-- The answer of `read_sheet`, from the places of the lines. Assumes nothing.
use Rattle.std.specs.Prelude.{Ok, Err}
use mathlib.Core.Path.{◌≡◌, sym, ap, ap₂, ◌∙◌}
use mathlib.Core.Bool.{true, false}
use mathlib.Core.List.{List, [], ◌∷◌, ◌++◌, flat_map}
use Prim.Native.Nat.{ℕ, ◌+◌, ◌-◌, ◌≤◌, ◌<◌}
use native.Mathlib.Omega.{arith}
use lib.Dec.{eqb, leb}
use lib.ListN.{length, get_or, take, drop, length-drop, drop_of_length-le}
use lib.Seq.{get_or-drop, length-take-le}
use borrow.Author.Tests.{eqb-true, lt-leb}
use Rattle.lists.specs.Lists.{Bytes}
use Rattle.lists.proofs.Tests.{and_right}
use Rattle.lists.proofs.OverAt.{part-is}
use Rattle.refusals.specs.declared.Refusal.TheVariants as refusal
use Rattle.blif_text.specs.Lines.{split, ends_in_lf}
use Rattle.blif_text.specs.Between.Scan.{LineAfter}
use Rattle.pass_sheet.specs.Sheet.{is_part_line, is_rows_line, in_order, max_sheet, is_whole, sheet_of}
use Rattle.pass_sheet.specs.Between.Places.{sheet_answer}
use Rattle.pass_sheet.specs.Between.HeadLines.{HeadLines}
use Rattle.pass_sheet.proofs.Lines.{ended_at, lines-again}
use Rattle.pass_sheet.proofs.HeadTests.{part-line-long}

-- ---- whether the text is whole

pub whole_long : (t : Bytes) → 40960 < length t → false ≡ is_whole t
unfolding is_whole
whole_long t h = rw (lt-leb (length t) 40960 h)

-- what is not whole is no sheet
pub not-whole : (t : Bytes) → is_whole t ≡ false → Err refusal.WrongSheet ≡ sheet_answer t (sheet_of t)
unfolding sheet_of
not-whole t e = rw e

-- a text whose last byte is an LF has a byte
some_byte : (t : Bytes) → get_or t (length t - 1) 0 ≡ 10 → 0 < length t
some_byte [] e = absurd (omega (arith, e))
some_byte (c ∷ t) e = omega arith

module _ (t : Bytes) (w : is_whole t ≡ true) where
  pub by_lines : sheet_answer t (in_order (split (eqb 10) t)) ≡ sheet_answer t (sheet_of t)
  unfolding sheet_of
  by_lines = rw w

  last-lf : get_or t (length t - 1) 0 ≡ 10
  unfolding ends_in_lf is_whole
  last-lf = sym (eqb-true 10 (get_or t (length t - 1) 0) (and_right (leb (length t) max_sheet) (ends_in_lf t) w))

  -- where the first line takes the whole text there is no sheet
  pub one_line : {second : ℕ} → LineAfter t 0 second → length t ≤ second → Err refusal.WrongSheet ≡ sheet_answer t (sheet_of t)
  unfolding split in_order
  one_line {second} l h =
      let x = ended_at l (some_byte t last-lf) last-lf in
      let nothing : drop second t ≡ [] = drop_of_length-le t h in
      let line : Bytes = take (second - 1 - 0) (drop 0 t) in
      let cuts : split (eqb 10) t ≡ line ∷ [] = x.cuts ∙ ap (λ (s : Bytes). line ∷ split (eqb 10) s) nothing in
      sym (ap (λ (ls : List Bytes). sheet_answer t (in_order ls)) cuts) ∙ by_lines

  -- else there are two lines before the others
  pub two-lines : {second third : ℕ} → LineAfter t 0 second → second < length t → LineAfter t second third → HeadLines t second third
  two-lines {second} {third} l h m =
      let x = ended_at l (some_byte t last-lf) last-lf in
      let y = ended_at m h last-lf in
      let width : second - 1 - 0 ≡ second - 1 = omega arith in
      record {
        first = x.low;
        low = y.low;
        high = y.high;
        cuts = x.cuts ∙ ap₂ (λ (k : ℕ) (ls : List Bytes). take k t ∷ ls) width y.cuts;
        ended =
            lines-again (drop third t)
            (λ n e. let place : third + n ≡ length t - 1 = omega (arith, e, length-drop third t, y.high) in get_or-drop third t n 0 ∙ ap (λ (i : ℕ). get_or t i 0) place ∙ last-lf);
      }

-- ---- from the two lines before the others

module _ {t : Bytes} {second third : ℕ} (h : HeadLines t second third) where
  abbrev first-line : Bytes
  first-line = take (second - 1) t

  abbrev second-line : Bytes
  second-line = take (third - 1 - second) (drop second t)

  abbrev rows : List Bytes
  rows = split (eqb 10) (drop third t)

  pub wrong-part : is_part_line first-line ≡ false → Err refusal.WrongSheet ≡ sheet_answer t (in_order (split (eqb 10) t))
  unfolding in_order
  wrong-part e = rw (h.cuts, e)

  pub long-enough : is_part_line first-line ≡ true → 6 < second
  long-enough e = omega (arith, part-line-long first-line e, length-take-le (second - 1) t (omega (arith, h.first, h.low, h.high)), h.first)

  -- n lines stand in what is left
  module _ {n : ℕ} (counted : n ≡ length (split (eqb 10) (take (length t - third) (drop third t)))) (e : is_part_line first-line ≡ true) where
    rows_are : n ≡ length rows
    rows_are = counted ∙ ap (λ (s : Bytes). length (split (eqb 10) s)) (part-is third t)

    pub wrong-rows : is_rows_line n second-line ≡ false → Err refusal.WrongSheet ≡ sheet_answer t (in_order (split (eqb 10) t))
    unfolding in_order
    wrong-rows f = rw (h.cuts, e, sym rows_are, f)

    pub right-lines : is_rows_line n second-line ≡ true → Ok (record { part = second - 6; rows = n; commands = third }) ≡ sheet_answer t (in_order (split (eqb 10) t))
    unfolding in_order
    right-lines f =
        let long : length first-line ≡ second - 1 = length-take-le (second - 1) t (omega (arith, h.first, h.low, h.high)) in
        let part : second - 6 ≡ length (drop 5 first-line) = omega (arith, length-drop 5 first-line, long, long-enough e) in
        let behind : third ≡ length t - length (drop third t) = omega (arith, length-drop third t, h.high) in
        let found : is_rows_line (length rows) second-line ≡ true = ap (λ (k : ℕ). is_rows_line k second-line) (sym rows_are) ∙ f in
        let commands : third ≡ length t - length (flat_map (λ (l : Bytes). l ++ 10 ∷ []) rows) = behind ∙ ap (λ (s : Bytes). length t - length s) (sym h.ended) in
        rw (h.cuts, e, found) (λ i. Ok (record { part = part i; rows = rows_are i; commands = commands i }))
