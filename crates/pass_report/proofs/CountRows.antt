-- Counting rows of outputs by the first character of each. Assumes nothing.
use mathlib.Core.Path.{◌≡◌, refl, sym, ap, ◌∙◌, subst}
use mathlib.Core.Bool.{Bool, true, false, not}
use mathlib.Core.List.Memᴰ
use mathlib.Core.List.{List, [], ◌∷◌}
use Prim.Native.Nat.{ℕ, suc, ◌+◌, ◌≤◌, ◌<◌}
use native.Mathlib.Omega.{arith}
use native.Mathlib.Nat.{add-zero}
use mir.Val.{bool_byte}
use lib.Dec.{eqb}
use lib.ListN.{length, get_or, drop, length-drop, drop_of_length-le, length-append}
use lib.Seq.{drop-drop, drop_at, get_or-drop}
use Rattle.lists.specs.Lists.{Bytes, filter}
use Rattle.run_rows.specs.Rows.{digit, row_text, rows_text}
use Rattle.run_rows.proofs.RowsOf.{length-row_text}
use Rattle.pass_report.specs.Report.{accepts, rejects, verdicts_of}
use Rattle.pass_report.specs.Between.Rows.{OutputRows}

-- 1 for a bit that is one, else 0
abbrev pub one : Bool → ℕ
one true = 1
one false = 0

abbrev pub accepted_of : List (List Bool) → ℕ
accepted_of outs = length (filter accepts outs)

abbrev pub rejected_of : List (List Bool) → ℕ
rejected_of outs = length (filter rejects outs)

pub accepted-cons : (b : Bool) (bits : List Bool) (outs : List (List Bool)) → accepted_of ((b ∷ bits) ∷ outs) ≡ one b + accepted_of outs
accepted-cons true bits outs = omega arith
accepted-cons false bits outs = omega arith

pub rejected-cons : (b : Bool) (bits : List Bool) (outs : List (List Bool)) → rejected_of ((b ∷ bits) ∷ outs) ≡ one (not b) + rejected_of outs
rejected-cons true bits outs = omega arith
rejected-cons false bits outs = omega arith

-- ---- the next row

-- the first row of those left, by its first bit
record FirstRow (outs : List (List Bool)) (width : ℕ) (t : Bytes) : Type 0 where
  bit : Bool
  byte : get_or t 0 0 ≡ digit bit
  others : List (List Bool)
  left : OutputRows others width (drop width t)
  accepted : accepted_of outs ≡ one bit + accepted_of others
  rejected : rejected_of outs ≡ one (not bit) + rejected_of others
  long : width ≤ length t

first-row : (outs : List (List Bool)) {width : ℕ} {t : Bytes} → OutputRows outs width t → 0 < length t → FirstRow outs width t
first-row [] {t = t} o h = absurd (omega (arith, ap length o.text))
first-row ([] ∷ outs) o h = absurd (omega (arith, o.wide [] (Memᴰ.head refl), o.some-output))
first-row ((b ∷ bits) ∷ outs) {width} {t} o h =
    let row : length (row_text (b ∷ bits)) ≡ width = length-row_text (b ∷ bits) ∙ ap suc (o.wide (b ∷ bits) (Memᴰ.head refl)) ∙ sym o.width_is in
    record {
      bit = b;
      byte = ap (λ (s : Bytes). get_or s 0 0) o.text;
      others = outs;
      left = record {
        text = ap (drop width) o.text ∙ drop_at (row_text (b ∷ bits)) (rows_text outs) width row;
        outputs = o.outputs;
        some-output = o.some-output;
        wide = λ r m. o.wide r (Memᴰ.tail m);
        width_is = o.width_is;
      };
      accepted = accepted-cons b bits outs;
      rejected = rejected-cons b bits outs;
      long = omega (arith, ap length o.text, length-append (row_text (b ∷ bits)) (rows_text outs), row);
    }

-- ---- the loop

-- of these rows, those from at on are left
pub record LeftFrom (outs : List (List Bool)) (width : ℕ) (t : Bytes) (at a r : ℕ) : Type 0 where
  pub left : List (List Bool)
  pub rows : OutputRows left width (drop at t)
  pub accepted : accepted_of outs ≡ a + accepted_of left
  pub rejected : rejected_of outs ≡ r + rejected_of left

-- a rows before at are accepted and r rejected, whatever rows the bytes are
pub record Counting (width : ℕ) (t : Bytes) (at a r : ℕ) : Type 0 where
  pub few-accepted : a ≤ at
  pub few-rejected : r ≤ at
  pub inside : at ≤ length t
  pub each : (outs : List (List Bool)) → OutputRows outs width t → LeftFrom outs width t at a r

pub counting-start : (width : ℕ) (t : Bytes) → Counting width t 0 0 0
counting-start width t = record {
  few-accepted = omega arith;
  few-rejected = omega arith;
  inside = omega arith;
  each = λ outs o. record { left = outs; rows = o; accepted = omega arith; rejected = omega arith };
}

-- what the code adds for a row
pub adds_one : (b : Bool) → bool_byte b ≤ 1
adds_one true = omega arith
adds_one false = omega arith

adds-accepted : (b : Bool) → bool_byte (eqb (digit b) 49) ≡ one b
adds-accepted true = refl
adds-accepted false = refl

adds-rejected : (b : Bool) → bool_byte (eqb (digit b) 48) ≡ one (not b)
adds-rejected true = refl
adds-rejected false = refl

module _ {width : ℕ} {t : Bytes} {at a r : ℕ} (c : Counting width t at a r) (h : at < length t) where
  some_left : 0 < length (drop at t)
  some_left = omega (arith, length-drop at t)

  next-byte : get_or (drop at t) 0 0 ≡ get_or t at 0
  next-byte = get_or-drop at t 0 0 ∙ ap (λ (k : ℕ). get_or t k 0) (add-zero at)

  module _ (some : (outs : List (List Bool)) × OutputRows outs width t) where
    -- the row ends within the bytes
    pub row_inside : at + width ≤ length t
    row_inside =
        let l = c.each some.0 some.1 in
        omega (arith, (first-row l.left l.rows some_left).long, length-drop at t)

    pub row-wide : 0 < width
    row-wide = omega (arith, some.1.width_is)

    pub counting-next : Counting width t (at + width) (a + bool_byte (eqb (get_or t at 0) 49)) (r + bool_byte (eqb (get_or t at 0) 48))
    counting-next = record {
      few-accepted = omega (arith, c.few-accepted, adds_one (eqb (get_or t at 0) 49), row-wide);
      few-rejected = omega (arith, c.few-rejected, adds_one (eqb (get_or t at 0) 48), row-wide);
      inside = row_inside;
      each = λ outs o.
          let l = c.each outs o in
          let f = first-row l.left l.rows some_left in
          let is : get_or t at 0 ≡ digit f.bit = sym next-byte ∙ f.byte in
          record {
            left = f.others;
            rows = subst (OutputRows f.others width) (drop-drop width at t) f.left;
            accepted = omega (arith, l.accepted, f.accepted, ap (λ (x : ℕ). bool_byte (eqb x 49)) is ∙ adds-accepted f.bit);
            rejected = omega (arith, l.rejected, f.rejected, ap (λ (x : ℕ). bool_byte (eqb x 48)) is ∙ adds-rejected f.bit);
          };
    }

-- no row is left
none_left : (left : List (List Bool)) {width : ℕ} {t : Bytes} → OutputRows left width t → t ≡ [] → left ≡ []
none_left [] o e = refl
none_left (row ∷ left) o e =
    absurd (omega (arith, ap length (sym o.text ∙ e), length-append (row_text row) (rows_text left), length-row_text row))

pub counting-done : {width : ℕ} {t : Bytes} {at a r : ℕ} → Counting width t at a r → length t ≤ at
    → (outs : List (List Bool)) → OutputRows outs width t → record { accepted = a; rejected = r } ≡ verdicts_of outs
counting-done {width} {t} {at} {a} {r} c h outs o =
    let l = c.each outs o in
    let nothing : drop at t ≡ [] = drop_of_length-le t h in
    let none : l.left ≡ [] = none_left l.left l.rows nothing in
    let accepted : a ≡ accepted_of outs = omega (arith, l.accepted, ap accepted_of none) in
    let rejected : r ≡ rejected_of outs = omega (arith, l.rejected, ap rejected_of none) in
    λ i. record { accepted = accepted i; rejected = rejected i }
