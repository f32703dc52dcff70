-- Rows of 0 and 1 as texts: a line read into a table of bits one character after the other, and bits written as a line. Assumes nothing.
use Rattle.std.specs.Prelude.{if◌then◌else◌}
use mathlib.Core.Path.{◌≡◌, refl, sym, ap, ◌∙◌, subst}
use mathlib.Core.Bool.{Bool, true, false, ◌&&◌}
use mathlib.Core.List.{List, [], ◌∷◌, map, append-nil}
use mathlib.Core.Option.{none, some}
use Prim.Native.Nat.{ℕ, suc, ◌+◌, ◌-◌, ◌*◌, ◌≤◌, ◌<◌}
use native.Mathlib.Omega.{arith}
use mir.Val.{bool_byte}
use lib.Dec.{eqb}
use lib.ListN.{length, get_or, take, drop, set, length-append, length-map, drop_of_length-le, get_or-map}
use lib.Seq.{drop-cons, length-take-le, get_or-take}
use Rattle.lists.specs.Lists.{Bytes, same, all}
use Rattle.lists.proofs.Tests.{and-true, below_next}
use Rattle.lists.proofs.Places.{drop-next}
use Rattle.lists.proofs.Over.{overwrite-is}
use Rattle.lists.proofs.Laying.{Laying, laying-start, laying-next, laying-done}
use Rattle.lists.proofs.Range.{Tested, tested-next, tested-fails, tested-done}
use Rattle.signal.specs.Signal.{Const, Input, Var}
use Rattle.gate_bits.specs.Between.Slots.{slot_count, bit_at, pin_bits, Shows}
use Rattle.run_rows.specs.Rows.{digit, line_end, row_text, is_digit, digit_bit, row_of}
use Rattle.run_rows.specs.Between.Steps.{RowTaken, RowRead}
use Rattle.run_rows.specs.Between.Asks.{RowRoom}
use Rattle.run_rows.proofs.Showing.{put, length-put, put-input, input-keeps-const, input-keeps-gate, input-keeps-input}

-- ---- a line read

-- the characters before a line's last
abbrev front : Bytes → Bytes
front line = take (length line - 1) line

-- and the last
abbrev last : Bytes → ℕ
last line = get_or line (length line - 1) 0

-- a line is a row where all characters but the last are digits, and the last is LF
row_is : (line : Bytes) → 0 < length line
    → row_of (length line - 1) line ≡ (if all is_digit (front line) && eqb (last line) line_end then some (map digit_bit (front line)) else none)
unfolding row_of same
row_is line h =
    let n = length line - 1 in
    let all_of : length line ≤ suc n = omega arith in
    let end : drop n line ≡ last line ∷ [] = drop-cons line n 0 (omega arith) ∙ ap (λ (t : Bytes). last line ∷ t) (drop_of_length-le line all_of) in
    ap (λ (b : Bool). if all is_digit (front line) && b then some (map digit_bit (front line)) else none)
    (ap (λ (t : Bytes). same t (line_end ∷ [])) end ∙ and-true (eqb (last line) line_end))

-- the first i characters are digits, and the table, which was `bits`, has their bits now
pub record Reading (line : Bytes) (bits bits' : List Bool) (i : ℕ) : Type 0 where
  -- each of them is a digit
  pub digits : Tested is_digit (front line) i
  -- its bit is that of the input
  pub inputs : (j : ℕ) → j < i → Shows bits' (Input j) (digit_bit (get_or line j 0))
  -- a table as before
  pub size : length bits' ≡ length bits
  -- the constant's bit
  pub const : {b : Bool} → Shows bits Const b → Shows bits' Const b
  -- the gates' bits
  pub gates : (g : ℕ) {b : Bool} → g < 1024 → Shows bits (Var g) b → Shows bits' (Var g) b

module _ {line : Bytes} {bits bits' : List Bool} {i : ℕ} (room : RowRoom line) (c : Reading line bits bits' i) where
  front_long : length (front line) ≡ length line - 1
  front_long = length-take-le (length line - 1) line (omega arith)

  front_at : (j : ℕ) → j < length line - 1 → get_or (front line) j 0 ≡ get_or line j 0
  front_at j l = get_or-take (length line - 1) line j 0 l

  -- what is read, where it is known whether the line is a row
  read : {r : Bool} → RowTaken (row_of (length line - 1) line) bits' r → RowRead line bits bits' r
  read t = record { taken = t; size = c.size; const = c.const; gates = c.gates }

  reading-one : length bits ≡ slot_count → i < length line - 1 → is_digit (get_or line i 0) ≡ true
      → Reading line bits (put bits' (4094 - 2 * i) (digit_bit (get_or line i 0))) (i + 1)
  reading-one l h t =
      let b : Bool = digit_bit (get_or line i 0) in
      let slot : ℕ = 4094 - 2 * i in
      let few : i < 256 = omega (arith, room.few) in
      let place : slot ≡ 4096 - 2 * (i + 1) = omega arith in
      record {
        digits = tested-next 0 c.digits (omega (arith, front_long)) (ap is_digit (front_at i h) ∙ t);
        inputs =
            below_next (λ j. Shows (put bits' slot b) (Input j) (digit_bit (get_or line j 0))) i
            (λ j m. input-keeps-input bits' b i few place j (omega arith) (λ e. omega arith) (c.inputs j m))
            (put-input bits' b i few place (c.size ∙ l));
        size = length-put bits' slot b ∙ c.size;
        const = λ s. input-keeps-const bits' b i few place (c.const s);
        gates = λ g m s. input-keeps-gate bits' b i few place g m (c.gates g m s);
      }

  pub reading-next : length bits ≡ slot_count → i < length (front line) → is_digit (get_or (front line) i 0) ≡ true
      → Reading line bits (put bits' (4094 - 2 * i) (digit_bit (get_or (front line) i 0))) (i + 1)
  reading-next l h t =
      let k : i < length line - 1 = omega (arith, front_long) in
      let e : get_or (front line) i 0 ≡ get_or line i 0 = front_at i k in
      subst (λ (x : ℕ). Reading line bits (put bits' (4094 - 2 * i) (digit_bit x)) (i + 1)) (sym e) (reading-one l k (sym (ap is_digit e) ∙ t))

  pub reading-fails : i < length (front line) → is_digit (get_or (front line) i 0) ≡ false → RowRead line bits bits' false
  reading-fails h t =
      let f : false ≡ all is_digit (front line) = tested-fails 0 c.digits h t in
      read (rw (row_is line room.some_byte, ← f) refl)

  pub reading-done : length (front line) ≤ i → RowRead line bits bits' (eqb (last line) line_end)
  reading-done h =
      let t : true ≡ all is_digit (front line) = tested-done 0 c.digits h in
      read (rw (row_is line room.some_byte, ← t) (taken (eqb (last line) line_end)))
    where
      shown : (j : ℕ) → j < length (map digit_bit (front line)) → Shows bits' (Input j) (get_or (map digit_bit (front line)) j false)
      shown j l =
          let m : j < length line - 1 = omega (arith, front_long, length-map (front line) digit_bit) in
          subst (Shows bits' (Input j)) (sym (get_or-map digit_bit (front line) j 0 ∙ ap digit_bit (front_at j m))) (c.inputs j (omega (arith, front_long)))

      taken : (r : Bool) → RowTaken (if r then some (map digit_bit (front line)) else none) bits' r
      taken true = (refl, shown)
      taken false = refl

-- ---- a line written

-- the code's character of a bit
pub digit-is : (b : Bool) → 48 + bool_byte b ≡ digit b
digit-is true = refl
digit-is false = refl

-- the first i outputs' characters are written to the line, which was `old`
pub record Writing (bits : List Bool) (outs old line : List ℕ) (i : ℕ) : Type 0 where
  -- no more than there are
  pub within : i ≤ length outs
  -- those of the others are left, and the LF
  pub laying : Laying (row_text (pin_bits bits outs)) old 0 (row_text (pin_bits bits (drop i outs))) line i

module _ {bits : List Bool} {outs old : List ℕ} where
  pub writing_start : Writing bits outs old old 0
  writing_start = record { within = omega arith; laying = laying-start refl refl }

  module _ {line : List ℕ} {i : ℕ} (c : Writing bits outs old line i) where
    pub writing-next : {x : ℕ} → i < length outs → x ≡ digit (bit_at bits (get_or outs i 0)) → Writing bits outs old (set line i x) (i + 1)
    writing-next h e =
        record { within = omega arith; laying = laying-next c.laying (rw (drop-next outs i 0 h, e)) refl }

    writing-end : length old ≡ suc (length outs) → length outs ≤ i → set line i line_end ≡ row_text (pin_bits bits outs)
    writing-end l h =
        let text = row_text (pin_bits bits outs) in
        let long : length text ≡ length old = simp (length-append, length-map) (omega arith) in
        let full : length old ≤ length text = omega arith in
        laying-done (laying-next c.laying {more = []} (rw (drop_of_length-le outs h)) refl) refl
        ∙ overwrite-is text old (omega arith)
        ∙ rw (drop_of_length-le old full, append-nil)

    pub writing-done : length old ≡ suc (length outs) → length outs ≤ i → set line (length outs) line_end ≡ row_text (pin_bits bits outs)
    writing-done l h =
        let e : length outs ≡ i = omega (arith, c.within) in
        ap (λ (k : ℕ). set line k line_end) e ∙ writing-end l h
