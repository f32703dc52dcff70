-- Which texts have rows: just the texts of rows of as many bits. Assumes nothing.
use mathlib.Core.Path.{◌≡◌, refl, sym, ap, ap₂, ◌∙◌, subst}
use mathlib.Core.Logic.{◌↔◌, ⊎_elim}
use mathlib.Core.Bool.{Bool, true, false, ◌&&◌, false≢true}
use mathlib.Core.List.Memᴰ
use mathlib.Core.List.{List, [], ◌∷◌, ◌++◌, map}
use mathlib.Core.Option.{Option, none, some, none-ne-some}
use Prim.Native.Nat.{ℕ, zero, suc, ◌*◌, ◌/◌}
use native.Mathlib.Omega.{arith}
use native.Mathlib.Nat.{zero-mul, suc-mul, div-eq_of_eq-mul_left}
use lib.Dec.{eqb}
use lib.ListN.{length, take, drop, length-map, length-append, length-drop, take-append-drop}
use lib.Seq.{take_at, drop_at, length-take-le}
use borrow.Author.Tests.{eqb-true}
use Rattle.lists.specs.Lists.{Bytes, all, same}
use Rattle.lists.proofs.Tests.{by-test, and_left, and_right}
use Rattle.lists.proofs.Same.{same-is}
use Rattle.network.specs.Net.{Net}
use Rattle.network.specs.Clock.{sig_bit}
use Rattle.network.specs.Settle.{settle, next_of, run_from}
use Rattle.run_rows.specs.Rows.{digit, line_end, row_text, rows_text, is_digit, digit_bit, row_of, row_before, rows_in, rows_of, Wide}

-- ---- one row

-- the character of a character's bit is the character
digit-bit : (c : ℕ) → is_digit c ≡ true → digit (digit_bit c) ≡ c
digit-bit c t =
    by-test (eqb c 49) (λ o. let e : c ≡ 49 = eqb-true c 49 o in rw e)
    (λ o. by-test (eqb c 48) (λ z. let e : c ≡ 48 = eqb-true c 48 z in rw e) (λ z. absurd (false≢true (rw (z, o) at t))))

digits-bits : (t : Bytes) → all is_digit t ≡ true → map digit (map digit_bit t) ≡ t
digits-bits [] e = refl
digits-bits (c ∷ t) e = ap₂ (λ (x : ℕ) (l : Bytes). x ∷ l) (digit-bit c (and_left (is_digit c) (all is_digit t) e)) (digits-bits t (and_right (is_digit c) (all is_digit t) e))

bits-digits : (row : List Bool) → map digit_bit (map digit row) ≡ row
bits-digits [] = refl
bits-digits (true ∷ row) = ap (λ (l : List Bool). true ∷ l) (bits-digits row)
bits-digits (false ∷ row) = ap (λ (l : List Bool). false ∷ l) (bits-digits row)

all_digits : (row : List Bool) → all is_digit (map digit row) ≡ true
all_digits [] = refl
all_digits (true ∷ row) = all_digits row
all_digits (false ∷ row) = all_digits row

pub length-row_text : (row : List Bool) → length (row_text row) ≡ suc (length row)
length-row_text row = omega (arith, length-append (map digit row) (line_end ∷ []), length-map row digit)

-- a line with a row of n bits is the text of that row
pub row-text : (n : ℕ) (line : Bytes) {row : List Bool} → row_of n line ≡ some row → (line ≡ row_text row) × (length row ≡ n)
unfolding row_of
row-text n line {row} e =
    by-test (all is_digit (take n line) && same (drop n line) (line_end ∷ []))
    (λ t.
    let q : map digit_bit (take n line) ≡ row = (let is = rw t at e in cc) in
    let end : drop n line ≡ line_end ∷ [] = same-is (drop n line) (line_end ∷ []) (and_right (all is_digit (take n line)) (same (drop n line) (line_end ∷ [])) t) in
    let text : line ≡ row_text row =
    sym (take-append-drop n line)
    ∙ ap₂ (λ (a b : Bytes). a ++ b) (sym (digits-bits (take n line) (and_left (all is_digit (take n line)) (same (drop n line) (line_end ∷ [])) t)) ∙ ap (map digit) q) end in
    let long : suc (length (drop n line)) ≡ 2 = ap (λ (l : Bytes). suc (length l)) end in
    (text, ap length (sym q) ∙ length-map (take n line) digit_bit ∙ length-take-le n line (omega (arith, length-drop n line))))
    (λ t. absurd (none-ne-some row (rw t at e)))

-- and the text of a row has that row
pub text-row : (row : List Bool) → row_of (length row) (row_text row) ≡ some row
unfolding row_of same
text-row row =
    rw (
      take_at (map digit row) (line_end ∷ []) (length row) (length-map row digit),
      drop_at (map digit row) (line_end ∷ []) (length row) (length-map row digit),
      all_digits row,
      bits-digits row,
    )

-- ---- all rows

pub length-rows_text : (n : ℕ) (rows : List (List Bool)) → Wide n rows → length (rows_text rows) ≡ length rows * suc n
length-rows_text n [] w = sym (zero-mul (suc n))
length-rows_text n (row ∷ rows) w =
    omega (
      arith,
      length-append (row_text row) (rows_text rows),
      length-row_text row,
      w row (Memᴰ.head refl),
      length-rows_text n rows (λ r m. w r (Memᴰ.tail m)),
      suc-mul (length rows) (suc n),
    )

-- a text with k rows of n bits is the text of these rows
rows-text : (n k : ℕ) (t : Bytes) (rows : List (List Bool)) → rows_in n k t ≡ some rows → (t ≡ rows_text rows) × Wide n rows
rows-text n zero [] rows e = let q : [] ≡ rows = cc in rw (sym q) (refl, λ row m. absurd (Memᴰ.not-nil m))
rows-text n zero (c ∷ t) rows e = absurd (none-ne-some rows e)
rows-text n (suc k) t rows e = by (row_of n (take (suc n) t)) (rows_in n k (drop (suc n) t)) refl (λ rest q. rows-text n k (drop (suc n) t) rest q) e
  where
    by : (o : Option (List Bool)) (os : Option (List (List Bool))) → row_of n (take (suc n) t) ≡ o
        → ((rest : List (List Bool)) → os ≡ some rest → (drop (suc n) t ≡ rows_text rest) × Wide n rest) → row_before o os ≡ some rows → (t ≡ rows_text rows) × Wide n rows
    by none os p q h = absurd (none-ne-some rows h)
    by (some row) none p q h = absurd (none-ne-some rows h)
    by (some row) (some rest) p q h =
        let is : row ∷ rest ≡ rows = cc in
        let first = row-text n (take (suc n) t) p in
        let others = q rest refl in
        rw (sym is) (
          sym (take-append-drop (suc n) t) ∙ ap₂ (λ (a b : Bytes). a ++ b) first.0 others.0,
          λ r m. ⊎_elim (λ u. ap length u ∙ first.1) (λ u. others.1 r u) (Memᴰ.cases_cons m),
        )

-- and such a text has these rows
text-rows : (n : ℕ) (rows : List (List Bool)) → Wide n rows → rows_in n (length rows) (rows_text rows) ≡ some rows
text-rows n [] w = refl
text-rows n (row ∷ rows) w =
    let wide : length row ≡ n = w row (Memᴰ.head refl) in
    let long : length (row_text row) ≡ suc n = length-row_text row ∙ ap suc wide in
    let first : row_of n (row_text row) ≡ some row = subst (λ (k : ℕ). row_of k (row_text row) ≡ some row) wide (text-row row) in
    rw (take_at (row_text row) (rows_text rows) (suc n) long, drop_at (row_text row) (rows_text rows) (suc n) long, first, text-rows n rows (λ r m. w r (Memᴰ.tail m)))

-- the texts that have rows of n bits are the texts of such rows, and each has just the one list
pub rows_are : (n : ℕ) (t : Bytes) (rows : List (List Bool)) → (rows_of n t ≡ some rows) ↔ ((t ≡ rows_text rows) × Wide n rows)
unfolding rows_of
rows_are n t rows = (
  (λ e. rows-text n (length t / suc n) t rows e),
  (λ w.
      let count : length (rows_text rows) / suc n ≡ length rows = div-eq_of_eq-mul_left (omega arith) (length-rows_text n rows w.1) in
      rw (w.0, count) (text-rows n rows w.1)),
)

-- ---- rows of outputs

module _ (net : Net) where
  pub length_run : (held : ℕ → Bool) (rows : List (List Bool)) → length (run_from net held rows) ≡ length rows
  length_run held [] = refl
  length_run held (row ∷ rows) = ap suc (length_run (next_of net (sig_bit row (settle net row held)) held) rows)

  pub wide-run : (held : ℕ → Bool) (rows : List (List Bool)) → Wide (length net.outputs) (run_from net held rows)
  wide-run held [] out m = absurd (Memᴰ.not-nil m)
  wide-run held (row ∷ rows) out m =
      ⊎_elim (λ u. ap length u ∙ length-map net.outputs (sig_bit row (settle net row held))) (λ u. wide-run (next_of net (sig_bit row (settle net row held)) held) rows out u) (Memᴰ.cases_cons m)

  -- a byte for each output and an LF, for each row
  pub length-outputs : (held : ℕ → Bool) (rows : List (List Bool)) → length (rows_text (run_from net held rows)) ≡ length rows * suc (length net.outputs)
  length-outputs held rows =
      length-rows_text (length net.outputs) (run_from net held rows) (wide-run held rows) ∙ ap (λ (k : ℕ). k * suc (length net.outputs)) (length_run held rows)
