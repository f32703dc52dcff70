-- A line's columns and output, from its tokens. Assumes nothing.
use mathlib.Core.Path.{◌≡◌, sym, ap}
use mathlib.Core.Bool.{true, ◌&&◌, false≢true}
use mathlib.Core.List.{List, [], ◌∷◌}
use Prim.Native.Nat.{ℕ, ◌≤◌, ◌<◌}
use native.Mathlib.Omega.{arith}
use lib.Dec.{eqb}
use lib.ListN.{length, length-map}
use borrow.Author.Tests.{eqb-true}
use Rattle.lists.specs.Lists.{Bytes, same, elem}
use Rattle.lists.proofs.Tests.{by-test, and_left, and_right}
use Rattle.blif_text.specs.Decls.{columns, is_one}
use Rattle.blif_text.specs.Between.Places.{token_of, tokens_of}
use Rattle.blif_text.specs.Between.Walk.{Inside}
use Rattle.blif_text.proofs.ColumnLaws.{last_cell, last-output}
use Rattle.blif_text.proofs.RowWalk.{part}
use Rattle.blif_reading.specs.Read.{good_line}
use Rattle.blif_read_gates.specs.Between.Steps.{GoodRow}

-- what a good line's tokens are: its output, or its columns and its output
pub record TwoTokens (n : ℕ) (ts : List Bytes) : Type 0 where
  pub few : length ts ≤ 2
  pub wide : n ≡ length (columns ts)

elem-few : (n : ℕ) → elem n (1 ∷ 2 ∷ []) ≡ true → n ≤ 2
elem-few n e =
    by-test (eqb n 1)
    (λ t. omega (arith, eqb-true n 1 t))
    (λ t. by-test (eqb n 2) (λ u. omega (arith, eqb-true n 2 u)) (λ u. absurd (false≢true (rw (t, u) at e))))

pub two-tokens : (n : ℕ) (ts : List Bytes) → good_line n ts ≡ true → TwoTokens n ts
unfolding good_line
two-tokens n ts e =
    let a = elem (length ts) (1 ∷ 2 ∷ []) in
    let b = eqb n (length (columns ts)) in
    let p = and_left (a && b) _ (and_left (a && b && _) _ e) in
    record { few = elem-few (length ts) (and_left a b p); wide = eqb-true n (length (columns ts)) (and_right a b p) }

-- the tokens of the row from a cell to another
abbrev pub row_tokens : Bytes → List ℕ → ℕ → ℕ → List Bytes
row_tokens text tokens row end = tokens_of text (part row end tokens)

-- whether the output of a line with one token or two is 1
pub last_one : (text row : List ℕ) → 0 < length row → length row < 3 → same (token_of text (last_cell row)) (49 ∷ []) ≡ is_one (tokens_of text row)
unfolding is_one
last_one text row l h = ap (λ (t : Bytes). same t (49 ∷ [])) (sym (last-output text row l h))

module _ {text row : List ℕ} {inputs : ℕ} (g : GoodRow text row inputs) where
  -- as many columns as inputs
  pub row-wide : length (columns (tokens_of text row)) ≡ inputs
  row-wide = sym (two-tokens inputs (tokens_of text row) g.good).wide

  -- one token or two
  pub row-two : (0 < length row) × (length row < 3) × Inside text row (length row)
  row-two = (g.low, omega (arith, (two-tokens inputs (tokens_of text row) g.good).few, length-map row (token_of text)), g.places)
