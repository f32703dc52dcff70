-- The walk over marked rows up to the first refusal, and over statements that none refuses. Assumes nothing.
use Rattle.std.specs.Prelude.{⊤, Result, Ok, Err}
use mathlib.Core.Path.{◌≡◌, refl, sym, ap, ◌∙◌, subst}
use mathlib.Core.List.{List, [], ◌∷◌, map}
use Prim.Native.Nat.{ℕ, ◌≤◌, ◌<◌}
use native.Mathlib.Omega.{arith}
use lib.ListN.{length, take}
use lib.Seq.{take-take, length-take-le, get_or-take}
use Rattle.lists.specs.Lists.{Bytes}
use Rattle.refusals.specs.Order.{◌or_else◌, fine}
use Rattle.refusals.specs.declared.Refusal.{Refusal}
use Rattle.refusals.proofs.Order.{or_else-left, or_else-right, or_else-stop, or_else-go}
use Rattle.blif_text.specs.Statements.{Parsed, parsed, first_bad, stmts, refusal_of}
use Rattle.blif_text.specs.Between.Rows.{row_stmt}
use Rattle.blif_text.specs.Between.Places.{InText, grouped, TokensMarked}
use Rattle.blif_text.specs.Between.PlacedStatements.{parsed_from, RowTo, statement_at, refusal_in}
use Rattle.blif_text.specs.Between.Walk.{rows_from, stmts_from, RowsAt, StmtsAt}
use Rattle.blif_text.specs.declared.Statement.{Statement}
use Rattle.blif_text.specs.declared.Statement.TheVariants as place
use Rattle.blif_text.proofs.RowLaws.{parsed-rows}
use Rattle.blif_text.proofs.RowWalk.{rows_start, rows_end, rows_next, rows_are}
use Rattle.blif_text.proofs.StatementLaws.{statement-says}

-- ---- the row's statement

-- whether a statement is a refusal, its text does not tell
refusal-parsed_from : (text cells : List ℕ) (s : Result Statement Refusal) → refusal_of (parsed_from text cells s) ≡ refusal_in s
refusal-parsed_from text cells (Ok place.Model) = refl
refusal-parsed_from text cells (Ok place.End) = refl
refusal-parsed_from text cells (Ok place.Exdc) = refl
refusal-parsed_from text cells (Ok (place.Inputs run)) = refl
refusal-parsed_from text cells (Ok (place.Outputs run)) = refl
refusal-parsed_from text cells (Ok (place.Names run)) = refl
refusal-parsed_from text cells (Ok (place.Latch first)) = refl
refusal-parsed_from text cells (Ok (place.Cube run)) = refl
refusal-parsed_from text cells (Err r) = refl

-- no statement, no refusal
bad-none : first_bad [] ≡ fine
unfolding first_bad
bad-none = refl

-- the first statement's refusal, then those of the others
bad-cons : (text cells : List ℕ) (s : Result Statement Refusal) (ps : List Parsed) → first_bad (parsed_from text cells s ∷ ps) ≡ (refusal_in s or_else first_bad ps)
unfolding first_bad
bad-cons text cells s ps = ap (λ (c : Result ⊤ Refusal). c or_else first_bad ps) (refusal-parsed_from text cells s)

module _ {text cells : List ℕ} {n at r : ℕ} (c : RowsAt text cells n at) (h : at < n) (w : RowTo cells at n r) where
  -- the statement of the row
  abbrev now : Result Statement Refusal
  now = statement_at text cells at r

  -- what is made of the row's statement and the others is made of the rows
  row-parsed_from : {A : Type 0} (f : List Parsed → A) → f (parsed_from text cells now ∷ map row_stmt (rows_from text cells n r)) ≡ f (map row_stmt (rows_from text cells n at))
  row-parsed_from f =
      ap (λ (p : Parsed). f (p ∷ map row_stmt (rows_from text cells n r))) (statement-says text cells w.low (omega (arith, w.high, c.places.room)))
      ∙ sym (ap (λ (x : List (List Bytes)). f (map row_stmt x)) (rows_are c h w))

  -- the refusals from the row on: its own, then those of the others
  bad-row : (refusal_in now or_else first_bad (map row_stmt (rows_from text cells n r))) ≡ first_bad (map row_stmt (rows_from text cells n at))
  bad-row = sym (bad-cons text cells now (map row_stmt (rows_from text cells n r))) ∙ row-parsed_from first_bad

-- ---- the walk to the first refusal

-- no refusal before the row at at
pub record Passing (text cells : List ℕ) (n at : ℕ) : Type 0 where
  pub rows : RowsAt text cells n at
  pub left : first_bad (map row_stmt (rows_from text cells n at)) ≡ first_bad (parsed text)

-- before the first row
pub passing-start : {text cells : List ℕ} {n : ℕ} → TokensMarked text cells n → n ≤ length cells → Passing text cells n 0
passing-start {text} {cells} {n} m r = record { rows = rows_start m r; left = ap first_bad (ap (map row_stmt) m.rows ∙ sym (parsed-rows text)) }

module _ {text cells : List ℕ} {n at : ℕ} (c : Passing text cells n at) where
  -- behind the last row
  pub passing-done : n ≤ at → fine ≡ first_bad (parsed text)
  passing-done h = sym (ap (λ (x : List (List Bytes)). first_bad (map row_stmt x)) (rows_end c.rows h) ∙ bad-none) ∙ c.left

  module _ {r : ℕ} (h : at < n) (w : RowTo cells at n r) where
    -- the row's statement is a refusal
    pub passing-stop : {k : Refusal} → refusal_in (statement_at text cells at r) ≡ Err k → Err k ≡ first_bad (parsed text)
    passing-stop e = sym (or_else-stop (first_bad (map row_stmt (rows_from text cells n r))) e) ∙ bad-row c.rows h w ∙ c.left

    -- it is none
    pub passing-next : refusal_in (statement_at text cells at r) ≡ fine → Passing text cells n r
    passing-next e = record { rows = rows_next c.rows h w; left = sym (or_else-go e) ∙ bad-row c.rows h w ∙ c.left }

-- ---- the cells in use

-- the tokens that are marked, taken by themselves
pub marked-front : {text cells : List ℕ} {n : ℕ} → n ≤ length cells → TokensMarked text cells n → TokensMarked text (take n cells) (length (take n cells))
marked-front {text} {cells} {n} h m =
    let k : length (take n cells) ≡ n = length-take-le n cells h in
    let same : take (length (take n cells)) (take n cells) ≡ take n cells = ap (λ (i : ℕ). take i (take n cells)) k ∙ take-take n n cells (omega arith) in
    record {
      counted = k ∙ m.counted;
      marked = same ∙ m.marked;
      few = omega (arith, k, m.few);
      rows = ap (λ (x : List ℕ). (grouped text x).rows) same ∙ m.rows;
      none-loose = ap (λ (x : List ℕ). (grouped text x).loose) same ∙ m.none-loose;
      inside = λ i l.
          let b : i < n = omega (arith, k, l) in
          subst (InText text) (sym (get_or-take n cells i 0 b)) (m.inside i b);
    }

-- ---- the walk over statements that none refuses

-- a text that 4, 5 and 34 do not refuse
pub stmts-start : {text cells : List ℕ} {n : ℕ} → TokensMarked text cells n → n ≤ length cells → first_bad (parsed text) ≡ fine → StmtsAt text cells n 0
stmts-start {text} m r e = let c = passing-start m r in record { rows = c.rows; good = c.left ∙ e }

-- all statements are the text's
pub stmts-all : {text cells : List ℕ} {n : ℕ} → TokensMarked text cells n → stmts_from text cells n 0 ≡ stmts (parsed text)
stmts-all {text} m = ap stmts (ap (map row_stmt) m.rows ∙ sym (parsed-rows text))

module _ {text cells : List ℕ} {n at : ℕ} (c : StmtsAt text cells n at) where
  -- behind the last statement
  pub stmts-end : n ≤ at → stmts_from text cells n at ≡ []
  unfolding stmts
  stmts-end h = ap (λ (x : List (List Bytes)). stmts (map row_stmt x)) (rows_end c.rows h)

  module _ {r : ℕ} (h : at < n) (w : RowTo cells at n r) where
    -- the row's statement, then the others
    pub stmts-are : stmts_from text cells n at ≡ stmts (parsed_from text cells (statement_at text cells at r) ∷ map row_stmt (rows_from text cells n r))
    stmts-are = sym (row-parsed_from c.rows h w stmts)

    -- the row's statement is no refusal
    pub stmts-parsed_from : refusal_in (statement_at text cells at r) ≡ fine
    stmts-parsed_from = or_else-left _ (first_bad (map row_stmt (rows_from text cells n r))) (bad-row c.rows h w ∙ c.good)

    -- the others
    pub stmts-next : StmtsAt text cells n r
    stmts-next = record { rows = rows_next c.rows h w; good = or_else-right (refusal_in (statement_at text cells at r)) _ (bad-row c.rows h w ∙ c.good) }
