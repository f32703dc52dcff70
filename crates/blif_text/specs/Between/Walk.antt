-- The walk over marked tokens, row by row and statement by statement. Assumes nothing: these are definitions.
use Rattle.refusals.specs.Order.{fine}
use Rattle.std.specs.Prelude.{◌≡◌, List, [], map, ℕ, ◌≤◌, ◌<◌, length, get_or}
use Rattle.std.proofs.Math.Seq.{slice}
use Rattle.lists.specs.Lists.{Bytes}
use Rattle.blif_text.specs.Statements.{Stmt, first_bad, stmts}
use Rattle.blif_text.specs.Between.Rows.{row_stmt}
use Rattle.blif_text.specs.Between.Places.{InText, grouped}

-- the rows from cell at on, of n cells in use
abbrev pub rows_from : Bytes → List ℕ → ℕ → ℕ → List (List Bytes)
rows_from text cells n at = (grouped text (slice at n cells)).rows

-- the statements from cell at on
abbrev pub stmts_from : Bytes → List ℕ → ℕ → ℕ → List Stmt
stmts_from text cells n at = stmts (map row_stmt (rows_from text cells n at))

-- each of n cells is a place within the text
pub record Inside (text cells : List ℕ) (n : ℕ) : Type 0 where
  -- the cells in use are among those there are
  pub room : n ≤ length cells
  -- each token is within the text
  pub inside : (i : ℕ) → i < n → InText text (get_or cells i 0)

-- a row starts at cell at, or the cells in use end there
pub record RowsAt (text cells : List ℕ) (n at : ℕ) : Type 0 where
  -- within the cells in use
  pub high : at ≤ n
  -- which are places within the text
  pub places : Inside text cells n
  -- nothing stands before the first row
  pub none-loose : (grouped text (slice at n cells)).loose ≡ []

-- the same, where no statement from there on is refused with 4 or 5
pub record StmtsAt (text cells : List ℕ) (n at : ℕ) : Type 0 where
  -- rows
  pub rows : RowsAt text cells n at
  -- each is a statement
  pub good : first_bad (map row_stmt (rows_from text cells n at)) ≡ fine
