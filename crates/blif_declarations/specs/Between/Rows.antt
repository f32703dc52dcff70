-- The row at a place, and the cube lines that stand there. Assumes nothing: these are definitions.
use Rattle.std.specs.Prelude.{◌≡◌, List, ◌∷◌, ℕ, ◌+◌, ◌≤◌, ◌<◌, length, take}
use Rattle.std.proofs.Math.Seq.{slice}
use Rattle.lists.specs.Lists.{Bytes, sum_of}
use Rattle.blif_text.specs.Statements.{Stmt}
use Rattle.blif_text.specs.Decls.{cubes, decls}
use Rattle.blif_text.specs.Between.Places.{tokens_of}
use Rattle.blif_text.specs.Between.PlacedStatements.{latch_in, names_run}
use Rattle.blif_text.specs.Between.Walk.{rows_from, stmts_from, StmtsAt}
use Rattle.blif_text.specs.declared.Run.{Run}
use Rattle.blif_text.specs.declared.Keyword.{Keyword}
use Rattle.blif_text.specs.declared.Keyword.TheVariants as key

-- the names of a run of tokens
abbrev pub names : Bytes → List ℕ → Run → List Bytes
names text tokens run = tokens_of text (slice run.first (run.first + run.count) tokens)

-- the statements from at on are that of the row from at to end, whose first token has this keyword, and those from end on
abbrev pub Starts : Bytes → List ℕ → ℕ → ℕ → ℕ → Keyword → Type 0
Starts text tokens n at end key.Model = stmts_from text tokens n at ≡ Stmt.model ∷ stmts_from text tokens n end
Starts text tokens n at end key.End = stmts_from text tokens n at ≡ Stmt.end ∷ stmts_from text tokens n end
Starts text tokens n at end key.Exdc = stmts_from text tokens n at ≡ Stmt.exdc ∷ stmts_from text tokens n end
Starts text tokens n at end key.Inputs = stmts_from text tokens n at ≡ Stmt.inputs (names text tokens (names_run at end)) ∷ stmts_from text tokens n end
Starts text tokens n at end key.Outputs = stmts_from text tokens n at ≡ Stmt.outputs (names text tokens (names_run at end)) ∷ stmts_from text tokens n end
Starts text tokens n at end key.Names = stmts_from text tokens n at ≡ Stmt.names (names text tokens (names_run at end)) ∷ stmts_from text tokens n end
Starts text tokens n at end key.Latch =
    (stmts_from text tokens n at ≡ Stmt.latch (latch_in text tokens (names_run at end)) ∷ stmts_from text tokens n end)
    × (at + 1 + 2 ≤ end)
Starts text tokens n at end key.Cube = stmts_from text tokens n at ≡ Stmt.cube (tokens_of text (slice at end tokens)) ∷ stmts_from text tokens n end
Starts text tokens n at end key.Unsupported = ⊥

-- a row goes from at to end, and its first token has this keyword
pub record RowIs (text tokens : List ℕ) (n at end : ℕ) (keyword : Keyword) : Type 0 where
  -- a token is passed
  pub low : at < end
  -- statements stand behind it
  pub rest : StmtsAt text tokens n end
  -- its tokens are the first row
  pub rows : rows_from text tokens n at ≡ tokens_of text (slice at end tokens) ∷ rows_from text tokens n end
  -- its statement is the first one
  pub starts : Starts text tokens n at end keyword

-- count cube lines stand directly at at, and end is the place behind them
pub record LinesAt (text tokens : List ℕ) (n at count end : ℕ) : Type 0 where
  -- each takes a token
  pub low : at + count ≤ end
  -- the place behind them is as many tokens on as they have
  pub behind : end ≡ at + sum_of length (take count (rows_from text tokens n at))
  -- statements stand behind them
  pub rest : StmtsAt text tokens n end
  -- the lines are the first rows
  pub lines : cubes (stmts_from text tokens n at) ≡ take count (rows_from text tokens n at)
  -- as many as there are
  pub enough : count ≤ length (rows_from text tokens n at)
  -- "Cube lines count only directly after their `.names`"
  pub counted : count ≡ length (cubes (stmts_from text tokens n at))
  -- elsewhere they declare nothing
  pub same : decls (stmts_from text tokens n end) ≡ decls (stmts_from text tokens n at)
