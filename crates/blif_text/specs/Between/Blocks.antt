-- Latches and covers as records of places, one for each gate of the text (document 01: "`Statement` with lists: an enum of places").
-- Assumes nothing: these are definitions.
use Rattle.std.specs.Prelude.{◌≡◌, List, map, ℕ, zero, suc, ◌+◌, ◌*◌, ◌≤◌, ◌<◌, length, get_or, take}
use Rattle.std.proofs.Math.Seq.{slice}
use Rattle.lists.specs.Lists.{Bytes, range}
use Rattle.blif_text.specs.Decls.{Def, latch, cover}
use Rattle.blif_text.specs.Between.Places.{max_tokens, tokens_of}
use Rattle.blif_text.specs.Between.PlacedStatements.{latch_in}
use Rattle.blif_text.specs.Between.Walk.{rows_from, Inside, RowsAt}

-- the cells of a block's record
abbrev pub block_width : ℕ
block_width = 3

-- the token of block j's first name
abbrev pub first_name : List ℕ → ℕ → ℕ
first_name blocks j = get_or blocks (j * block_width) 0

-- how many names a cover has; zero for a latch
abbrev pub name_count : List ℕ → ℕ → ℕ
name_count blocks j = get_or blocks (j * block_width + 1) 0

-- how many cube lines a cover has; of a latch, how many tokens stand behind `.latch`
abbrev pub line_count : List ℕ → ℕ → ℕ
line_count blocks j = get_or blocks (j * block_width + 2) 0

-- a latch by the token of its first name, and how many tokens it has
abbrev pub latch_from : Bytes → List ℕ → ℕ → ℕ → Def
latch_from text tokens first count = latch (latch_in text tokens (record { first = first; count = count }))

-- a cover by the token of its first name, and how many names it has; its lines are the rows behind them
abbrev pub cover_from : Bytes → List ℕ → ℕ → ℕ → ℕ → ℕ → Def
cover_from text tokens n first names lines =
    cover (tokens_of text (slice first (first + names) tokens)) (take lines (rows_from text tokens n (first + names)))

-- a latch, which is told by no name count; or a cover
abbrev pub def_from : Bytes → List ℕ → ℕ → ℕ → ℕ → ℕ → Def
def_from text tokens n first zero lines = latch_from text tokens first lines
def_from text tokens n first (suc k) lines = cover_from text tokens n first (suc k) lines

-- the definition that block j's record places
abbrev pub def_at : Bytes → List ℕ → ℕ → List ℕ → ℕ → Def
def_at text tokens n blocks j = def_from text tokens n (first_name blocks j) (name_count blocks j) (line_count blocks j)

-- the definitions of the first g records
abbrev pub defs_at : Bytes → List ℕ → ℕ → List ℕ → ℕ → List Def
defs_at text tokens n blocks g = map (def_at text tokens n blocks) (range 0 g)

-- a block's names and lines are among the n tokens
pub record BlockIn (text tokens : List ℕ) (n first names lines : ℕ) : Type 0 where
  -- a latch has two names or more tokens
  pub latch_names : names ≡ 0 → 2 ≤ lines
  -- which are among them
  pub latch_tokens : names ≡ 0 → first + lines ≤ n
  -- a cover's names
  pub cover_names : first + names ≤ n
  -- rows stand behind them
  pub behind : 0 < names → RowsAt text tokens n (first + names)
  -- as many as there are lines
  pub enough : 0 < names → lines ≤ length (rows_from text tokens n (first + names))

-- the first g records place blocks among the n tokens of the text
pub record Blocks (text tokens : List ℕ) (n : ℕ) (blocks : List ℕ) (g : ℕ) : Type 0 where
  -- no more tokens than a text may have
  pub few : n ≤ max_tokens
  -- each is a place within the text
  pub places : Inside text tokens n
  -- the records are there
  pub room : g * block_width ≤ length blocks
  -- and place blocks
  pub each : (j : ℕ) → j < g → BlockIn text tokens n (first_name blocks j) (name_count blocks j) (line_count blocks j)
