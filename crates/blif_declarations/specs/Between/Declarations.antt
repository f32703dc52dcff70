-- The declarations of a text by their places, one after the other (document 01: "`Statement` with lists: an enum of places"). Assumes
-- nothing: these are definitions.
use Rattle.std.specs.Prelude.{◌≡◌, List, [], ◌∷◌, ◌++◌, ℕ, ◌+◌, ◌≤◌, ◌<◌, length}
use Rattle.lists.specs.Lists.{Bytes}
use Rattle.blif_text.specs.Decls.{Decl, model, end, inputs, outputs, gate, decls}
use Rattle.blif_text.specs.Between.Walk.{rows_from, stmts_from, RowsAt, StmtsAt}
use Rattle.blif_text.specs.Between.Blocks.{latch_from, cover_from}
use Rattle.blif_text.specs.declared.Block.{Block}
use Rattle.blif_text.specs.declared.Run.{Run}
use Rattle.blif_text.specs.declared.Keyword.{Keyword}
use Rattle.blif_text.specs.declared.Keyword.TheVariants as key
use Rattle.blif_declarations.specs.Between.Rows.{names}
use Rattle.blif_declarations.specs.declared.Declaration.{Declaration}
use Rattle.blif_declarations.specs.declared.Declaration.TheVariants as next

-- what a declaration of places declares: one declaration, or none
abbrev pub decl_at : Bytes → List ℕ → ℕ → Declaration → List Decl
decl_at text tokens n next.Model = model ∷ []
decl_at text tokens n next.End = end ∷ []
decl_at text tokens n (next.Inputs run) = inputs (names text tokens run) ∷ []
decl_at text tokens n (next.Outputs run) = outputs (names text tokens run) ∷ []
decl_at text tokens n (next.Latch run) = gate (latch_from text tokens run.first run.count) ∷ []
decl_at text tokens n (next.Cover block) = gate (cover_from text tokens n block.first block.names block.lines) ∷ []
decl_at text tokens n next.None = []

-- a cover's names and lines are among the n tokens
pub record CoverIn (text tokens : List ℕ) (n : ℕ) (block : Block) : Type 0 where
  -- its names
  pub few : block.first + block.names ≤ n
  -- rows stand behind them
  pub behind : RowsAt text tokens n (block.first + block.names)
  -- as many as there are lines
  pub enough : block.lines ≤ length (rows_from text tokens n (block.first + block.names))
  -- each takes a token
  pub short : block.lines ≤ n

-- a declaration's places are among the n tokens
abbrev pub PlacesIn : Bytes → List ℕ → ℕ → Declaration → Type 0
PlacesIn text tokens n next.Model = Unit {0}
PlacesIn text tokens n next.End = Unit {0}
PlacesIn text tokens n (next.Inputs run) = run.first + run.count ≤ n
PlacesIn text tokens n (next.Outputs run) = run.first + run.count ≤ n
PlacesIn text tokens n (next.Latch run) = (2 ≤ run.count) × (run.first + run.count ≤ n)
PlacesIn text tokens n (next.Cover block) = CoverIn text tokens n block
PlacesIn text tokens n next.None = Unit {0}

-- d is what is declared at at, and behind is the place behind it
pub record NextIs (text tokens : List ℕ) (n at : ℕ) (d : Declaration) (behind : ℕ) : Type 0 where
  -- a token is passed
  pub low : at < behind
  -- statements stand behind it
  pub rest : StmtsAt text tokens n behind
  -- the declarations from at on are this one, if it is one, and those from behind on
  pub are : decls (stmts_from text tokens n at) ≡ decl_at text tokens n d ++ decls (stmts_from text tokens n behind)
  -- its places
  pub places : PlacesIn text tokens n d

-- what a row declares by its keyword, with its names and so many cube lines behind it: a cube line and `.exdc` nothing
abbrev pub declared_by : Keyword → Run → ℕ → Declaration
declared_by key.Model names lines = next.Model
declared_by key.Inputs names lines = next.Inputs names
declared_by key.Outputs names lines = next.Outputs names
declared_by key.Latch names lines = next.Latch names
declared_by key.Names names lines = next.Cover (record { first = names.first; names = names.count; lines = lines })
declared_by key.End names lines = next.End
declared_by key.Exdc names lines = next.None
declared_by key.Unsupported names lines = next.None
declared_by key.Cube names lines = next.None

-- where the walk goes on, if the cube lines behind the row end at stop and there are n tokens: "`.end` stops naming, building and size counting as
-- `.exdc` does"
abbrev pub behind_row : Keyword → ℕ → ℕ → ℕ
behind_row key.Model stop n = stop
behind_row key.Inputs stop n = stop
behind_row key.Outputs stop n = stop
behind_row key.Latch stop n = stop
behind_row key.Names stop n = stop
behind_row key.End stop n = n
behind_row key.Exdc stop n = n
behind_row key.Unsupported stop n = stop
behind_row key.Cube stop n = stop
