-- A text that `.end` or `.exdc` ends, and what may stand behind it (document 02, CR 3: "Two makers keep a second model and notes after
-- `.end`"). Assumes nothing: these are definitions.
use Rattle.refusals.specs.Order.{fine}
use Rattle.std.specs.Prelude.{◌≡◌, Bool, true, false, [], ◌++◌, ◌-◌, ◌≤◌, leb, length, get_or}
use Rattle.lists.specs.Lists.{Bytes, any}
use Rattle.blif_text.specs.Lines.{max_text, lines, ends_in_lf, continues}
use Rattle.blif_text.specs.Statements.{Stmt, parsed, first_bad, stmts}

-- "`.end` stops naming, building and size counting as `.exdc` does"
unfoldable pub stops : Stmt → Bool
stops Stmt.model = false
stops Stmt.end = true
stops Stmt.exdc = true
stops (Stmt.inputs ns) = false
stops (Stmt.outputs ns) = false
stops (Stmt.names ns) = false
stops (Stmt.latch d) = false
stops (Stmt.cube ts) = false

-- the text is whole lines, and `.end` or `.exdc` is among their statements
pub record Ended (text : Bytes) : Type 0 where
  -- its last line is ended by LF
  pub whole : ends_in_lf text ≡ true
  -- and does not continue
  pub closed : continues (get_or (lines text) (length (lines text) - 1) []) ≡ false
  -- one of its statements stops
  pub stopped : any stops (stmts (parsed text)) ≡ true

-- the rest may stand behind the text
pub record MayFollow (text rest : Bytes) : Type 0 where
  -- "Text at most 32,768 bytes"
  pub few : length (text ++ rest) ≤ max_text
  -- it has no byte of 128 or more
  pub plain : any (leb 128) rest ≡ false
  -- "later statements must still parse"
  pub parses : first_bad (parsed rest) ≡ fine
