-- Statements as places in the caller's text (document 01: "`Statement` with lists: an enum of places"). Assumes nothing: these are
-- definitions.
use Rattle.std.specs.Prelude.{◌≡◌, Bool, true, false, cond, List, [], ℕ, ◌+◌, ◌-◌, ◌≤◌, ◌<◌, ltb, get_or, take, drop, ⊤, Result, Ok, Err, Some, None}
use Rattle.std.specs.declared.option.Option as std-option
use Rattle.std.proofs.Math.Option
use Rattle.std.proofs.Math.Option.{Option, none, some}
use Rattle.std.proofs.Math.Seq.{slice}
use Rattle.lists.specs.Lists.{Bytes}
use Rattle.refusals.specs.declared.Refusal.TheVariants as refusal
use Rattle.blif_meaning.specs.Model.{Init, Unknown, init_bit, LatchDef, plain_latch}
use Rattle.blif_text.specs.Keywords.{keyword_of}
use Rattle.blif_text.specs.Statements.{Parsed, ok, bad, init_among}
use Rattle.blif_text.specs.Statements as stmt
use Rattle.blif_text.specs.Between.Places.{is_first, token_of, tokens_of}
use Rattle.blif_text.specs.declared.Run.{Run}
use Rattle.blif_text.specs.declared.Keyword.{Keyword}
use Rattle.blif_text.specs.declared.Keyword.TheVariants as key
use Rattle.blif_text.specs.declared.Statement.{Statement}
use Rattle.blif_text.specs.declared.Statement.TheVariants as place
use Rattle.refusals.specs.Order.{fine}
use Rattle.refusals.specs.declared.Refusal.{Refusal}

-- the tokens of a run of token cells
abbrev pub run_tokens : Bytes → List ℕ → Run → List Bytes
run_tokens text cells run = tokens_of text (take run.count (drop run.first cells))

-- the initial state that the tokens from one place to another say of a latch
abbrev pub init_in : Bytes → List ℕ → ℕ → ℕ → Option Init
init_in text cells from end = init_among (tokens_of text (slice from end cells))

-- a latch by a run of tokens: its input, its output and what says its initial state
abbrev pub latch_in : Bytes → List ℕ → Run → LatchDef Bytes
latch_in text cells run =
    plain_latch (token_of text (get_or cells run.first 0)) (token_of text (get_or cells (run.first + 1) 0))
    (Option.get_or (init_in text cells (run.first + 2) (run.first + run.count)) Unknown)

-- the start value of an initial state, if there is one
abbrev pub start_of : Option Init → std-option.Option Bool
start_of none = None
start_of (some i) = Some (init_bit i)

-- what a statement of places says
abbrev pub parsed_from : Bytes → List ℕ → Result Statement Refusal → Parsed
parsed_from text cells (Ok place.Model) = ok stmt.Stmt.model
parsed_from text cells (Ok place.End) = ok stmt.Stmt.end
parsed_from text cells (Ok place.Exdc) = ok stmt.Stmt.exdc
parsed_from text cells (Ok (place.Inputs run)) = ok (stmt.Stmt.inputs (run_tokens text cells run))
parsed_from text cells (Ok (place.Outputs run)) = ok (stmt.Stmt.outputs (run_tokens text cells run))
parsed_from text cells (Ok (place.Names run)) = ok (stmt.Stmt.names (run_tokens text cells run))
parsed_from text cells (Ok (place.Latch run)) = ok (stmt.Stmt.latch (latch_in text cells run))
parsed_from text cells (Ok (place.Cube run)) = ok (stmt.Stmt.cube (run_tokens text cells run))
parsed_from text cells (Err r) = bad r

-- a row goes from at to r: of the cells up to n, the one at r is the next that starts a row
pub record RowTo (cells : List ℕ) (at n r : ℕ) : Type 0 where
  -- a token is passed
  pub low : at < r
  -- within the cells in use
  pub high : r ≤ n
  -- no row starts between
  pub inner : (k : ℕ) → at < k → k < r → is_first (get_or cells k 0) ≡ false
  -- one starts at the stop
  pub stop : r < n → is_first (get_or cells r 0) ≡ true

-- the names of the row from at to end: its tokens behind the first
abbrev pub names_run : ℕ → ℕ → Run
names_run at end = record { first = at + 1; count = end - at - 1 }

-- the statement of a latch by what is told of its initial state: "34 when a start value is not 0, 1, 2 or 3"
abbrev pub started_latch : std-option.Option Bool → Run → Result Statement Refusal
started_latch (Some v) run = Ok (place.Latch run)
started_latch None run = Err refusal.WrongStart

-- the statement of the row from at to end, which is a latch's: "4 when .. `.latch` has fewer than two"
abbrev pub latch_statement : Bytes → List ℕ → ℕ → ℕ → Result Statement Refusal
latch_statement text cells at end =
    cond (ltb (end - at - 1) 2) (Err refusal.MissingName) (started_latch (start_of (init_in text cells (at + 3) end)) (names_run at end))

-- the statement of the row from at to end whose first token has this keyword: "4 when `.model` lacks a name"; "5 when the construct is
-- unsupported"
abbrev pub statement_of : Bytes → List ℕ → Keyword → ℕ → ℕ → Result Statement Refusal
statement_of text cells key.Model at end = cond (ltb (end - at - 1) 1) (Err refusal.MissingName) (Ok place.Model)
statement_of text cells key.Inputs at end = Ok (place.Inputs (names_run at end))
statement_of text cells key.Outputs at end = Ok (place.Outputs (names_run at end))
statement_of text cells key.Latch at end = latch_statement text cells at end
statement_of text cells key.Names at end = Ok (place.Names (names_run at end))
statement_of text cells key.End at end = Ok place.End
statement_of text cells key.Exdc at end = Ok place.Exdc
statement_of text cells key.Unsupported at end = Err refusal.Unsupported
statement_of text cells key.Cube at end = Ok (place.Cube (record { first = at; count = end - at }))

-- the statement of the row of token cells from at to end
abbrev pub statement_at : Bytes → List ℕ → ℕ → ℕ → Result Statement Refusal
statement_at text cells at end = statement_of text cells (keyword_of (token_of text (get_or cells at 0))) at end

-- its refusal, if it has one
abbrev pub refusal_in : Result Statement Refusal → Result ⊤ Refusal
refusal_in (Ok s) = fine
refusal_in (Err r) = Err r
