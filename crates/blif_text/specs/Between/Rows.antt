-- The rows of a text: the tokens of each statement, line by line (document 01, src/io/blif.rs). Assumes nothing: these are definitions.
use Rattle.std.specs.Prelude.{List, [], ◌∷◌, ◌-◌, length, take, if◌then◌else◌}
use Rattle.lists.specs.Lists.{Bytes, filter}
use Rattle.refusals.specs.declared.Refusal.TheVariants as refusal
use Rattle.blif_text.specs.Lines.{lines, cut, continues, before, non_empty, tokens}
use Rattle.blif_text.specs.Statements.{Parsed, bad, stmt_of}

-- the tokens of the statements that these lines make, a row for each, also where it has none
unfoldable pub line_rows : List Bytes → List (List Bytes)
line_rows [] = []
line_rows (l ∷ ls) = if continues l then before (tokens (take (length l - 1) l)) (line_rows ls) else tokens (cut l) ∷ line_rows ls

-- the rows that have a token: a line without a token is no statement
unfoldable pub full_rows : List (List Bytes) → List (List Bytes)
full_rows rs = filter non_empty rs

-- the rows of a text, one for each statement
unfoldable pub text_rows : Bytes → List (List Bytes)
text_rows s = full_rows (line_rows (lines s))

-- the statement of a row
unfoldable pub row_stmt : List Bytes → Parsed
row_stmt [] = bad refusal.Unsupported
row_stmt (k ∷ ts) = stmt_of k ts
