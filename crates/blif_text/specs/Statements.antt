-- Statements of a text, and refusals 4, 5 and 34 (document 01, src/io/blif.rs; document 02, CR 4). Assumes nothing: these are definitions.
use Rattle.std.specs.Prelude.{⊤, Result, Err}
use mathlib.Core.List.{List, [], ◌∷◌, map, flat_map}
use Rattle.std.proofs.Math.Option.{Option, none, some}
use Rattle.std.proofs.Math.ListN.{get_elem?}
use Rattle.lists.specs.Lists.{Bytes, same, filter}
use Rattle.refusals.specs.Order.{◌or_else◌, fine}
use Rattle.refusals.specs.declared.Refusal.{Refusal}
use Rattle.refusals.specs.declared.Refusal.TheVariants as refusal
use Rattle.blif_meaning.specs.Model.{Init, Unknown, inits, init_bytes, LatchDef, plain_latch}
use Rattle.blif_text.specs.Lines.{lines, joined, tokens}
use Rattle.blif_text.specs.Keywords.{keyword_of}
use Rattle.blif_text.specs.declared.Keyword.{Keyword}
use Rattle.blif_text.specs.declared.Keyword.TheVariants as key

-- a statement with its names, or a cube line with its tokens; the model's name is not kept
pub data Stmt : Type 0 where
  model end exdc : Stmt
  inputs outputs names : List Bytes → Stmt
  latch : LatchDef Bytes → Stmt
  cube : List Bytes → Stmt

-- a statement, or its refusal
pub data Parsed : Type 0 where
  ok : Stmt → Parsed
  bad : Refusal → Parsed

-- "4 when `.model` lacks a name"; "Extra tokens after `.model` .. are ignored"
unfoldable pub model_stmt : List Bytes → Parsed
model_stmt [] = bad refusal.MissingName
model_stmt (n ∷ ts) = ok model

-- the initial state that a token says; none where it is "not 0, 1, 2 or 3"
unfoldable pub init_of : Bytes → Option Init
init_of t = get_elem? (filter (λ i. same t (init_bytes i)) inits) 0

-- the initial state by the tokens behind a latch's two names: "With three tokens after `.latch` the third is the start value, with five or more
-- the fifth, otherwise it is zero"; by the Berkeley text "Default is 3", which reads as zero; "a latch's type, control .. are ignored"
unfoldable pub init_among : List Bytes → Option Init
init_among [] = some Unknown
init_among (v ∷ []) = init_of v
init_among (t ∷ c ∷ []) = some Unknown
init_among (t ∷ c ∷ v ∷ ts) = init_of v

-- "34 when a start value is not 0, 1, 2 or 3"
unfoldable pub latch_with : Bytes → Bytes → Option Init → Parsed
latch_with d q none = bad refusal.WrongStart
latch_with d q (some i) = ok (latch (plain_latch d q i))

-- "4 when .. `.latch` has fewer than two"; its input, its output and its initial state; "Extra tokens after .. `.latch` .. are ignored"
unfoldable pub latch_stmt : List Bytes → Parsed
latch_stmt [] = bad refusal.MissingName
latch_stmt (d ∷ []) = bad refusal.MissingName
latch_stmt (d ∷ q ∷ ts) = latch_with d q (init_among ts)

-- the statement of a first token k with this keyword, and the other tokens; "5 when the construct is unsupported"
abbrev pub by_keyword : Keyword → Bytes → List Bytes → Parsed
by_keyword key.Model k ts = model_stmt ts
by_keyword key.Inputs k ts = ok (inputs ts)
by_keyword key.Outputs k ts = ok (outputs ts)
by_keyword key.Latch k ts = latch_stmt ts
by_keyword key.Names k ts = ok (names ts)
by_keyword key.End k ts = ok end
by_keyword key.Exdc k ts = ok exdc
by_keyword key.Unsupported k ts = bad refusal.Unsupported
by_keyword key.Cube k ts = ok (cube (k ∷ ts))

-- the statement of a first token and the others
unfoldable pub stmt_of : Bytes → List Bytes → Parsed
stmt_of k ts = by_keyword (keyword_of k) k ts

-- a line without a token is no statement
unfoldable pub parsed_line : List Bytes → List Parsed
parsed_line [] = []
parsed_line (k ∷ ts) = stmt_of k ts ∷ []

-- the statements of a text in order
unfoldable pub parsed : Bytes → List Parsed
parsed text = flat_map parsed_line (map tokens (joined (lines text)))

-- the refusal of a statement, if it has one
abbrev pub refusal_of : Parsed → Result ⊤ Refusal
refusal_of (ok s) = fine
refusal_of (bad r) = Err r

-- "Then by statement in text order: 4 .. 5", and 34 "by statement beside 4 and 5": the first refusal
unfoldable pub first_bad : List Parsed → Result ⊤ Refusal
first_bad [] = fine
first_bad (p ∷ ps) = refusal_of p or_else first_bad ps

-- the good ones
unfoldable pub stmts : List Parsed → List Stmt
stmts [] = []
stmts (ok s ∷ ps) = s ∷ stmts ps
stmts (bad r ∷ ps) = stmts ps
