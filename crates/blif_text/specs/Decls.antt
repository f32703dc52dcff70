-- Declarations: the statements up to the first `.end` or `.exdc`, each `.names` with its cube lines (documents 01 and 02, src/io/blif.rs).
-- Assumes nothing: these are definitions.
use Rattle.std.specs.Prelude.{Bool, ◌-◌, length, get_or, take}
use mathlib.Core.List.{List, [], ◌∷◌, flat_map}
use Rattle.lists.specs.Lists.{Bytes, same}
use Rattle.blif_meaning.specs.Model.{LatchDef}
use Rattle.blif_meaning.specs.WellFormed.{latch_uses}
use Rattle.blif_text.specs.Statements.{Stmt, parsed, stmts}

-- what defines a gate: a latch, or a cover's names and the tokens of its lines
pub data Def : Type 0 where
  latch : LatchDef Bytes → Def
  cover : List Bytes → List (List Bytes) → Def

-- a declaration
pub data Decl : Type 0 where
  model end : Decl
  inputs outputs : List Bytes → Decl
  gate : Def → Decl

-- "Cube lines count only directly after their `.names`"
unfoldable pub cubes : List Stmt → List (List Bytes)
cubes [] = []
cubes (Stmt.model ∷ ss) = []
cubes (Stmt.end ∷ ss) = []
cubes (Stmt.exdc ∷ ss) = []
cubes (Stmt.inputs ns ∷ ss) = []
cubes (Stmt.outputs ns ∷ ss) = []
cubes (Stmt.names ns ∷ ss) = []
cubes (Stmt.latch d ∷ ss) = []
cubes (Stmt.cube ts ∷ ss) = ts ∷ cubes ss

-- "`.exdc` stops naming and building", and "`.end` stops naming, building and size counting as `.exdc` does"; `.end` is a declaration
-- itself, since "an `.end` before any `.model` is still 8"; cube lines "elsewhere .. are not looked at"
unfoldable pub decls : List Stmt → List Decl
decls [] = []
decls (Stmt.model ∷ ss) = model ∷ decls ss
decls (Stmt.end ∷ ss) = end ∷ []
decls (Stmt.exdc ∷ ss) = []
decls (Stmt.inputs ns ∷ ss) = inputs ns ∷ decls ss
decls (Stmt.outputs ns ∷ ss) = outputs ns ∷ decls ss
decls (Stmt.names ns ∷ ss) = gate (cover ns (cubes ss)) ∷ decls ss
decls (Stmt.latch d ∷ ss) = gate (latch d) ∷ decls ss
decls (Stmt.cube ts ∷ ss) = decls ss

-- the declarations of a text
unfoldable pub decls_of : Bytes → List Decl
decls_of text = decls (stmts (parsed text))

-- what a declaration adds to the inputs' names
unfoldable pub ins_of : Decl → List Bytes
ins_of model = []
ins_of end = []
ins_of (inputs ns) = ns
ins_of (outputs ns) = []
ins_of (gate g) = []

-- what a declaration adds to the outputs' names
unfoldable pub outs_of : Decl → List Bytes
outs_of model = []
outs_of end = []
outs_of (inputs ns) = []
outs_of (outputs ns) = ns
outs_of (gate g) = []

-- what a declaration adds to the gates
unfoldable pub defs_of : Decl → List Def
defs_of model = []
defs_of end = []
defs_of (inputs ns) = []
defs_of (outputs ns) = []
defs_of (gate g) = g ∷ []

-- the inputs' names in text order
unfoldable pub ins : List Decl → List Bytes
ins ds = flat_map ins_of ds

-- the outputs' names in text order
unfoldable pub outs : List Decl → List Bytes
outs ds = flat_map outs_of ds

-- the gates: "Each `.latch` and `.names` is a gate in text order"
unfoldable pub defs : List Decl → List Def
defs ds = flat_map defs_of ds

-- a cover's last name is its output's
unfoldable pub cover_out : List Bytes → Bytes
cover_out ns = get_or ns (length ns - 1) []

-- the names before the last are its inputs'
unfoldable pub cover_ins : List Bytes → List Bytes
cover_ins ns = take (length ns - 1) ns

-- the name that a gate defines
unfoldable pub defines : Def → Bytes
defines (latch d) = d.output
defines (cover ns ls) = cover_out ns

-- the names that a gate uses
unfoldable pub used_names : Def → List Bytes
used_names (latch d) = latch_uses d
used_names (cover ns ls) = cover_ins ns

-- a cube line's columns: the first of two tokens, or none
unfoldable pub columns : List Bytes → Bytes
columns [] = []
columns (o ∷ []) = []
columns (c ∷ o ∷ ts) = c

-- a cube line's output: the second of two tokens, or the only one
unfoldable pub output : List Bytes → Bytes
output [] = []
output (o ∷ []) = o
output (c ∷ o ∷ ts) = o

-- the line's output is 1
unfoldable pub is_one : List Bytes → Bool
is_one ts = same (output ts) (49 ∷ [])
