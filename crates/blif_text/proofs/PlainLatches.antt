-- Every latch that a text declares has neither enable nor reset. Assumes nothing.
use mathlib.Core.Path.{◌≡◌, refl}
use mathlib.Core.List.{List, [], ◌∷◌, map, flat_map, Memᴰ}
use mathlib.Core.Option.{Option, none, some}
use Rattle.lists.specs.Lists.{Bytes}
use Rattle.lists.proofs.Every.{Every, every-nil, every-cons, every-place}
use Rattle.lists.proofs.Places.{mem-place}
use Rattle.blif_meaning.specs.Model.{Init, LatchDef, plain_latch}
use Rattle.blif_text.specs.Lines.{lines, joined, tokens}
use Rattle.blif_text.specs.Keywords.{keyword_of}
use Rattle.blif_text.specs.Statements.{Parsed, model_stmt, init_among, latch_with, latch_stmt, by_keyword, stmt_of, parsed_line, parsed, stmts}
use Rattle.blif_text.specs.Decls.{Def, latch, cover, decls, decls_of, defs_of, defs}
use Rattle.blif_text.specs.declared.Keyword.{Keyword}
use Rattle.blif_text.specs.declared.Keyword.TheVariants as key

-- a cover, or a latch that has neither enable nor reset
abbrev PlainDef : Def → Type 0
PlainDef (latch l) = plain_latch l.input l.output l.init ≡ l
PlainDef (cover ns ls) = Unit {0}

-- the definitions among statements
abbrev defs_in : List Parsed → List Def
defs_in ps = defs (decls (stmts ps))

-- a latch more, by its initial state
started-plain : (d q : Bytes) (o : Option Init) (ps : List Parsed) → Every PlainDef (defs_in ps) → Every PlainDef (defs_in (latch_with d q o ∷ ps))
unfolding latch_with stmts decls defs defs_of flat_map
started-plain d q none ps h = h
started-plain d q (some i) ps h = every-cons refl h

-- one statement more, by its keyword
keyword-plain : (w : Keyword) (k : Bytes) (ts : List Bytes) (ps : List Parsed) → Every PlainDef (defs_in ps) → Every PlainDef (defs_in (by_keyword w k ts ∷ ps))
unfolding model_stmt latch_stmt stmts decls defs defs_of flat_map
keyword-plain key.Model k [] ps h = h
keyword-plain key.Model k (n ∷ ts) ps h = h
keyword-plain key.Inputs k ts ps h = h
keyword-plain key.Outputs k ts ps h = h
keyword-plain key.Latch k [] ps h = h
keyword-plain key.Latch k (d ∷ []) ps h = h
keyword-plain key.Latch k (d ∷ q ∷ ts) ps h = started-plain d q (init_among ts) ps h
keyword-plain key.Names k ts ps h = every-cons tt h
keyword-plain key.End k ts ps h = every-nil
keyword-plain key.Exdc k ts ps h = every-nil
keyword-plain key.Unsupported k ts ps h = h
keyword-plain key.Cube k ts ps h = h

-- all statements
rows-plain : (rows : List (List Bytes)) → Every PlainDef (defs_in (flat_map parsed_line rows))
unfolding flat_map parsed_line stmt_of stmts decls defs
rows-plain [] = every-nil
rows-plain ([] ∷ rows) = rows-plain rows
rows-plain ((k ∷ ts) ∷ rows) = keyword-plain (keyword_of k) k ts (flat_map parsed_line rows) (rows-plain rows)

-- a latch of a text is its input, its output and its initial state alone
pub declared-plain : (s : Bytes) (l : LatchDef Bytes) → Memᴰ (latch l) (defs (decls_of s)) → plain_latch l.input l.output l.init ≡ l
unfolding decls_of parsed
declared-plain s l m = let at = mem-place (defs (decls_of s)) (latch l) m in every-place (rows-plain (map tokens (joined (lines s)))) at.0 (latch l) at.1
