-- The model of a text (document 01, src/io/blif.rs: `read_statements`, `build_network`). Assumes nothing: these are definitions.
use Rattle.std.specs.Prelude.{cond, List, map, ℕ, eqb}
use Rattle.lists.specs.Lists.{Bytes}
use Rattle.blif_text.specs.Decls.{Def, latch, cover, Decl, decls_of, ins, outs, defs, cover_out, cover_ins, columns, is_one}
use Rattle.blif_meaning.specs.Model.{Col, C0, C1, Dash, Line, Block, Latch, Cover, Model}

-- the column of a byte
abbrev pub col_of_byte : ℕ → Col
col_of_byte c = cond (eqb 48 c) C0 (cond (eqb 49 c) C1 Dash)

-- the row of a cube line's tokens
abbrev pub line_of : List Bytes → Line
line_of ts = record { cols = map col_of_byte (columns ts); out = is_one ts }

-- the block of a latch or a cover
abbrev pub block_of : Def → Block Bytes
block_of (latch d) = Latch d
block_of (cover ns ls) = Cover (cover_ins ns) (cover_out ns) (map line_of ls)

-- the model of declarations
abbrev pub model_of : List Decl → Model Bytes
model_of ds = record { inputs = ins ds; outputs = outs ds; blocks = map block_of (defs ds) }

-- the model of a text
abbrev pub model_of_text : Bytes → Model Bytes
model_of_text text = model_of (decls_of text)
