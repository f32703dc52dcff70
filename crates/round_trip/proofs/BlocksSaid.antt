-- What the lines of written blocks say: their statements and declarations, and that the blocks come back. Assumes nothing.
use mathlib.Core.Path.{◌≡◌, refl, sym, ap, ap₂, ◌∙◌}
use mathlib.Core.Bool.{Bool, true, false, ◌||◌, cond}
use mathlib.Core.List.{List, [], ◌∷◌, ◌++◌, map, flat_map, head_d, map-append}
use mathlib.Core.Option.{none}
use Prim.Native.Nat.{ℕ, ◌-◌}
use native.Mathlib.Omega.{arith}
use lib.ListN.{length, get_or, take, length-append}
use lib.Seq.{take-append_seam, get_or-append_seam}
use Rattle.lists.specs.Lists.{Bytes, bytes, same}
use Rattle.lists.proofs.Places.{flat_map-append}
use Rattle.lists.proofs.Every.{Every, every-nil, every-cons, every_append, every_map}
use Rattle.blif_text.specs.Lines.{split, cons_first, cut, is_blank, non_empty, tokens}
use Rattle.blif_text.specs.Keywords.{keyword_of}
use Rattle.blif_text.specs.Statements.{Stmt, Parsed, ok, stmt_of, parsed_line}
use Rattle.blif_text.specs.Decls.{Def, latch, cover, Decl, gate, cubes, decls, ins_of, outs_of, defs_of, cover_out, cover_ins, columns, output, is_one}
use Rattle.blif_text.proofs.Saying.{WordByte, IsWord, quoted, says, Single, words-single, says-words, stmt-names, stmt-latch}
use Rattle.blif_meaning.specs.Model.{Col, C0, C1, Dash, Init, I0, I1, DontCare, Unknown, init_bytes, Line, LatchDef, Block, Latch, Cover, plain_latch}
use Rattle.blif_writing.specs.Text.{spaced, col_byte, out_byte, cube_line, latch_line, flop_line, given, stored_line, block_lines, all_lines}
use Rattle.blif_reading.specs.TextModel.{col_of_byte, line_of, block_of}

-- ---- lines of words

module _ (w : Bytes) (ws : List Bytes) (h : IsWord w) (hs : Every IsWord ws) where
  pub says-spaced : says (w ++ spaced ws) ≡ stmt_of w ws ∷ []
  unfolding spaced
  says-spaced = says-words w ws h.0 hs h.1

  pub spaced-single : Single (w ++ spaced ws)
  unfolding spaced
  spaced-single = words-single w ws h.0 hs

-- ---- cube lines

-- the tokens of a cube line
abbrev pub tok : List Col → Bool → List Bytes
tok [] o = (out_byte o ∷ []) ∷ []
tok (c ∷ cs) o = map col_byte (c ∷ cs) ∷ (out_byte o ∷ []) ∷ []

abbrev pub tok_of : Line → List Bytes
tok_of l = tok l.cols l.out

pub col-byte : (c : Col) → WordByte (col_byte c)
col-byte C0 = (omega arith, (λ q. omega arith), (λ q. omega arith), omega arith)
col-byte C1 = (omega arith, (λ q. omega arith), (λ q. omega arith), omega arith)
col-byte Dash = (omega arith, (λ q. omega arith), (λ q. omega arith), omega arith)

pub out-byte : (o : Bool) → WordByte (out_byte o)
out-byte true = (omega arith, (λ q. omega arith), (λ q. omega arith), omega arith)
out-byte false = (omega arith, (λ q. omega arith), (λ q. omega arith), omega arith)

pub out-word : (o : Bool) → Every IsWord ((out_byte o ∷ []) ∷ [])
unfolding non_empty
out-word o = every-cons (every-cons (out-byte o) every-nil, refl) every-nil

pub cube-stmt : (c : Col) (k : Bytes) (ts : List Bytes) → stmt_of (col_byte c ∷ k) ts ≡ ok (Stmt.cube ((col_byte c ∷ k) ∷ ts))
unfolding stmt_of keyword_of same head_d
cube-stmt C0 k ts = refl
cube-stmt C1 k ts = refl
cube-stmt Dash k ts = refl

pub says_none : (o : Bool) → says (spaced ((out_byte o ∷ []) ∷ [])) ≡ ok (Stmt.cube ((out_byte o ∷ []) ∷ [])) ∷ []
unfolding spaced flat_map parsed_line tokens split cons_first is_blank non_empty stmt_of keyword_of same head_d cut
says_none true = refl
says_none false = refl

pub says-cube : (cs : List Col) (o : Bool) → says (map col_byte cs ++ spaced ((out_byte o ∷ []) ∷ [])) ≡ ok (Stmt.cube (tok cs o)) ∷ []
unfolding non_empty
says-cube [] o = says_none o
says-cube (c ∷ cs) o =
    says-spaced (map col_byte (c ∷ cs)) ((out_byte o ∷ []) ∷ []) (every_map col_byte (c ∷ cs) col-byte, refl) (out-word o)
    ∙ ap (λ (p : Parsed). p ∷ []) (cube-stmt c (map col_byte cs) ((out_byte o ∷ []) ∷ []))

-- ---- blocks

-- a latch without enable and reset is written `.latch`
abbrev pub PlainBlock : Block Bytes → Type 0
PlainBlock (Latch l) = (l.enable ≡ none) × (l.reset ≡ none) × IsWord l.input × IsWord l.output
PlainBlock (Cover xs y ls) = Every IsWord xs × IsWord y

abbrev pub block_stmts : Block Bytes → List Stmt
block_stmts (Latch l) = Stmt.latch l ∷ []
block_stmts (Cover xs y ls) = Stmt.names (xs ++ (y ∷ [])) ∷ map (λ (l : Line). Stmt.cube (tok_of l)) ls

abbrev pub all_stmts : List (Block Bytes) → List Stmt
all_stmts [] = []
all_stmts (b ∷ bs) = block_stmts b ++ all_stmts bs

pub kw-latch : IsWord (bytes ".latch")
unfolding non_empty
kw-latch = quoted (bytes ".latch") refl

pub kw-names : IsWord (bytes ".names")
unfolding non_empty
kw-names = quoted (bytes ".names") refl

init-word : (i : Init) → IsWord (init_bytes i)
unfolding non_empty
init-word I0 = quoted (bytes "0") refl
init-word I1 = quoted (bytes "1") refl
init-word DontCare = quoted (bytes "2") refl
init-word Unknown = quoted (bytes "3") refl

pub kw-inputs : IsWord (bytes ".inputs")
unfolding non_empty
kw-inputs = quoted (bytes ".inputs") refl

pub kw-outputs : IsWord (bytes ".outputs")
unfolding non_empty
kw-outputs = quoted (bytes ".outputs") refl

pub latch-words : {d q : Bytes} (i : Init) → IsWord d → IsWord q → Every IsWord (d ∷ q ∷ init_bytes i ∷ [])
latch-words i d q = every-cons d (every-cons q (every-cons (init-word i) every-nil))

pub cover-words : {xs : List Bytes} {y : Bytes} → Every IsWord xs → IsWord y → Every IsWord (xs ++ (y ∷ []))
cover-words xs y = every_append xs (every-cons y every-nil)

pub latch-line : (l : LatchDef Bytes) → l.enable ≡ none → l.reset ≡ none → stored_line l ≡ latch_line l
latch-line l e r = λ i. cond (given (e i) || given (r i)) (flop_line l) (latch_line l)

latch-plain : (l : LatchDef Bytes) → l.enable ≡ none → l.reset ≡ none → plain_latch l.input l.output l.init ≡ l
latch-plain l e r = λ i. record { input = l.input; output = l.output; enable = sym e i; reset = sym r i; init = l.init }

pub cubes-say : (ls : List Line) → flat_map says (map cube_line ls) ≡ map ok (map (λ (l : Line). Stmt.cube (tok_of l)) ls)
unfolding flat_map
cubes-say [] = refl
cubes-say (l ∷ ls) = ap₂ (λ (a b : List Parsed). a ++ b) (says-cube l.cols l.out) (cubes-say ls)

pub block-says : (b : Block Bytes) → PlainBlock b → flat_map says (block_lines b) ≡ map ok (block_stmts b)
unfolding flat_map
block-says (Latch l) w =
    ap (λ (r : List Parsed). r ++ []) (
    ap says (latch-line l w.0 w.1)
    ∙ says-spaced (bytes ".latch") (l.input ∷ l.output ∷ init_bytes l.init ∷ []) kw-latch (latch-words l.init w.2 w.3)
    ∙ ap (λ (p : Parsed). p ∷ []) (stmt-latch l.input l.output l.init ∙ ap (λ (x : LatchDef Bytes). ok (Stmt.latch x)) (latch-plain l w.0 w.1)))
block-says (Cover xs y ls) w =
    ap₂ (λ (a b : List Parsed). a ++ b)
    (says-spaced (bytes ".names") (xs ++ (y ∷ [])) kw-names (cover-words w.0 w.1) ∙ ap (λ (p : Parsed). p ∷ []) (stmt-names (xs ++ (y ∷ []))))
    (cubes-say ls)

pub all_say : {bs : List (Block Bytes)} → Every PlainBlock bs → flat_map says (all_lines bs) ≡ map ok (all_stmts bs)
unfolding flat_map
all_say every-nil = refl
all_say (every-cons {x = b} {xs = bs} h hs) =
    flat_map-append says (block_lines b) (all_lines bs) ∙ ap₂ (λ (x y : List Parsed). x ++ y) (block-says b h) (all_say hs) ∙ sym (map-append ok (block_stmts b) (all_stmts bs))

-- ---- declarations

abbrev pub def_of : Block Bytes → Def
def_of (Latch l) = latch l
def_of (Cover xs y ls) = cover (xs ++ (y ∷ [])) (map tok_of ls)

abbrev pub gate_of : Block Bytes → Decl
gate_of b = gate (def_of b)

pub no-cubes : (bs : List (Block Bytes)) → cubes (all_stmts bs) ≡ []
unfolding cubes
no-cubes [] = refl
no-cubes (Latch l ∷ bs) = refl
no-cubes (Cover xs y ls ∷ bs) = refl

pub cubes-of : (ls : List Line) (rest : List Stmt) → cubes rest ≡ [] → cubes (map (λ (l : Line). Stmt.cube (tok_of l)) ls ++ rest) ≡ map tok_of ls
unfolding cubes
cubes-of [] rest e = e
cubes-of (l ∷ ls) rest e = ap (λ (r : List (List Bytes)). tok_of l ∷ r) (cubes-of ls rest e)

pub decls-past : (ls : List Line) (rest : List Stmt) → decls (map (λ (l : Line). Stmt.cube (tok_of l)) ls ++ rest) ≡ decls rest
unfolding decls
decls-past [] rest = refl
decls-past (l ∷ ls) rest = decls-past ls rest

pub all-decls : (bs : List (Block Bytes)) → decls (all_stmts bs) ≡ map gate_of bs
unfolding decls
all-decls [] = refl
all-decls (Latch l ∷ bs) = ap (λ (r : List Decl). gate (latch l) ∷ r) (all-decls bs)
all-decls (Cover xs y ls ∷ bs) =
    ap₂ (λ (c : List (List Bytes)) (r : List Decl). gate (cover (xs ++ (y ∷ [])) c) ∷ r) (cubes-of ls (all_stmts bs) (no-cubes bs)) (decls-past ls (all_stmts bs) ∙ all-decls bs)

-- ---- blocks come back

pub cols-back : (cs : List Col) → map col_of_byte (map col_byte cs) ≡ cs
cols-back [] = refl
cols-back (C0 ∷ cs) = ap (λ (l : List Col). C0 ∷ l) (cols-back cs)
cols-back (C1 ∷ cs) = ap (λ (l : List Col). C1 ∷ l) (cols-back cs)
cols-back (Dash ∷ cs) = ap (λ (l : List Col). Dash ∷ l) (cols-back cs)

pub tok-columns : (cs : List Col) (o : Bool) → columns (tok cs o) ≡ map col_byte cs
unfolding columns
tok-columns [] o = refl
tok-columns (c ∷ cs) o = refl

pub tok-one : (cs : List Col) (o : Bool) → is_one (tok cs o) ≡ o
unfolding is_one output same
tok-one [] true = refl
tok-one [] false = refl
tok-one (c ∷ cs) true = refl
tok-one (c ∷ cs) false = refl

pub lines-back : (ls : List Line) → map line_of (map tok_of ls) ≡ ls
lines-back [] = refl
lines-back (l ∷ ls) = λ i. record { cols = (ap (map col_of_byte) (tok-columns l.cols l.out) ∙ cols-back l.cols) i; out = tok-one l.cols l.out i } ∷ lines-back ls i

pub last-at : (xs : List Bytes) (y : Bytes) → length (xs ++ (y ∷ [])) - 1 ≡ length xs
last-at xs y = simp length-append (omega arith)

pub cover-ins : (xs : List Bytes) (y : Bytes) → cover_ins (xs ++ (y ∷ [])) ≡ xs
unfolding cover_ins
cover-ins xs y = ap (λ (n : ℕ). take n (xs ++ (y ∷ []))) (last-at xs y) ∙ take-append_seam xs (y ∷ [])

pub cover-out : (xs : List Bytes) (y : Bytes) → cover_out (xs ++ (y ∷ [])) ≡ y
unfolding cover_out
cover-out xs y = ap (λ (n : ℕ). get_or (xs ++ (y ∷ [])) n []) (last-at xs y) ∙ get_or-append_seam xs y [] []

pub block_back : (b : Block Bytes) → PlainBlock b → block_of (def_of b) ≡ b
block_back (Latch l) w = refl
block_back (Cover xs y ls) w = λ i. Cover (cover-ins xs y i) (cover-out xs y i) (lines-back ls i)

pub blocks-back : {bs : List (Block Bytes)} → Every PlainBlock bs → map block_of (map def_of bs) ≡ bs
blocks-back every-nil = refl
blocks-back (every-cons {x = b} h hs) = ap₂ (λ (x : Block Bytes) (l : List (Block Bytes)). x ∷ l) (block_back b h) (blocks-back hs)

pub gates-ins : (bs : List (Block Bytes)) → flat_map ins_of (map gate_of bs) ≡ []
unfolding flat_map ins_of
gates-ins [] = refl
gates-ins (b ∷ bs) = gates-ins bs

pub gates-outs : (bs : List (Block Bytes)) → flat_map outs_of (map gate_of bs) ≡ []
unfolding flat_map outs_of
gates-outs [] = refl
gates-outs (b ∷ bs) = gates-outs bs

pub gates-defs : (bs : List (Block Bytes)) → flat_map defs_of (map gate_of bs) ≡ map def_of bs
unfolding flat_map defs_of
gates-defs [] = refl
gates-defs (b ∷ bs) = ap (λ (l : List Def). def_of b ∷ l) (gates-defs bs)
