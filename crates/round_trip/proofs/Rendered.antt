-- The text written for a network parses as its model: lines as statements, statements as declarations, declarations as blocks.
-- Assumes nothing.
use Rattle.refusals.specs.Order.{fine}
use mathlib.Core.Path.{◌≡◌, refl, sym, ap, ap₂, ◌∙◌, subst}
use mathlib.Core.Bool.{Bool, true, false}
use mathlib.Core.List.{List, [], ◌∷◌, ◌++◌, map, flat_map, head_d, append_assoc, append-nil, map-append}
use mathlib.Core.Option.{some}
use Prim.Native.Nat.{ℕ, zero, suc, ◌+◌, ◌/◌, ◌%◌, ◌<◌}
use native.Mathlib.Omega.{arith}
use lib.Dec.{leb, ltb}
use lib.ListN.{get_elem?}
use borrow.Author.Tests.{ltb-true}
use Rattle.lists.specs.Lists.{Bytes, bytes, same, any, range}
use Rattle.lists.proofs.Places.{flat_map-append}
use Rattle.lists.proofs.Every.{Every, every-nil, every-cons, every_append, every_map}
use Rattle.signal.specs.Signal.{Node, Const, Input, Var, Signal, plain, invert, one_s, zero_s}
use Rattle.gates.specs.Gate.{FlipFlop, PlainFlop, Gate, Comb, Dff}
use Rattle.network.specs.Net.{Net}
use Rattle.blif_text.specs.Lines.{split, cons_first, cut, continues, is_blank, non_empty, tokens}
use Rattle.blif_text.specs.Keywords.{keyword_of}
use Rattle.blif_text.specs.Statements.{Stmt, Parsed, ok, stmt_of, model_stmt, parsed_line, parsed, stmts, first_bad}
use Rattle.blif_text.specs.Decls.{Decl, decls, decls_of, ins_of, outs_of, defs_of, ins, outs, defs}
use Rattle.blif_text.proofs.Saying.{WordByte, IsWord, quoted, says, Single, quoted-line, parsed-lines, lines-ascii, words-single, stmt-inputs, stmt-outputs, stmts-ok, none-bad}
use Rattle.blif_meaning.specs.Model.{Line, init_bytes, Block, Latch, Cover, Model}
use Rattle.blif_writing.specs.WrittenModel.{bare, latch_of, unless, latch_blocks, comb_blocks, inverter_block, inverters, const_blocks, written}
use Rattle.blif_writing.specs.Names.{decimal_before, suffix, node_bytes, name_bytes}
use Rattle.blif_writing.specs.Text.{spaced, line, col_byte, out_byte, cube_line, block_lines, all_lines, text_lines, text_of}
use Rattle.blif_reading.specs.TextModel.{block_of, model_of, model_of_text}
use Rattle.blif_writing.proofs.Blocks.{comb-cases}
use Rattle.round_trip.specs.Conditions.{PlainFlops}
use Rattle.round_trip.proofs.BlocksSaid.{col-byte, out-word, PlainBlock, block_stmts, all_stmts, kw-latch, kw-names, kw-inputs, kw-outputs, latch-words, cover-words, latch-line, all_say, def_of, gate_of, all-decls, blocks-back, gates-ins, gates-outs, gates-defs, says-spaced, spaced-single}

-- ---- names are words

decimal-word : (f n : ℕ) (s : Bytes) → Every WordByte s → Every WordByte (decimal_before f n s)
decimal-word zero n s h = h
decimal-word (suc f) n s h = go (ltb n 10) refl (decimal-word f (n / 10))
  where
    digit : (d : ℕ) → d < 10 → WordByte (48 + d)
    digit d u = (omega arith, (λ q. omega arith), (λ q. omega arith), omega arith)

    go : (b : Bool) → ltb n 10 ≡ b → ((t : Bytes) → Every WordByte t → Every WordByte (decimal_before f (n / 10) t))
        → Every WordByte (elim b as (λ (x : Bool). Bytes) [ true ↦ (48 + n) ∷ s | false ↦ decimal_before f (n / 10) ((48 + n % 10) ∷ s) ])
    go true e ih = every-cons (digit n (ltb-true n 10 e)) h
    go false e ih = ih ((48 + n % 10) ∷ s) (every-cons (digit (n % 10) (omega arith)) h)

suffix-word : (v : Bool) → Every WordByte (suffix v)
unfolding non_empty
suffix-word false = every-nil
suffix-word true = (quoted (bytes "_n") refl).0

node-word : (n : Node) (v : Bool) → IsWord (node_bytes n v)
unfolding non_empty
node-word Const true = quoted (bytes "vdd") refl
node-word Const false = quoted (bytes "gnd") refl
node-word (Input i) v = (every-cons {x = 105} (omega arith, (λ q. omega arith), (λ q. omega arith), omega arith) (decimal-word (suc i) i (suffix v) (suffix-word v)), refl)
node-word (Var g) v = (every-cons {x = 120} (omega arith, (λ q. omega arith), (λ q. omega arith), omega arith) (decimal-word (suc g) g (suffix v) (suffix-word v)), refl)

name-word : (s : Signal) → IsWord (name_bytes s)
name-word s = node-word s.node s.inv

-- a plain flip-flop is a latch without enable and reset
flop-plain : (k : ℕ) (s : FlipFlop) → PlainFlop s → PlainBlock (Latch (latch_of name_bytes k s))
flop-plain k s p = (ap (unless name_bytes true) p.enable_one, ap (unless name_bytes false) p.reset_zero, name-word s.data_in, name-word (plain (Var k)))

latches-plain : (k : ℕ) (xs : List Gate) → ((i : ℕ) (s : FlipFlop) → get_elem? xs i ≡ some (Dff s) → PlainFlop s) → Every PlainBlock (latch_blocks name_bytes k xs)
latches-plain k [] h = every-nil
latches-plain k (Comb f ps ∷ xs) h = latches-plain (suc k) xs (λ i s p. h (suc i) s p)
latches-plain k (Dff s ∷ xs) h = every-cons (flop-plain k s (h 0 s refl)) (latches-plain (suc k) xs (λ i t p. h (suc i) t p))

covers-plain : (k : ℕ) (xs : List Gate) → Every PlainBlock (comb_blocks name_bytes k xs)
covers-plain k [] = every-nil
covers-plain k (Dff s ∷ xs) = covers-plain (suc k) xs
covers-plain k (Comb f ps ∷ xs) =
    every-cons (comb-cases name_bytes (λ f ps b. PlainBlock b) k
    (λ qs. (every_map (λ (s : Signal). name_bytes (bare s)) qs (λ s. name-word (bare s)), name-word (plain (Var k))))
    (λ g qs e. (every_map name_bytes qs name-word, name-word (plain (Var k)))) f ps)
    (covers-plain (suc k) xs)

inverters-plain : (l : List Node) → Every PlainBlock (map (inverter_block name_bytes) l)
inverters-plain l = every_map (inverter_block name_bytes) l (λ n. (every-cons (name-word (plain n)) every-nil, name-word (invert (plain n))))

consts-plain : Every PlainBlock (const_blocks name_bytes)
consts-plain =
    every-cons {x = Cover [] (name_bytes one_s) (record { cols = []; out = true } ∷ [])} (every-nil, name-word one_s)
    (every-cons {x = Cover [] (name_bytes zero_s) []} (every-nil, name-word zero_s) every-nil)

-- ---- lines end where they end

cube-single : (l : Line) → Single (cube_line l)
unfolding spaced
cube-single l = words-single (map col_byte l.cols) ((out_byte l.out ∷ []) ∷ []) (every_map col_byte l.cols col-byte) (out-word l.out)

block-single : (b : Block Bytes) → PlainBlock b → Every Single (block_lines b)
block-single (Latch l) w =
    every-cons (subst Single (sym (latch-line l w.0 w.1)) (spaced-single (bytes ".latch") (l.input ∷ l.output ∷ init_bytes l.init ∷ []) kw-latch (latch-words l.init w.2 w.3))) every-nil
block-single (Cover xs y ls) w = every-cons (spaced-single (bytes ".names") (xs ++ (y ∷ [])) kw-names (cover-words w.0 w.1)) (every_map cube_line ls cube-single)

all-single : {bs : List (Block Bytes)} → Every PlainBlock bs → Every Single (all_lines bs)
all-single every-nil = every-nil
all-single (every-cons {x = b} h hs) = every_append (block-single b h) (all-single hs)

all_stmts-append : (bs cs : List (Block Bytes)) → all_stmts (bs ++ cs) ≡ all_stmts bs ++ all_stmts cs
all_stmts-append [] cs = refl
all_stmts-append (b ∷ bs) cs = ap (λ (l : List Stmt). block_stmts b ++ l) (all_stmts-append bs cs) ∙ sym (append_assoc (block_stmts b) (all_stmts bs) (all_stmts cs))

-- the lines of `vdd` and `gnd`
abbrev const_lines : List Bytes
const_lines = bytes ".names vdd" ∷ bytes "1" ∷ bytes ".names gnd" ∷ []

consts-single : Every Single const_lines
unfolding continues
consts-single = every-cons (quoted-line (bytes ".names vdd") refl) (every-cons (quoted-line (bytes "1") refl) (every-cons (quoted-line (bytes ".names gnd") refl) every-nil))

consts-say : flat_map says const_lines ≡ map ok (all_stmts (const_blocks name_bytes))
unfolding flat_map parsed_line tokens split cons_first is_blank non_empty stmt_of keyword_of same head_d cut
consts-say = refl

empty : Single []
unfolding continues
empty = (every-nil, refl)

blank : (rest : List Bytes) → flat_map says ([] ∷ rest) ≡ flat_map says rest
unfolding flat_map parsed_line tokens split non_empty cut is_blank cons_first
blank rest = refl

-- the first nine lines, of which two are x and y
heads-single : {x y : Bytes} {rest : List Bytes} → Single x → Single y → Every Single rest
    → Every Single (bytes "# .blif file" ∷ bytes "# Generated by quaigh" ∷ [] ∷ bytes ".model quaigh" ∷ [] ∷ x ∷ [] ∷ y ∷ [] ∷ rest)
unfolding continues
heads-single a b c =
    every-cons (quoted-line (bytes "# .blif file") refl) (every-cons (quoted-line (bytes "# Generated by quaigh") refl) (every-cons empty
    (every-cons (quoted-line (bytes ".model quaigh") refl) (every-cons empty (every-cons a (every-cons empty (every-cons b (every-cons empty c))))))))

heads-say : (x y : Bytes) (rest : List Bytes)
    → flat_map says (bytes "# .blif file" ∷ bytes "# Generated by quaigh" ∷ [] ∷ bytes ".model quaigh" ∷ [] ∷ x ∷ [] ∷ y ∷ [] ∷ rest) ≡ ok Stmt.model ∷ (says x ++ (says y ++ flat_map says rest))
unfolding flat_map parsed_line tokens split cons_first is_blank non_empty stmt_of keyword_of same head_d cut model_stmt
heads-say x y rest = refl

-- the lines of some blocks before others' are their statements
part : {bs : List (Block Bytes)} (rest : List Bytes) (cs : List (Block Bytes)) → Every PlainBlock bs → flat_map says rest ≡ map ok (all_stmts cs) → flat_map says (all_lines bs ++ rest) ≡ map ok (all_stmts (bs ++ cs))
part {bs} rest cs w e =
    flat_map-append says (all_lines bs) rest ∙ ap₂ (λ (x y : List Parsed). x ++ y) (all_say w) e ∙ sym (map-append ok (all_stmts bs) (all_stmts cs)) ∙ ap (map ok) (sym (all_stmts-append bs cs))

module _ (net : Net) (plain_flops : PlainFlops net) where
  abbrev m : Model Bytes
  m = written name_bytes net

  lb-plain : Every PlainBlock (latch_blocks name_bytes 0 net.gates)
  lb-plain = latches-plain 0 net.gates plain_flops

  cb-plain : Every PlainBlock (comb_blocks name_bytes 0 net.gates)
  cb-plain = covers-plain 0 net.gates

  ib-plain : Every PlainBlock (map (inverter_block name_bytes) (inverters net))
  ib-plain = inverters-plain (inverters net)

  all_plain : Every PlainBlock m.blocks
  all_plain = every_append lb-plain (every_append cb-plain (every_append ib-plain consts-plain))

  ins-words : Every IsWord m.inputs
  ins-words = every_map (λ (i : ℕ). name_bytes (plain (Input i))) (range 0 net.inputs) (λ i. name-word (plain (Input i)))

  outs-words : Every IsWord m.outputs
  outs-words = every_map name_bytes net.outputs name-word

  text-single : Every Single (text_lines net)
  text-single =
      heads-single (spaced-single (bytes ".inputs") m.inputs kw-inputs ins-words) (spaced-single (bytes ".outputs") m.outputs kw-outputs outs-words)
      (every_append (all-single lb-plain) (every-cons empty (every_append (all-single cb-plain) (every_append (all-single ib-plain) consts-single))))

  -- the statements of the text
  abbrev text_stmts : List Stmt
  text_stmts = Stmt.model ∷ Stmt.inputs m.inputs ∷ Stmt.outputs m.outputs ∷ all_stmts m.blocks

  text_says : flat_map says (text_lines net) ≡ map ok text_stmts
  text_says =
      let a : says (bytes ".inputs" ++ spaced m.inputs) ≡ ok (Stmt.inputs m.inputs) ∷ [] =
      says-spaced (bytes ".inputs") m.inputs kw-inputs ins-words ∙ ap (λ (p : Parsed). p ∷ []) (stmt-inputs m.inputs) in
      let b : says (bytes ".outputs" ++ spaced m.outputs) ≡ ok (Stmt.outputs m.outputs) ∷ [] =
      says-spaced (bytes ".outputs") m.outputs kw-outputs outs-words ∙ ap (λ (p : Parsed). p ∷ []) (stmt-outputs m.outputs) in
      let ib : List (Block Bytes) = map (inverter_block name_bytes) (inverters net) in
      let il : List Bytes = all_lines ib ++ const_lines in
      let cl : List Bytes = all_lines (comb_blocks name_bytes 0 net.gates) ++ il in
      let c : flat_map says (all_lines (latch_blocks name_bytes 0 net.gates) ++ ([] ∷ cl)) ≡ map ok (all_stmts m.blocks) =
      part ([] ∷ cl) (comb_blocks name_bytes 0 net.gates ++ (ib ++ const_blocks name_bytes)) lb-plain
      (blank cl ∙ part il (ib ++ const_blocks name_bytes) cb-plain (part const_lines (const_blocks name_bytes) ib-plain consts-say)) in
      heads-say (bytes ".inputs" ++ spaced m.inputs) (bytes ".outputs" ++ spaced m.outputs) (all_lines (latch_blocks name_bytes 0 net.gates) ++ ([] ∷ cl))
      ∙ (λ i. ok Stmt.model ∷ (a i ++ (b i ++ c i)))

  stmts-of : parsed (text_of net) ≡ map ok text_stmts
  unfolding line
  stmts-of = parsed-lines (text_lines net) text-single ∙ text_says

  -- no refusal 3
  pub text-ascii : any (leb 128) (text_of net) ≡ false
  unfolding line
  text-ascii = lines-ascii (text_lines net) text-single

  -- no refusal 4 or 5
  pub text-sound : first_bad (parsed (text_of net)) ≡ fine
  text-sound = ap first_bad stmts-of ∙ none-bad text_stmts

  -- the declarations of the text
  abbrev pub text_decls : List Decl
  text_decls = Decl.model ∷ Decl.inputs m.inputs ∷ Decl.outputs m.outputs ∷ map gate_of m.blocks

  pub decls-of : decls_of (text_of net) ≡ text_decls
  unfolding decls decls_of
  decls-of =
      ap (λ (p : List Parsed). decls (stmts p)) stmts-of ∙ ap decls (stmts-ok text_stmts)
      ∙ ap (λ (r : List Decl). Decl.model ∷ Decl.inputs m.inputs ∷ Decl.outputs m.outputs ∷ r) (all-decls m.blocks)

  pub ins-are : ins text_decls ≡ m.inputs
  unfolding ins flat_map ins_of
  ins-are = ap (λ (l : List Bytes). m.inputs ++ l) (gates-ins m.blocks) ∙ append-nil m.inputs

  pub outs-are : outs text_decls ≡ m.outputs
  unfolding outs flat_map outs_of
  outs-are = ap (λ (l : List Bytes). m.outputs ++ l) (gates-outs m.blocks) ∙ append-nil m.outputs

  pub defs-are : defs text_decls ≡ map def_of m.blocks
  unfolding defs flat_map defs_of
  defs-are = gates-defs m.blocks

  -- the text is read back as the model
  pub parses : model_of_text (text_of net) ≡ written name_bytes net
  parses = ap model_of decls-of ∙ (λ i. record { inputs = ins-are i; outputs = outs-are i; blocks = (ap (map block_of) defs-are ∙ blocks-back all_plain) i })
