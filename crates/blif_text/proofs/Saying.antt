-- What a line of plain bytes says: a text of such lines is parsed line by line. Assumes nothing.
use mathlib.Core.Path.{◌≡◌, refl, sym, ap, ap₂, ◌∙◌}
use mathlib.Core.Bool.{Bool, true, false, not, ◌&&◌, ◌||◌}
use mathlib.Core.List.{List, [], ◌∷◌, ◌++◌, map, flat_map}
use Prim.Native.Nat.{ℕ, zero, suc, ◌-◌, ◌≤◌, ◌<◌}
use native.Mathlib.Omega.{arith}
use lib.Dec.{eqb, leb, ltb}
use lib.ListN.{length, get_or}
use borrow.Author.Tests.{eqb-false, leb-true, lt-leb, ne_eqb, ltb-true, not-true}
use Rattle.lists.specs.Lists.{Bytes, bytes, same, all, any}
use Rattle.lists.proofs.Tests.{and_left, and_right, and-false}
use Rattle.lists.proofs.Every.{Every, every-nil, every-cons, every_append, every_of, every-test, every-no, any_append}
use Rattle.refusals.specs.Order.{◌or_else◌, fine}
use Rattle.blif_meaning.specs.Model.{Init, I0, I1, DontCare, Unknown, init_bytes, plain_latch}
use Rattle.blif_text.specs.Lines.{cut, continues, joined, is_blank, non_empty, tokens}
use Rattle.blif_text.specs.Keywords.{keyword_of}
use Rattle.blif_text.specs.Statements.{Stmt, Parsed, ok, stmt_of, init_of, init_among, latch_with, latch_stmt, parsed_line, parsed, stmts, first_bad}
use Rattle.blif_text.proofs.Splitting.{ended, spread, lines-each, Word, tokens-spread}

-- ---- bytes

-- a byte of a line: printable or a blank, no comment, no backslash
abbrev pub LineByte : ℕ → Type 0
LineByte c = (32 ≤ c) × (c ≡ 35 → ⊥) × (c ≡ 92 → ⊥) × (c < 128)

-- a byte of a word: no blank either
abbrev pub WordByte : ℕ → Type 0
WordByte c = (33 ≤ c) × (c ≡ 35 → ⊥) × (c ≡ 92 → ⊥) × (c < 128)

abbrev pub IsWord : Bytes → Type 0
IsWord w = Every WordByte w × (non_empty w ≡ true)

abbrev word_byte : ℕ → Bool
word_byte c = leb 33 c && (not (eqb 35 c) && (not (eqb 92 c) && ltb c 128))

word_test : (c : ℕ) → word_byte c ≡ true → WordByte c
word_test c h =
    let w : Bool = ltb c 128 in
    let v : Bool = not (eqb 92 c) && w in
    let u : Bool = not (eqb 35 c) && v in
    let k : u ≡ true = and_right (leb 33 c) u h in
    let j : v ≡ true = and_right (not (eqb 35 c)) v k in (
      leb-true 33 c (and_left (leb 33 c) u h),
      (λ q. eqb-false 35 c (not-true (eqb 35 c) (and_left (not (eqb 35 c)) v k)) (sym q)),
      (λ q. eqb-false 92 c (not-true (eqb 92 c) (and_left (not (eqb 92 c)) w j)) (sym q)),
      ltb-true c 128 (and_right (not (eqb 92 c)) w j),
    )

-- a quoted word, by a test that computes
pub quoted : (l : Bytes) → (all word_byte l && non_empty l) ≡ true → IsWord l
quoted l e = (every-test word_byte word_test l (and_left (all word_byte l) (non_empty l) e), and_right (all word_byte l) (non_empty l) e)

cut-id : (l : Bytes) → Every LineByte l → cut l ≡ l
unfolding cut
cut-id [] every-nil = refl
cut-id (c ∷ l) (every-cons h hs) = rw (ne_eqb 35 c (λ q. h.1 (sym q)), cut-id l hs)

at-no : (l : Bytes) (i : ℕ) → Every LineByte l → eqb 92 (get_or l i 0) ≡ false
at-no [] i every-nil = refl
at-no (c ∷ l) zero (every-cons h hs) = ne_eqb 92 c (λ q. h.2 (sym q))
at-no (c ∷ l) (suc i) (every-cons h hs) = at-no l i hs

ends-not : (l : Bytes) → Every LineByte l → continues l ≡ false
unfolding continues
ends-not l h = ap (λ (b : Bool). not (any (eqb 35) l) && b) (at-no l (length l - 1) h) ∙ and-false (not (any (eqb 35) l))

-- ---- what a line adds

abbrev pub says : Bytes → List Parsed
says l = parsed_line (tokens (32 ∷ cut l))

-- a line of ASCII that ends where it ends
abbrev pub Single : Bytes → Type 0
Single l = Every (λ c. (32 ≤ c) × (c < 128)) l × (continues l ≡ false)

-- a quoted line, by a test that computes
pub quoted-line : (l : Bytes) → (all (λ c. leb 32 c && ltb c 128) l && not (continues l)) ≡ true → Single l
quoted-line l e =
    let a : Bool = all (λ c. leb 32 c && ltb c 128) l in (
      every-test (λ c. leb 32 c && ltb c 128)
          (λ c h. (leb-true 32 c (and_left (leb 32 c) (ltb c 128) h), ltb-true c 128 (and_right (leb 32 c) (ltb c 128) h))) l
          (and_left a (not (continues l)) e),
      not-true (continues l) (and_right a (not (continues l)) e),
    )

joined-lines : (ls : List Bytes) → Every Single ls → flat_map parsed_line (map tokens (joined ls)) ≡ flat_map says ls
unfolding joined flat_map
joined-lines [] every-nil = refl
joined-lines (l ∷ ls) (every-cons h hs) = rw h.1 (ap (λ (r : List Parsed). says l ++ r) (joined-lines ls hs))

pub parsed-lines : (ls : List Bytes) → Every Single ls → parsed (ended ls) ≡ flat_map says ls
unfolding parsed
parsed-lines ls h =
    ap (λ (r : List Bytes). flat_map parsed_line (map tokens (joined r)))
    (lines-each ls (every_of (λ l k. (every-no (eqb 10) (λ c u. ne_eqb 10 c (λ q. omega (arith, u.0))) k.0, every-no (eqb 13) (λ c u. ne_eqb 13 c (λ q. omega (arith, u.0))) k.0)) h))
    ∙ joined-lines ls h

-- no byte of 128 or more: "3 when it has a byte of 128 or more"
pub lines-ascii : (ls : List Bytes) → Every Single ls → any (leb 128) (ended ls) ≡ false
unfolding flat_map
lines-ascii [] every-nil = refl
lines-ascii (l ∷ ls) (every-cons h hs) =
    any_append (leb 128) (l ++ (10 ∷ [])) (ended ls) (lines-ascii ls hs)
    ∙ any_append (leb 128) l (10 ∷ []) refl
    ∙ every-no (leb 128) (λ c u. lt-leb 128 c u.1) h.0

-- ---- words

word_byte_lem : (c : ℕ) → 33 ≤ c → is_blank c ≡ false
unfolding is_blank
word_byte_lem c h = ap₂ (λ (a b : Bool). leb 9 c && a || b) (lt-leb c 13 (omega arith)) (ne_eqb 32 c (λ q. omega arith)) ∙ ap (λ (a : Bool). a || false) (and-false (leb 9 c))

word : (w : Bytes) → IsWord w → Word w
word w h = (every-no is_blank (λ c k. word_byte_lem c k.0) h.0, h.1)

word_line : {w : Bytes} → Every WordByte w → Every LineByte w
word_line h = every_of (λ c k. (omega (arith, k.0), k.1, k.2, k.3)) h

spread_line : (ws : List Bytes) → Every IsWord ws → Every LineByte (spread ws)
unfolding flat_map
spread_line [] every-nil = every-nil
spread_line (w ∷ ws) (every-cons h hs) = every-cons {x = 32} (omega arith, (λ q. omega arith), (λ q. omega arith), omega arith) (every_append (word_line h.0) (spread_line ws hs))

module _ (w : Bytes) (ws : List Bytes) (h : Every WordByte w) (hs : Every IsWord ws) where
  line_of : Every LineByte (w ++ spread ws)
  line_of = every_append (word_line h) (spread_line ws hs)

  pub words-single : Single (w ++ spread ws)
  words-single = (every_of (λ c k. (k.0, k.3)) line_of, ends-not (w ++ spread ws) line_of)

  -- a line of words says its first word's statement
  pub says-words : non_empty w ≡ true → says (w ++ spread ws) ≡ stmt_of w ws ∷ []
  unfolding flat_map parsed_line
  says-words n =
      ap (λ (l : Bytes). parsed_line (tokens (32 ∷ l))) (cut-id (w ++ spread ws) line_of)
      ∙ ap parsed_line (tokens-spread (w ∷ ws) (every-cons (word w (h, n)) (every_of (λ v k. word v k) hs)))

-- ---- keywords

pub stmt-names : (ns : List Bytes) → stmt_of (bytes ".names") ns ≡ ok (Stmt.names ns)
unfolding stmt_of keyword_of same
stmt-names ns = refl

pub stmt-inputs : (ns : List Bytes) → stmt_of (bytes ".inputs") ns ≡ ok (Stmt.inputs ns)
unfolding stmt_of keyword_of same
stmt-inputs ns = refl

pub stmt-outputs : (ns : List Bytes) → stmt_of (bytes ".outputs") ns ≡ ok (Stmt.outputs ns)
unfolding stmt_of keyword_of same
stmt-outputs ns = refl

-- a latch with the token of an initial state behind its names
pub stmt-latch : (d q : Bytes) (i : Init) → stmt_of (bytes ".latch") (d ∷ q ∷ init_bytes i ∷ []) ≡ ok (Stmt.latch (plain_latch d q i))
unfolding stmt_of keyword_of same latch_stmt init_among init_of latch_with
stmt-latch d q I0 = refl
stmt-latch d q I1 = refl
stmt-latch d q DontCare = refl
stmt-latch d q Unknown = refl

-- ---- statements that are all good

pub stmts-ok : (ss : List Stmt) → stmts (map ok ss) ≡ ss
unfolding stmts
stmts-ok [] = refl
stmts-ok (s ∷ ss) = ap (λ (l : List Stmt). s ∷ l) (stmts-ok ss)

pub none-bad : (ss : List Stmt) → first_bad (map ok ss) ≡ fine
unfolding first_bad ◌or_else◌
none-bad [] = refl
none-bad (s ∷ ss) = none-bad ss
