-- Whole lines with further ones behind them: their statements come first, and where one of them stops, those behind declare nothing.
-- Assumes nothing.
use Rattle.std.specs.Prelude.{if◌then◌else◌}
use mathlib.Core.Path.{◌≡◌, refl, sym, ap, ap₂, ◌∙◌, subst}
use mathlib.Core.Bool.{true, false, ◌&&◌, true≢false}
use mathlib.Core.List.{List, [], ◌∷◌, ◌++◌, map, flat_map, head_d, map-append}
use Prim.Native.Nat.{ℕ, suc, ◌-◌}
use native.Mathlib.Omega.{arith}
use lib.Dec.{eqb}
use lib.ListN.{length, get_or, take}
use borrow.Author.Tests.{eqb-true}
use Rattle.lists.specs.Lists.{Bytes, any}
use Rattle.lists.proofs.Tests.{by-test}
use Rattle.lists.proofs.Places.{flat_map-append}
use Rattle.refusals.specs.Order.{◌or_else◌}
use Rattle.blif_text.specs.Lines.{cons_first, split, drop_cr, lines, ends_in_lf, cut, continues, before, joined, tokens}
use Rattle.blif_text.specs.Statements.{Stmt, Parsed, ok, bad, parsed_line, parsed, stmts, first_bad}
use Rattle.blif_text.specs.Decls.{latch, cover, Decl, model, inputs, outputs, gate, cubes, decls}
use Rattle.blif_text.specs.Ended.{stops}

-- the last of a list is that of its rest, if there is one
last-next : {A : Type 0} (x y : A) (l : List A) (d : A) → get_or (y ∷ l) (length (y ∷ l) - 1) d ≡ get_or (x ∷ y ∷ l) (length (x ∷ y ∷ l) - 1) d
last-next x y l d = let place : suc (length (y ∷ l) - 1) ≡ length (x ∷ y ∷ l) - 1 = omega arith in ap (λ (i : ℕ). get_or (x ∷ y ∷ l) i d) place

-- ---- lines

-- the lines of a byte and those of the others
by_line : ℕ → Bytes → List Bytes → List Bytes
by_line c s ls = if eqb 13 c && eqb 10 (head_d s 0) then ls else (if eqb 10 c then [] ∷ ls else cons_first c ls)

line_first : (c : ℕ) (s : Bytes) → lines (c ∷ s) ≡ by_line c s (lines s)
unfolding lines drop_cr split by_line
line_first c s = by-test (eqb 13 c && eqb 10 (head_d s 0)) (λ h. rw h refl) (λ h. rw h refl)

-- a byte of a line that has another behind it
line-append : (c : ℕ) (s l : Bytes) (ls ms : List Bytes) → by_line c s ((l ∷ ls) ++ ms) ≡ by_line c s (l ∷ ls) ++ ms
unfolding by_line cons_first
line-append c s l ls ms =
    by-test (eqb 13 c && eqb 10 (head_d s 0)) (λ h. rw h refl) (λ h. rw h (by-test (eqb 10 c) (λ k. rw k refl) (λ k. rw k refl)))

-- there is a line
lines-some : (c : ℕ) (s : Bytes) → ends_in_lf (c ∷ s) ≡ true → (l : Bytes) × (ls : List Bytes) × (lines (c ∷ s) ≡ l ∷ ls)
unfolding ends_in_lf lines drop_cr split by_line cons_first head_d
lines-some c [] e = subst (λ (x : ℕ). (l : Bytes) × (ls : List Bytes) × (lines (x ∷ []) ≡ l ∷ ls)) (eqb-true 10 c e) ([], [], refl)
lines-some c (d ∷ s) e = subst (λ (x : List Bytes). (l : Bytes) × (ls : List Bytes) × (x ≡ l ∷ ls)) (sym (line_first c (d ∷ s))) (some (lines-some d s (ap (eqb 10) (last-next c d s 0) ∙ e)))
  where
    some : (l : Bytes) × (ls : List Bytes) × (lines (d ∷ s) ≡ l ∷ ls) → (l : Bytes) × (ls : List Bytes) × (by_line c (d ∷ s) (lines (d ∷ s)) ≡ l ∷ ls)
    some (l, ls, q) =
        by-test (eqb 13 c && eqb 10 d) (λ h. rw (h, q) (l, ls, refl))
        (λ h. rw (h, q) (by-test (eqb 10 c) (λ k. rw k ([], l ∷ ls, refl)) (λ k. rw k (c ∷ l, ls, refl))))

-- whole lines stay lines
lines-append : (s t : Bytes) → ends_in_lf s ≡ true → lines (s ++ t) ≡ lines s ++ lines t
unfolding ends_in_lf lines drop_cr split by_line head_d
lines-append [] t e = refl
lines-append (c ∷ []) t e = subst (λ (x : ℕ). lines (x ∷ t) ≡ lines (x ∷ []) ++ lines t) (eqb-true 10 c e) refl
lines-append (c ∷ d ∷ s) t e =
    let f : ends_in_lf (d ∷ s) ≡ true = ap (eqb 10) (last-next c d s 0) ∙ e in
    let k = lines-some d s f in
    line_first c (d ∷ s ++ t)
    ∙ ap (by_line c (d ∷ s)) (lines-append (d ∷ s) t f ∙ ap (λ (x : List Bytes). x ++ lines t) k.2)
    ∙ line-append c (d ∷ s) k.0 k.1 (lines t)
    ∙ ap (λ (x : List Bytes). x ++ lines t) (ap (by_line c (d ∷ s)) (sym k.2) ∙ sym (line_first c (d ∷ s)))

-- ---- statements' texts

-- a line that continues, before others
before-append : (x : Bytes) (u : Bytes) (us vs : List Bytes) → before x ((u ∷ us) ++ vs) ≡ before x (u ∷ us) ++ vs
unfolding before
before-append x u us vs = refl

-- there is a text
joined-some : (l : Bytes) (ls : List Bytes) → (u : Bytes) × (us : List Bytes) × (joined (l ∷ ls) ≡ u ∷ us)
unfolding joined before
joined-some l ls = by-test (continues l) (λ h. rw h (pending (joined ls))) (λ h. rw h (32 ∷ cut l, joined ls, refl))
  where
    pending : (vs : List Bytes) → (u : Bytes) × (us : List Bytes) × (before (32 ∷ take (length l - 1) l) vs ≡ u ∷ us)
    pending [] = (32 ∷ take (length l - 1) l, [], refl)
    pending (v ∷ vs) = ((32 ∷ take (length l - 1) l) ++ v, vs, refl)

-- where the last line does not continue, others behind it are joined by themselves
joined-append : (ls ms : List Bytes) → continues (get_or ls (length ls - 1) []) ≡ false → joined (ls ++ ms) ≡ joined ls ++ joined ms
unfolding joined
joined-append [] ms e = refl
joined-append (l ∷ []) ms e = rw e refl
joined-append (l ∷ m ∷ ls) ms e =
    let k = joined-some m ls in
    let q : joined (m ∷ ls ++ ms) ≡ joined (m ∷ ls) ++ joined ms = joined-append (m ∷ ls) ms (ap continues (last-next l m ls []) ∙ e) in
    by-test (continues l)
    (λ h. rw h (ap (before (32 ∷ take (length l - 1) l)) (q ∙ ap (λ (x : List Bytes). x ++ joined ms) k.2)
    ∙ before-append (32 ∷ take (length l - 1) l) k.0 k.1 (joined ms)
    ∙ ap (λ (x : List Bytes). before (32 ∷ take (length l - 1) l) x ++ joined ms) (sym k.2)))
    (λ h. rw h (ap (λ (x : List Bytes). (32 ∷ cut l) ∷ x) q))

-- ---- statements

-- whole lines and those behind them have the statements of both
pub parsed-append : (s t : Bytes) → ends_in_lf s ≡ true → continues (get_or (lines s) (length (lines s) - 1) []) ≡ false → parsed (s ++ t) ≡ parsed s ++ parsed t
unfolding parsed
parsed-append s t e f =
    ap (λ (ls : List Bytes). flat_map parsed_line (map tokens (joined ls))) (lines-append s t e)
    ∙ ap (λ (ls : List Bytes). flat_map parsed_line (map tokens ls)) (joined-append (lines s) (lines t) f)
    ∙ ap (flat_map parsed_line) (map-append tokens (joined (lines s)) (joined (lines t)))
    ∙ flat_map-append parsed_line (map tokens (joined (lines s))) (map tokens (joined (lines t)))

pub stmts-append : (ps qs : List Parsed) → stmts (ps ++ qs) ≡ stmts ps ++ stmts qs
unfolding stmts
stmts-append [] qs = refl
stmts-append (ok s ∷ ps) qs = ap (λ (x : List Stmt). s ∷ x) (stmts-append ps qs)
stmts-append (bad r ∷ ps) qs = stmts-append ps qs

-- the first refusal of both is that of the first ones, else that of the others
pub bad-append : (ps qs : List Parsed) → first_bad (ps ++ qs) ≡ (first_bad ps or_else first_bad qs)
unfolding first_bad ◌or_else◌
bad-append [] qs = refl
bad-append (ok s ∷ ps) qs = bad-append ps qs
bad-append (bad r ∷ ps) qs = refl

-- ---- declarations

cubes-append : (ss rs : List Stmt) → any stops ss ≡ true → cubes (ss ++ rs) ≡ cubes ss
unfolding stops cubes
cubes-append [] rs h = absurd (true≢false (sym h))
cubes-append (Stmt.model ∷ ss) rs h = refl
cubes-append (Stmt.end ∷ ss) rs h = refl
cubes-append (Stmt.exdc ∷ ss) rs h = refl
cubes-append (Stmt.inputs ns ∷ ss) rs h = refl
cubes-append (Stmt.outputs ns ∷ ss) rs h = refl
cubes-append (Stmt.names ns ∷ ss) rs h = refl
cubes-append (Stmt.latch d ∷ ss) rs h = refl
cubes-append (Stmt.cube ts ∷ ss) rs h = ap (λ (x : List (List Bytes)). ts ∷ x) (cubes-append ss rs h)

-- nothing is declared behind a statement that stops
pub decls-append : (ss rs : List Stmt) → any stops ss ≡ true → decls (ss ++ rs) ≡ decls ss
unfolding stops decls
decls-append [] rs h = absurd (true≢false (sym h))
decls-append (Stmt.model ∷ ss) rs h = ap (λ (x : List Decl). model ∷ x) (decls-append ss rs h)
decls-append (Stmt.end ∷ ss) rs h = refl
decls-append (Stmt.exdc ∷ ss) rs h = refl
decls-append (Stmt.inputs ns ∷ ss) rs h = ap (λ (x : List Decl). inputs ns ∷ x) (decls-append ss rs h)
decls-append (Stmt.outputs ns ∷ ss) rs h = ap (λ (x : List Decl). outputs ns ∷ x) (decls-append ss rs h)
decls-append (Stmt.names ns ∷ ss) rs h =
    ap₂ (λ (x : List (List Bytes)) (y : List Decl). gate (cover ns x) ∷ y) (cubes-append ss rs h) (decls-append ss rs h)
decls-append (Stmt.latch d ∷ ss) rs h = ap (λ (x : List Decl). gate (latch d) ∷ x) (decls-append ss rs h)
decls-append (Stmt.cube ts ∷ ss) rs h = decls-append ss rs h
