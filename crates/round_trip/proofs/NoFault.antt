-- The text written for a network is refused by no test but that of its size (document 01, "Reading refuses, in order"). Assumes nothing.
use mathlib.Core.Path.{◌≡◌, refl, sym, ap, ap₂, ◌∙◌, subst}
use mathlib.Core.Bool.{Bool, true, false, not, ◌&&◌, ◌||◌}
use mathlib.Core.List.{List, [], ◌∷◌, ◌++◌, map, flat_map, append_assoc, Memᴰ}
use mathlib.Core.Logic.{inl, inr, ⊎_elim}
use Prim.Native.Nat.{ℕ, ◌≤◌}
use lib.ListN.{length, length-map}
use borrow.Author.Tests.{eq-eqb, le-ltb}
use Rattle.lists.specs.Lists.{Bytes, same, all, any, elem, known, Dup}
use Rattle.lists.proofs.Tests.{and-false}
use Rattle.lists.proofs.Places.{place-mem}
use Rattle.lists.proofs.Range.{mem-all}
use Rattle.lists.proofs.Known.{mem-known, out-unknown}
use Rattle.lists.proofs.Once.{dup-left, dup-both}
use Rattle.refusals.specs.Order.{◌or_else◌, refuse_if, fine}
use Rattle.refusals.specs.declared.Refusal.TheVariants as refusal
use Rattle.network.specs.Net.{Net}
use Rattle.blif_text.specs.Decls.{Decl, gate, cover, defs, defines, used_names, columns, output, is_one, decls_of}
use Rattle.blif_meaning.specs.Model.{Col, C0, C1, Dash, Line, Block, Latch, Cover, Model, target}
use Rattle.blif_meaning.specs.WellFormed.{defined, sources, Defined, GoodLines, GoodBlock}
use Rattle.blif_writing.specs.WrittenModel.{written}
use Rattle.blif_writing.specs.Names.{name_bytes}
use Rattle.blif_writing.specs.Text.{col_byte, text_of}
use Rattle.blif_reading.specs.Read.{too_large, defined_twice, naming, undefined, good_line, cover_fault, cover_faults, decl_fault, read_fault}
use Rattle.blif_reading.specs.Accepts.{Accepts}
use Rattle.round_trip.specs.Conditions.{PlainFlops}
use Rattle.round_trip.proofs.BlocksSaid.{tok, tok_of, def_of, gate_of, last-at, cover-ins, cover-out, tok-columns, tok-one}
use Rattle.round_trip.proofs.Rendered.{text_decls, text-ascii, text-sound, decls-of, ins-are, outs-are, defs-are}

-- ---- 10: no name twice

-- a name of the second list that stands in the first
met : (l : List Bytes) (x : Bytes) (r : List Bytes) → (Dup (l ++ x ∷ r) → ⊥) → known x l ≡ false
met l x r h = out-unknown x l (λ m. h (dup-both l (x ∷ r) x m (mathlib.Core.List.Memᴰ.head refl)))

-- the first of the second list moved to the end of the first
move : (l : List Bytes) (x : Bytes) (r : List Bytes) → (Dup (l ++ x ∷ r) → ⊥) → Dup ((l ++ (x ∷ [])) ++ r) → ⊥
move l x r h d = h (subst Dup (append_assoc l (x ∷ []) r) d)

not-twice : (earlier ns : List Bytes) → (Dup (earlier ++ ns) → ⊥) → defined_twice earlier ns ≡ false
unfolding defined_twice
not-twice earlier [] h = refl
not-twice earlier (n ∷ ns) h = ap₂ (λ (a b : Bool). a || b) (met earlier n ns h) (not-twice (earlier ++ (n ∷ [])) ns (move earlier n ns h))

name-one : (seen : Bool) (earlier : List Bytes) (xs : List Bytes) (y : Bytes) (ls : List (List Bytes)) (ds : List Decl)
    → naming seen earlier (gate (cover (xs ++ (y ∷ [])) ls) ∷ ds) ≡ (refuse_if (known y earlier) refusal.DefinedTwice or_else naming seen (earlier ++ (y ∷ [])) ds)
unfolding naming
name-one seen earlier [] y ls ds = ap (λ (z : Bytes). refuse_if (known z earlier) refusal.DefinedTwice or_else naming seen (earlier ++ (z ∷ [])) ds) (cover-out [] y)
name-one seen earlier (x ∷ xs) y ls ds = ap (λ (z : Bytes). refuse_if (known z earlier) refusal.DefinedTwice or_else naming seen (earlier ++ (z ∷ [])) ds) (cover-out (x ∷ xs) y)

names-once : (seen : Bool) (earlier : List Bytes) (bs : List (Block Bytes)) → (Dup (earlier ++ map target bs) → ⊥) → naming seen earlier (map gate_of bs) ≡ fine
unfolding naming refuse_if ◌or_else◌
names-once seen earlier [] h = refl
names-once seen earlier (Latch l ∷ bs) h =
    let q : Bytes = l.output in
    rw (met earlier q (map target bs) h) (names-once seen (earlier ++ (q ∷ [])) bs (move earlier q (map target bs) h))
names-once seen earlier (Cover xs y ls ∷ bs) h =
    name-one seen earlier xs y (map tok_of ls) (map gate_of bs)
    ∙ (rw (met earlier y (map target bs) h) (names-once seen (earlier ++ (y ∷ [])) bs (move earlier y (map target bs) h)))

-- ---- 11: every name used is defined

uses-sources : (b : Block Bytes) (x : Bytes) → Memᴰ x (used_names (def_of b)) → Memᴰ x (sources b)
unfolding used_names
uses-sources (Latch l) x m = m
uses-sources (Cover xs y ls) x m = subst (Memᴰ x) (cover-ins xs y) m

defines-target : (b : Block Bytes) → defines (def_of b) ≡ target b
unfolding defines
defines-target (Latch l) = refl
defines-target (Cover xs y ls) = cover-out xs y

defines-all : (bs : List (Block Bytes)) → map defines (map def_of bs) ≡ map target bs
defines-all [] = refl
defines-all (b ∷ bs) = ap₂ (λ (x : Bytes) (l : List Bytes). x ∷ l) (defines-target b) (defines-all bs)

uses-mem : (bs : List (Block Bytes)) (x : Bytes) → Memᴰ x (flat_map used_names (map def_of bs)) → (b : Block Bytes) × Memᴰ b bs × Memᴰ x (sources b)
unfolding flat_map
uses-mem [] x m = absurd (mathlib.Core.List.Memᴰ.not-nil m)
uses-mem (b ∷ bs) x m =
    ⊎_elim (λ (w : Memᴰ x (used_names (def_of b))). (b, mathlib.Core.List.Memᴰ.head refl, uses-sources b x w))
    (λ (w : Memᴰ x (flat_map used_names (map def_of bs))). let t = uses-mem bs x w in (t.0, mathlib.Core.List.Memᴰ.tail t.1, t.2)) (mathlib.Core.List.Memᴰ.append_cases (used_names (def_of b)) m)

defined-mem : (m : Model Bytes) (x : Bytes) → Defined m x → Memᴰ x (defined m)
defined-mem m x (inl (i, e)) = mathlib.Core.List.Memᴰ.append_left (map target m.blocks) (place-mem m.inputs i x e)
defined-mem m x (inr (j, b, e, t)) = mathlib.Core.List.Memᴰ.append_right m.inputs (mathlib.Core.List.Memᴰ.cast (sym t) (mathlib.Core.List.Memᴰ.map target (place-mem m.blocks j b e)))

-- ---- 12 and 13: lines

tok-length : (cs : List Col) (o : Bool) → elem (length (tok cs o)) (1 ∷ 2 ∷ []) ≡ true
tok-length [] o = refl
tok-length (c ∷ cs) o = refl

cols-known : (cs : List Col) → all (λ (c : ℕ). elem c (48 ∷ 49 ∷ 45 ∷ [])) (map col_byte cs) ≡ true
cols-known [] = refl
cols-known (C0 ∷ cs) = cols-known cs
cols-known (C1 ∷ cs) = cols-known cs
cols-known (Dash ∷ cs) = cols-known cs

tok-output : (cs : List Col) (o : Bool) → known (output (tok cs o)) ((48 ∷ []) ∷ (49 ∷ []) ∷ []) ≡ true
unfolding output same
tok-output [] true = refl
tok-output [] false = refl
tok-output (c ∷ cs) true = refl
tok-output (c ∷ cs) false = refl

line-good : (n : ℕ) (l : Line) → length l.cols ≡ n → good_line n (tok_of l) ≡ true
unfolding good_line
line-good n l e = λ i.
    tok-length l.cols l.out i
    && (eq-eqb n (length (columns (tok_of l))) (sym e ∙ sym (length-map l.cols col_byte) ∙ ap length (sym (tok-columns l.cols l.out))) i)
    && (ap (all (λ (c : ℕ). elem c (48 ∷ 49 ∷ 45 ∷ []))) (tok-columns l.cols l.out) ∙ cols-known l.cols) i
    && tok-output l.cols l.out i

lines-good : (n : ℕ) (o : Bool) (ls : List Line) → GoodLines n o ls → all (good_line n) (map tok_of ls) ≡ true
lines-good n o [] g = refl
lines-good n o (l ∷ ls) g = ap₂ (λ (a b : Bool). a && b) (line-good n l g.0) (lines-good n o ls g.2)

all_ones : (n : ℕ) (ls : List Line) → GoodLines n true ls → all is_one (map tok_of ls) ≡ true
all_ones n [] g = refl
all_ones n (l ∷ ls) g = ap₂ (λ (a b : Bool). a && b) (tok-one l.cols l.out ∙ g.1) (all_ones n ls g.2)

no_ones : (n : ℕ) (ls : List Line) → GoodLines n false ls → any is_one (map tok_of ls) ≡ false
no_ones n [] g = refl
no_ones n (l ∷ ls) g = ap₂ (λ (a b : Bool). a || b) (tok-one l.cols l.out ∙ g.1) (no_ones n ls g.2)

one-kind : (n : ℕ) (o : Bool) (ls : List Line) → GoodLines n o ls → (any is_one (map tok_of ls) && not (all is_one (map tok_of ls))) ≡ false
one-kind n true ls g = ap (λ (b : Bool). any is_one (map tok_of ls) && not b) (all_ones n ls g) ∙ and-false (any is_one (map tok_of ls))
one-kind n false ls g = ap (λ (b : Bool). b && not (all is_one (map tok_of ls))) (no_ones n ls g)

cover-good : (b : Block Bytes) → GoodBlock b → cover_fault (def_of b) ≡ fine
unfolding cover_fault refuse_if ◌or_else◌
cover-good (Latch l) g = refl
cover-good (Cover xs y ls) g =
    rw (last-at xs y, lines-good (length xs) g.0 ls g.1, one-kind (length xs) g.0 ls g.1)

covers-good : (bs : List (Block Bytes)) → ((b : Block Bytes) → Memᴰ b bs → GoodBlock b) → cover_faults (map def_of bs) ≡ fine
unfolding cover_faults ◌or_else◌
covers-good [] h = refl
covers-good (b ∷ bs) h = rw (cover-good b (h b (mathlib.Core.List.Memᴰ.head refl))) (covers-good bs (λ c m. h c (mathlib.Core.List.Memᴰ.tail m)))

-- ---- all tests

module _ (net : Net) (plain_flops : PlainFlops net) (acc : Accepts (written name_bytes net)) where
  abbrev w : Model Bytes
  w = written name_bytes net

  abbrev dl : List Decl
  dl = text_decls net plain_flops

  no-naming : naming false [] dl ≡ fine
  unfolding naming refuse_if ◌or_else◌
  no-naming =
      rw (not-twice [] w.inputs (λ d. acc.formed.once (dup-left w.inputs (map target w.blocks) d)))
      (names-once true w.inputs w.blocks acc.formed.once)

  all_known : (x : Bytes) → Memᴰ x (w.outputs ++ flat_map used_names (map def_of w.blocks)) → known x (defined w) ≡ true
  all_known x m =
      mem-known x (defined w) (defined-mem w x (
      ⊎_elim (λ (v : Memᴰ x w.outputs). acc.formed.closed.outputs_defined x v)
      (λ (v : Memᴰ x (flat_map used_names (map def_of w.blocks))). let t = uses-mem w.blocks x v in acc.formed.closed.sources_defined t.0 x t.1 t.2) (mathlib.Core.List.Memᴰ.append_cases w.outputs m)))

  none-undefined : undefined dl ≡ false
  unfolding undefined
  none-undefined =
      let is = ins-are net plain_flops in
      let os = outs-are net plain_flops in
      let gs = defs-are net plain_flops in
      (λ i. not (all (λ (n : Bytes). known n (is i ++ (ap (map defines) gs ∙ defines-all w.blocks) i)) (os i ++ flat_map used_names (gs i))))
      ∙ ap not (mem-all (λ (n : Bytes). known n (defined w)) (w.outputs ++ flat_map used_names (map def_of w.blocks)) all_known)

  no-cover-fault : cover_faults (defs dl) ≡ fine
  no-cover-fault = ap cover_faults (defs-are net plain_flops) ∙ covers-good w.blocks acc.formed.good

  decls-are : decls_of (text_of net) ≡ dl
  decls-are = decls-of net plain_flops

  -- within our sizes: no refusal at all
  pub no-fault : length (text_of net) ≤ 32768 → too_large (decls_of (text_of net)) ≡ false → read_fault (text_of net) ≡ fine
  unfolding read_fault decl_fault refuse_if ◌or_else◌
  no-fault short small =
      rw (le-ltb 32768 (length (text_of net)) short, text-ascii net plain_flops, text-sound net plain_flops, small)
      (rw decls-are (rw (no-naming, none-undefined, no-cover-fault)))
