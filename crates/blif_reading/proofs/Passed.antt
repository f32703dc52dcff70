-- Declarations that none of the tests of 6 to 13 refuses: their model is closed, defines no name twice and has good lines, and the network
-- built for it has valid signals. Assumes nothing.
use mathlib.Core.Path.{◌≡◌, refl, sym, ap, ap₂, ◌∙◌, subst}
use mathlib.Core.Bool.{Bool, true, false, not, ◌&&◌}
use mathlib.Core.List.Memᴰ
use mathlib.Core.List.{List, [], ◌∷◌, ◌++◌, map, flat_map, append_assoc, Memᴰ}
use mathlib.Core.Logic.{inl, inr, ⊎_elim}
use Prim.Native.Nat.{ℕ, ◌-◌}
use native.Mathlib.Omega.{arith}
use lib.Dec.{eqb}
use lib.ListN.{length, length-map, length-take}
use borrow.Author.Tests.{eqb-true, not-false}
use Rattle.lists.specs.Lists.{Bytes, all, any, elem, known, Dup, here, there}
use Rattle.lists.proofs.Tests.{and_left, and_right, or_left, or_right}
use Rattle.lists.proofs.Places.{mem-place, map-place}
use Rattle.lists.proofs.Range.{all-mem, any_none}
use Rattle.lists.proofs.Known.{known-mem, unknown-out}
use Rattle.lists.proofs.Once.{once-nil, dup-left, dup-right, dup-both, dup-append}
use Rattle.refusals.specs.Order.{◌or_else◌, refuse_if, fine}
use Rattle.refusals.specs.declared.Refusal.TheVariants as refusal
use Rattle.refusals.proofs.Order.{refused-ne-fine, or_else-left, or_else-right, fine-refuse_if}
use Rattle.network.specs.Net.{Valid}
use Rattle.blif_text.specs.Decls.{Def, latch, cover, Decl, model, end, inputs, outputs, gate, ins_of, defs_of, ins, outs, defs, cover_out, cover_ins, defines, used_names, columns, output, is_one}
use Rattle.blif_meaning.specs.Model.{Model, target}
use Rattle.blif_meaning.specs.WellFormed.{defined, sources, Defined, Closed, GoodLines, GoodBlock}
use Rattle.blif_reading.specs.TextModel.{col_of_byte, line_of, block_of, model_of}
use Rattle.blif_reading.specs.Read.{too_large, defined_twice, naming, undefined, good_line, cover_fault, cover_faults, decl_fault, signal_of, built_from}
use Rattle.blif_reading.proofs.Lookups.{looks}
use Rattle.blif_reading.proofs.BuiltValid.{built-valid}

-- ---- 10

-- what is defined, in text order
abbrev declared : List Decl → List Bytes
declared [] = []
declared (model ∷ ds) = declared ds
declared (end ∷ ds) = declared ds
declared (inputs ns ∷ ds) = ns ++ declared ds
declared (outputs ns ∷ ds) = declared ds
declared (gate g ∷ ds) = defines g ∷ declared ds

-- apart: none of the second list in the first, and none twice in the second
record Fresh (l r : List Bytes) : Type 0 where
  once : Dup r → ⊥
  new : (x : Bytes) → Memᴰ x r → Memᴰ x l → ⊥

fresh-append : (l a r : List Bytes) → Fresh l a → Fresh (l ++ a) r → Fresh l (a ++ r)
fresh-append l a r f g = record {
  once = λ d. ⊎_elim f.once (λ w. ⊎_elim g.once (λ v. g.new v.0 v.2 (Memᴰ.append_right l v.1)) w) (dup-append a r d);
  new = λ x m n. ⊎_elim (λ (w : Memᴰ x a). f.new x w n) (λ (w : Memᴰ x r). g.new x w (Memᴰ.append_left a n)) (Memᴰ.append_cases a m);
}

fresh-nil : (l : List Bytes) → Fresh l []
fresh-nil l = record { once = λ d. once-nil d; new = λ x m n. Memᴰ.not-nil m }

fresh-one : (l : List Bytes) (x : Bytes) → known x l ≡ false → Fresh l (x ∷ [])
fresh-one l x e = record {
  once = λ d. one d;
  new = λ y m n. unknown-out x l e (Memᴰ.cast (sym (Memᴰ.eq_of_singleton m)) n);
}
  where
    one : Dup (x ∷ []) → ⊥
    one (here m) = Memᴰ.not-nil m
    one (there d) = once-nil d

fresh-twice : (ns l : List Bytes) → defined_twice l ns ≡ false → Fresh l ns
unfolding defined_twice
fresh-twice [] l e = fresh-nil l
fresh-twice (n ∷ ns) l e =
    fresh-append l (n ∷ []) ns (fresh-one l n (or_left (known n l) (defined_twice (l ++ (n ∷ [])) ns) e)) (fresh-twice ns (l ++ (n ∷ [])) (or_right (known n l) (defined_twice (l ++ (n ∷ [])) ns) e))

fresh-named : (ds : List Decl) (seen : Bool) (l : List Bytes) → naming seen l ds ≡ fine → Fresh l (declared ds)
unfolding naming defines
fresh-named [] seen l e = fresh-nil l
fresh-named (model ∷ ds) seen l e = fresh-named ds true l (or_else-right (refuse_if seen refusal.SecondModel) (naming true l ds) e)
fresh-named (end ∷ ds) seen l e = fresh-named ds seen l (or_else-right (refuse_if (not seen) refusal.EndBeforeModel) (naming seen l ds) e)
fresh-named (inputs ns ∷ ds) seen l e =
    fresh-append l ns (declared ds) (fresh-twice ns l (fine-refuse_if (defined_twice l ns) refusal.DefinedTwice (or_else-left (refuse_if (defined_twice l ns) refusal.DefinedTwice) (naming seen (l ++ ns) ds) e)))
    (fresh-named ds seen (l ++ ns) (or_else-right (refuse_if (defined_twice l ns) refusal.DefinedTwice) (naming seen (l ++ ns) ds) e))
fresh-named (outputs ns ∷ ds) seen l e = fresh-named ds seen l e
fresh-named (gate (latch d) ∷ ds) seen l e =
    let q : Bytes = d.output in
    fresh-append l (q ∷ []) (declared ds) (fresh-one l q (fine-refuse_if (known q l) refusal.DefinedTwice (or_else-left (refuse_if (known q l) refusal.DefinedTwice) (naming seen (l ++ (q ∷ [])) ds) e)))
    (fresh-named ds seen (l ++ (q ∷ [])) (or_else-right (refuse_if (known q l) refusal.DefinedTwice) (naming seen (l ++ (q ∷ [])) ds) e))
fresh-named (gate (cover [] ls) ∷ ds) seen l e = absurd (refused-ne-fine e)
fresh-named (gate (cover (n ∷ ns) ls) ∷ ds) seen l e =
    let q : Bytes = cover_out (n ∷ ns) in
    fresh-append l (q ∷ []) (declared ds) (fresh-one l q (fine-refuse_if (known q l) refusal.DefinedTwice (or_else-left (refuse_if (known q l) refusal.DefinedTwice) (naming seen (l ++ (q ∷ [])) ds) e)))
    (fresh-named ds seen (l ++ (q ∷ [])) (or_else-right (refuse_if (known q l) refusal.DefinedTwice) (naming seen (l ++ (q ∷ [])) ds) e))

abbrev in_names : List Decl → List Bytes
in_names ds = flat_map ins_of ds

abbrev gate_names : List Decl → List Bytes
gate_names ds = map defines (flat_map defs_of ds)

mem-declared : (ds : List Decl) (x : Bytes) → Memᴰ x (in_names ds ++ gate_names ds) → Memᴰ x (declared ds)
unfolding flat_map ins_of defs_of
mem-declared [] x m = m
mem-declared (model ∷ ds) x m = mem-declared ds x m
mem-declared (end ∷ ds) x m = mem-declared ds x m
mem-declared (inputs ns ∷ ds) x m =
    ⊎_elim (λ (w : Memᴰ x ns). Memᴰ.append_left (declared ds) w) (λ (w : Memᴰ x (in_names ds ++ gate_names ds)). Memᴰ.append_right ns (mem-declared ds x w))
    (Memᴰ.append_cases ns (subst (Memᴰ x) (append_assoc ns (in_names ds) (gate_names ds)) m))
mem-declared (outputs ns ∷ ds) x m = mem-declared ds x m
mem-declared (gate g ∷ ds) x m =
    ⊎_elim (λ (w : Memᴰ x (in_names ds)). Memᴰ.tail (mem-declared ds x (Memᴰ.append_left (gate_names ds) w)))
    (λ (w : Memᴰ x (defines g ∷ gate_names ds)). ⊎_elim (λ (e : x ≡ defines g). Memᴰ.head e) (λ (v : Memᴰ x (gate_names ds)). Memᴰ.tail (mem-declared ds x (Memᴰ.append_right (in_names ds) v))) (Memᴰ.cases_cons w))
    (Memᴰ.append_cases (in_names ds) m)

dup-declared : (ds : List Decl) → Dup (in_names ds ++ gate_names ds) → Dup (declared ds)
unfolding flat_map ins_of defs_of
dup-declared [] d = d
dup-declared (model ∷ ds) d = dup-declared ds d
dup-declared (end ∷ ds) d = dup-declared ds d
dup-declared (inputs ns ∷ ds) d =
    ⊎_elim (λ (w : Dup ns). dup-left ns (declared ds) w)
    (λ w. ⊎_elim (λ (v : Dup (in_names ds ++ gate_names ds)). dup-right ns (declared ds) (dup-declared ds v)) (λ v. dup-both ns (declared ds) v.0 v.1 (mem-declared ds v.0 v.2)) w)
    (dup-append ns (in_names ds ++ gate_names ds) (subst Dup (append_assoc ns (in_names ds) (gate_names ds)) d))
dup-declared (outputs ns ∷ ds) d = dup-declared ds d
dup-declared (gate g ∷ ds) d =
    let q : Bytes = defines g in
    ⊎_elim (λ (w : Dup (in_names ds)). there (dup-declared ds (dup-left (in_names ds) (gate_names ds) w)))
    (λ w. ⊎_elim (λ (v : Dup (defines g ∷ gate_names ds)). tail (dup-declared ds) v)
    (λ v. ⊎_elim (λ (e : v.0 ≡ defines g). here (mem-declared ds (defines g) (Memᴰ.append_left (gate_names ds) (Memᴰ.cast (sym e) v.1))))
    (λ (u : Memᴰ v.0 (gate_names ds)). there (dup-declared ds (dup-both (in_names ds) (gate_names ds) v.0 v.1 u))) (Memᴰ.cases_cons v.2)) w)
    (dup-append (in_names ds) (defines g ∷ gate_names ds) d)
  where
    tail : (Dup (in_names ds ++ gate_names ds) → Dup (declared ds)) → Dup (defines g ∷ gate_names ds) → Dup (defines g ∷ declared ds)
    tail ih (here m) = here (mem-declared ds (defines g) (Memᴰ.append_right (in_names ds) m))
    tail ih (there e) = there (ih (dup-right (in_names ds) (gate_names ds) e))

-- ---- blocks of declarations

pub target-of : (g : Def) → target (block_of g) ≡ defines g
unfolding defines
target-of (latch l) = refl
target-of (cover ns ls) = refl

targets_of : (gs : List Def) → map target (map block_of gs) ≡ map defines gs
targets_of [] = refl
targets_of (g ∷ gs) = ap₂ (λ (x : Bytes) (l : List Bytes). x ∷ l) (target-of g) (targets_of gs)

sources-of : (g : Def) → sources (block_of g) ≡ used_names g
unfolding used_names
sources-of (latch l) = refl
sources-of (cover ns ls) = refl

-- ---- 11

used_in : (g : Def) (x : Bytes) (gs : List Def) → Memᴰ g gs → Memᴰ x (used_names g) → Memᴰ x (flat_map used_names gs)
unfolding flat_map
used_in g x _ (Memᴰ.head {x = h} {xs = gs} e) m = Memᴰ.append_left (flat_map used_names gs) (subst (λ (k : Def). Memᴰ x (used_names k)) e m)
used_in g x _ (Memᴰ.tail {x = h} {xs = gs} w) m = Memᴰ.append_right (used_names h) (used_in g x gs w m)

uses-in : (gs : List Def) (g : Def) (x : Bytes) → Memᴰ g gs → Memᴰ x (used_names g) → Memᴰ x (flat_map used_names gs)
uses-in gs g x w m = used_in g x gs w m

module _ (ds : List Decl) where
  abbrev m : Model Bytes
  m = model_of ds

  mem-defined : (x : Bytes) → Memᴰ x (ins ds ++ map defines (defs ds)) → Defined m x
  mem-defined x w =
      ⊎_elim (λ (v : Memᴰ x (ins ds)). inl (mem-place (ins ds) x v))
      (λ (v : Memᴰ x (map defines (defs ds))).
      let t = Memᴰ.of_map defines (defs ds) v in
      let p = mem-place (defs ds) t.0 t.1 in
      inr (p.0, block_of t.0, map-place block_of (defs ds) p.0 t.0 p.1, target-of t.0 ∙ t.2))
      (Memᴰ.append_cases (ins ds) w)

  pub closed_of : undefined ds ≡ false → Closed m
  unfolding undefined
  closed_of e =
      let names : List Bytes = ins ds ++ map defines (defs ds) in
      let used : List Bytes = outs ds ++ flat_map used_names (defs ds) in
      let a : all (λ (n : Bytes). known n (ins ds ++ map defines (defs ds))) (outs ds ++ flat_map used_names (defs ds)) ≡ true = not-false (all (λ (n : Bytes). known n (ins ds ++ map defines (defs ds))) (outs ds ++ flat_map used_names (defs ds))) e in
      let k : (x : Bytes) → Memᴰ x used → Defined m x = λ x w. mem-defined x (known-mem x names (all-mem (λ (n : Bytes). known n (ins ds ++ map defines (defs ds))) (outs ds ++ flat_map used_names (defs ds)) a x w)) in
      record {
        outputs_defined = λ x w. k x (Memᴰ.append_left (flat_map used_names (defs ds)) w);
        sources_defined = λ b x w v.
            let t = Memᴰ.of_map block_of (defs ds) w in
            k x (Memᴰ.append_right (outs ds) (uses-in (defs ds) t.0 x t.1 (subst (Memᴰ x) (ap sources (sym t.2) ∙ sources-of t.0) v)));
      }

  pub once-of : naming false [] ds ≡ fine → Dup (defined m) → ⊥
  unfolding ins defs
  once-of e d = (fresh-named ds false [] e).once (dup-declared ds (subst (λ (l : List Bytes). Dup (flat_map ins_of ds ++ l)) (targets_of (flat_map defs_of ds)) d))

-- ---- 12 and 13

good_length : (n : ℕ) (ts : List Bytes) → good_line n ts ≡ true → length (columns ts) ≡ n
unfolding good_line
good_length n ts e =
    let a : Bool = elem (length ts) (1 ∷ 2 ∷ []) in
    let b : Bool = eqb n (length (columns ts)) in
    let c : Bool = all (λ (x : ℕ). elem x (48 ∷ 49 ∷ 45 ∷ [])) (columns ts) in
    sym (eqb-true n (length (columns ts)) (and_right a b (and_left (a && b) c (and_left (a && b && c) (known (output ts) ((48 ∷ []) ∷ (49 ∷ []) ∷ [])) e))))

one-output : (ls : List (List Bytes)) → (any is_one ls && not (all is_one ls)) ≡ false → (ts : List Bytes) → Memᴰ ts ls → is_one ts ≡ any is_one ls
one-output ls e ts m = go (any is_one ls) refl e
  where
    go : (b : Bool) → any is_one ls ≡ b → (b && not (all is_one ls)) ≡ false → is_one ts ≡ any is_one ls
    go true p q = all-mem is_one ls (not-false (all is_one ls) q) ts m ∙ sym p
    go false p q = any_none is_one ls p ts m ∙ sym p

lines_of : (n : ℕ) (o : Bool) (ls : List (List Bytes)) → ((ts : List Bytes) → Memᴰ ts ls → (length (columns ts) ≡ n) × (is_one ts ≡ o)) → GoodLines n o (map line_of ls)
lines_of n o [] h = tt
lines_of n o (ts ∷ ls) h =
    (length-map (columns ts) col_of_byte ∙ (h ts (Memᴰ.head refl)).0, (h ts (Memᴰ.head refl)).1, lines_of n o ls (λ us m. h us (Memᴰ.tail m)))

ins-length : (ns : List Bytes) → length (cover_ins ns) ≡ length ns - 1
unfolding cover_ins
ins-length ns = length-take (length ns - 1) ns ∙ omega arith

pub good_of : (g : Def) → cover_fault g ≡ fine → GoodBlock (block_of g)
unfolding cover_fault
good_of (latch l) e = tt
good_of (cover ns ls) e =
    let a : Bool = not (all (good_line (length ns - 1)) ls) in
    let b : Bool = any is_one ls && not (all is_one ls) in
    let h : all (good_line (length ns - 1)) ls ≡ true = not-false (all (good_line (length ns - 1)) ls) (fine-refuse_if a refusal.WrongCubeLine (or_else-left (refuse_if a refusal.WrongCubeLine) (refuse_if b refusal.OutputsDiffer) e)) in
    let k : b ≡ false = fine-refuse_if b refusal.OutputsDiffer (or_else-right (refuse_if a refusal.WrongCubeLine) (refuse_if b refusal.OutputsDiffer) e) in
    (any is_one ls, lines_of (length (cover_ins ns)) (any is_one ls) ls (λ ts m. (good_length (length ns - 1) ts (all-mem (good_line (length ns - 1)) ls h ts m) ∙ sym (ins-length ns), one-output ls k ts m)))

good_at : (g : Def) (gs : List Def) → cover_faults gs ≡ fine → Memᴰ g gs → cover_fault g ≡ fine
unfolding cover_faults
good_at g _ e (Memᴰ.head {x = h} {xs = gs} q) = ap cover_fault q ∙ or_else-left (cover_fault h) (cover_faults gs) e
good_at g _ e (Memᴰ.tail {x = h} {xs = gs} m) = good_at g gs (or_else-right (cover_fault h) (cover_faults gs) e) m

pub goods-of : (gs : List Def) → cover_faults gs ≡ fine → (g : Def) → Memᴰ g gs → cover_fault g ≡ fine
goods-of gs e g m = good_at g gs e m

-- ---- 6 to 13

-- declarations that none of the tests of 6 to 13 refuses
pub record Passed (ds : List Decl) : Type 0 where
  pub within : too_large ds ≡ false
  pub named : naming false [] ds ≡ fine
  pub used : undefined ds ≡ false
  pub covered : cover_faults (defs ds) ≡ fine

pub passed : (ds : List Decl) → decl_fault ds ≡ fine → Passed ds
unfolding decl_fault
passed ds e =
    let f = or_else-right (refuse_if (too_large ds) refusal.SizePassed) (naming false [] ds or_else refuse_if (undefined ds) refusal.Undefined or_else cover_faults (defs ds)) e in
    let g = or_else-right (naming false [] ds) (refuse_if (undefined ds) refusal.Undefined or_else cover_faults (defs ds)) f in
    record {
      within = fine-refuse_if (too_large ds) refusal.SizePassed (or_else-left (refuse_if (too_large ds) refusal.SizePassed) (naming false [] ds or_else refuse_if (undefined ds) refusal.Undefined or_else cover_faults (defs ds)) e);
      named = or_else-left (naming false [] ds) (refuse_if (undefined ds) refusal.Undefined or_else cover_faults (defs ds)) f;
      used = fine-refuse_if (undefined ds) refusal.Undefined (or_else-left (refuse_if (undefined ds) refusal.Undefined) (cover_faults (defs ds)) g);
      covered = or_else-right (refuse_if (undefined ds) refusal.Undefined) (cover_faults (defs ds)) g;
    }

-- the gates built for them have valid signals
pub passed-valid : (ds : List Decl) → Passed ds → Valid (built_from ds)
unfolding built_from
passed-valid ds p = built-valid (model_of ds) (signal_of ds) (looks (model_of ds) (once-of ds p.named)) (closed_of ds p.used)
