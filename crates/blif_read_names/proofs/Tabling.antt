-- The tables of declarations, one declaration after the other. Assumes nothing.
use mathlib.Core.Path.{◌≡◌, refl, sym, ap, ap₂, ◌∙◌, subst}
use mathlib.Core.List.{List, [], ◌∷◌, ◌++◌, map-append, flat_map, append_assoc}
use Prim.Native.Nat.{ℕ, ◌+◌, ◌-◌, ◌*◌, ◌≤◌, ◌<◌}
use native.Mathlib.Omega.{arith}
use native.Mathlib.Numerals.{add-one}
use lib.ListN.{length, get_or, take, length-append, length-map, get_or-append}
use lib.Seq.{get_or-take, get_or-append-add, length-take-le}
use Rattle.lists.specs.Lists.{Bytes}
use Rattle.lists.specs.Between.Lists.{overwrite_at}
use Rattle.lists.proofs.Tests.{by_order}
use Rattle.lists.proofs.OverAt.{length-overwrite_at, overwrite_at-before, overwrite_at-inside}
use Rattle.signal.specs.Signal.{Var, plain}
use Rattle.signal.specs.Cell.{sig_cell}
use Rattle.blif_text.specs.Decls.{Def, Decl, model, end, inputs, outputs, gate, ins_of, outs_of, defs_of, ins, outs, defs, defines}
use Rattle.blif_text.specs.Between.Places.{InText, token_of, tokens_of}
use Rattle.blif_text.specs.Between.Walk.{Inside}
use Rattle.blif_text.specs.Between.Blocks.{block_width, first_name, name_count, line_count, def_from, def_at, defs_at, BlockIn, Blocks}
use Rattle.name_index.specs.Between.Search.{Entry, entry}
use Rattle.name_index.specs.Between.Index.{entries_of, Index}
use Rattle.name_index.proofs.EntryLaws.{map-range-last, map-range-same}
use Rattle.blif_read_names.specs.Between.Entries.{input_entries, entries}
use Rattle.blif_read_names.specs.Between.Naming.{TablesTo}

-- ---- a record behind the others

-- a block behind the others
module _ {text tokens : List ℕ} {n : ℕ} {blocks blocks' : List ℕ} (g a b c : ℕ) (h : g * 3 + 2 < length blocks)
    (w : Blocks text tokens n blocks g) (e : blocks' ≡ overwrite_at (g * block_width) (a ∷ b ∷ c ∷ []) blocks) where
  cell-before : (k : ℕ) → k < g * 3 → get_or blocks' k 0 ≡ get_or blocks k 0
  cell-before k l = ap (λ (x : List ℕ). get_or x k 0) e ∙ overwrite_at-before (g * 3) (a ∷ b ∷ c ∷ []) blocks k 0 l

  cell-is : (i : ℕ) → i < 3 → get_or blocks' (g * 3 + i) 0 ≡ get_or (a ∷ b ∷ c ∷ []) i 0
  cell-is i l = ap (λ (x : List ℕ). get_or x (g * 3 + i) 0) e ∙ overwrite_at-inside (g * 3) (a ∷ b ∷ c ∷ []) blocks i 0 l (omega arith)

  first-is : first_name blocks' g ≡ a
  first-is = let z : g * 3 ≡ g * 3 + 0 = omega arith in ap (λ (k : ℕ). get_or blocks' k 0) z ∙ cell-is 0 (omega arith)

  names-is : name_count blocks' g ≡ b
  names-is = cell-is 1 (omega arith)

  lines-is : line_count blocks' g ≡ c
  lines-is = cell-is 2 (omega arith)

  -- the records place blocks
  pub blocks_more : BlockIn text tokens n a b c → Blocks text tokens n blocks' (g + 1)
  blocks_more i =
      record {
        few = w.few;
        places = w.places;
        room = omega (arith, ap length e ∙ length-overwrite_at (g * 3) (a ∷ b ∷ c ∷ []) blocks);
        each = λ j l.
            by_order g j
            (λ m.
            let q : j ≡ g = omega arith in
            subst (λ (k : ℕ). BlockIn text tokens n (first_name blocks' k) (name_count blocks' k) (line_count blocks' k)) (sym q)
            (in-as (sym first-is) (sym names-is) (sym lines-is) i))
            (λ m. in-as (sym (cell-before (j * 3) (omega arith))) (sym (cell-before (j * 3 + 1) (omega arith))) (sym (cell-before (j * 3 + 2) (omega arith))) (w.each j m));
      }
    where
      in-as : {a b c a' b' c' : ℕ} → a ≡ a' → b ≡ b' → c ≡ c' → BlockIn text tokens n a b c → BlockIn text tokens n a' b' c'
      in-as {a} {b} {c} {a'} {b'} {c'} p q r x =
          subst (λ (k : ℕ). BlockIn text tokens n a' b' k) r (subst (λ (k : ℕ). BlockIn text tokens n a' k c) q (subst (λ (k : ℕ). BlockIn text tokens n k b c) p x))

  -- the last is this one
  pub defs-more : defs_at text tokens n blocks' (g + 1) ≡ defs_at text tokens n blocks g ++ (def_from text tokens n a b c ∷ [])
  defs-more =
      ap (λ (k : ℕ). defs_at text tokens n blocks' k) (add-one g)
      ∙ map-range-last (def_at text tokens n blocks') 0 g
      ∙ ap₂ (λ (x : List Def) (y : Def). x ++ (y ∷ []))
      (map-range-same (def_at text tokens n blocks') (def_at text tokens n blocks) 0 g
      (λ j l m. def-as (cell-before (j * 3) (omega arith)) (cell-before (j * 3 + 1) (omega arith)) (cell-before (j * 3 + 2) (omega arith))))
      (let z : 0 + g ≡ g = omega arith in ap (def_at text tokens n blocks') z ∙ def-as first-is names-is lines-is)
    where
      def-as : {a b c a' b' c' : ℕ} → a ≡ a' → b ≡ b' → c ≡ c' → def_from text tokens n a b c ≡ def_from text tokens n a' b' c'
      def-as {a} {b} {c} {a'} {b'} {c'} p q r =
          ap (λ (k : ℕ). def_from text tokens n k b c) p ∙ ap (λ (k : ℕ). def_from text tokens n a' k c) q ∙ ap (λ (k : ℕ). def_from text tokens n a' b' k) r

-- ---- copied names

-- cells behind others are within the text
pub inside-more : {text cs out out' : List ℕ} {o m : ℕ} → Inside text cs m → Inside text out o → take (o + m) out' ≡ take o out ++ cs → o + m ≤ length out' → Inside text out' (o + m)
inside-more {text} {cs} {out} {out'} {o} {m} p w e k =
    record {
      room = k;
      inside = λ j l.
          let q : get_or out' j 0 ≡ get_or (take o out ++ cs) j 0 = sym (get_or-take (o + m) out' j 0 l) ∙ ap (λ (x : List ℕ). get_or x j 0) e in
          let n : length (take o out) ≡ o = length-take-le o out w.room in
          by_order o j
          (λ b.
          let s : j ≡ length (take o out) + (j - o) = omega arith in
          let u : get_or out' j 0 ≡ get_or cs (j - o) 0 = q ∙ ap (λ (i : ℕ). get_or (take o out ++ cs) i 0) s ∙ get_or-append-add (take o out) cs (j - o) 0 in
          subst (InText text) (sym u) (p.inside (j - o) (omega arith)))
          (λ b.
          let u : get_or out' j 0 ≡ get_or out j 0 = q ∙ get_or-append (take o out) cs 0 j (omega arith) ∙ get_or-take o out j 0 b in
          subst (InText text) (sym u) (w.inside j b));
    }

-- ---- one declaration more

module _ {ds l : List Decl} {text tokens : List ℕ} {n : ℕ} {index out blocks : List ℕ} {i g o : ℕ} where
  -- what is left declares the same
  tabled-on : {k : List Decl} → ins k ≡ ins l → outs k ≡ outs l → defs k ≡ defs l → entries i g k ≡ entries i g l
      → TablesTo ds k text tokens n index out blocks i g o → TablesTo ds l text tokens n index out blocks i g o
  tabled-on a b c e t =
      record {
        inputs = t.inputs ∙ ap (λ (x : List Bytes). i + length x) a;
        gates = t.gates ∙ ap (λ (x : List Def). g + length x) c;
        outputs = t.outputs ∙ ap (λ (x : List Bytes). o + length x) b;
        index_is = t.index_is;
        entries-are = t.entries-are ∙ ap (λ (x : List Entry). entries_of text index (i + g) ++ x) e;
        outputs-are = t.outputs-are ∙ ap (λ (x : List Bytes). tokens_of text (take o out) ++ x) b;
        outputs-in = t.outputs-in;
        blocks-in = t.blocks-in;
        blocks-are = t.blocks-are ∙ ap (λ (x : List Def). defs_at text tokens n blocks g ++ x) c;
      }

  pub tabled-model : TablesTo ds (model ∷ l) text tokens n index out blocks i g o → TablesTo ds l text tokens n index out blocks i g o
  unfolding ins outs defs flat_map ins_of outs_of defs_of
  tabled-model = tabled-on refl refl refl refl

  pub tabled-end : TablesTo ds (end ∷ l) text tokens n index out blocks i g o → TablesTo ds l text tokens n index out blocks i g o
  unfolding ins outs defs flat_map ins_of outs_of defs_of
  tabled-end = tabled-on refl refl refl refl

  pub tabled-inputs : {ns : List Bytes} {index' : List ℕ} {m : ℕ} → TablesTo ds (inputs ns ∷ l) text tokens n index out blocks i g o → length ns ≡ m
      → Index text index' (i + m + g) → entries_of text index' (i + m + g) ≡ entries_of text index (i + g) ++ input_entries i ns
      → TablesTo ds l text tokens n index' out blocks (i + m) g o
  unfolding ins outs defs flat_map ins_of outs_of defs_of
  tabled-inputs {ns} {index'} {m} t q x a =
      record {
        inputs = omega (arith, t.inputs, length-append ns (flat_map ins_of l));
        gates = t.gates;
        outputs = t.outputs;
        index_is = x;
        entries-are =
            t.entries-are
            ∙ ap (λ (k : ℕ). entries_of text index (i + g) ++ (input_entries i ns ++ entries (i + k) g l)) q
            ∙ sym (append_assoc (entries_of text index (i + g)) (input_entries i ns) (entries (i + m) g l))
            ∙ ap (λ (y : List Entry). y ++ entries (i + m) g l) (sym a);
        outputs-are = t.outputs-are;
        outputs-in = t.outputs-in;
        blocks-in = t.blocks-in;
        blocks-are = t.blocks-are;
      }

  pub tabled-outputs : (cs : List ℕ) {out' : List ℕ} → TablesTo ds (outputs (tokens_of text cs) ∷ l) text tokens n index out blocks i g o
      → take (o + length cs) out' ≡ take o out ++ cs → Inside text out' (o + length cs) → TablesTo ds l text tokens n index out' blocks i g (o + length cs)
  unfolding ins outs defs flat_map ins_of outs_of defs_of
  tabled-outputs cs {out'} t e p =
      record {
        inputs = t.inputs;
        gates = t.gates;
        outputs = omega (arith, t.outputs, length-append (tokens_of text cs) (flat_map outs_of l), length-map cs (token_of text));
        index_is = t.index_is;
        entries-are = t.entries-are;
        outputs-are =
            t.outputs-are
            ∙ sym (append_assoc (tokens_of text (take o out)) (tokens_of text cs) (flat_map outs_of l))
            ∙ ap (λ (y : List Bytes). y ++ flat_map outs_of l) (sym (ap (tokens_of text) e ∙ map-append (token_of text) (take o out) cs));
        outputs-in = p;
        blocks-in = t.blocks-in;
        blocks-are = t.blocks-are;
      }

  pub tabled-gate : {d : Def} {x : Bytes} {index' blocks' : List ℕ} → TablesTo ds (gate d ∷ l) text tokens n index out blocks i g o → x ≡ defines d
      → Index text index' (i + (g + 1)) → entries_of text index' (i + (g + 1)) ≡ entries_of text index (i + g) ++ (entry x (sig_cell (plain (Var g))) ∷ [])
      → Blocks text tokens n blocks' (g + 1) → defs_at text tokens n blocks' (g + 1) ≡ defs_at text tokens n blocks g ++ (d ∷ [])
      → TablesTo ds l text tokens n index' out blocks' i (g + 1) o
  unfolding ins outs defs flat_map ins_of outs_of defs_of
  tabled-gate {d} {x} {index'} {blocks'} t q ix a b e =
      record {
        inputs = t.inputs;
        gates = omega (arith, t.gates);
        outputs = t.outputs;
        index_is = ix;
        entries-are =
            t.entries-are
            ∙ ap₂ (λ (y : Bytes) (k : ℕ). entries_of text index (i + g) ++ (entry y (sig_cell (plain (Var g))) ∷ entries i k l)) (sym q) (sym (add-one g))
            ∙ sym (append_assoc (entries_of text index (i + g)) (entry x (sig_cell (plain (Var g))) ∷ []) (entries i (g + 1) l))
            ∙ ap (λ (y : List Entry). y ++ entries i (g + 1) l) (sym a);
        outputs-are = t.outputs-are;
        outputs-in = t.outputs-in;
        blocks-in = b;
        blocks-are =
            t.blocks-are
            ∙ sym (append_assoc (defs_at text tokens n blocks g) (d ∷ []) (flat_map defs_of l))
            ∙ ap (λ (y : List Def). y ++ flat_map defs_of l) (sym e);
      }

  -- no more inputs than there are
  pub inputs-few : {ns : List Bytes} → TablesTo ds (inputs ns ∷ l) text tokens n index out blocks i g o → i + length ns ≤ length (ins ds)
  unfolding ins flat_map ins_of
  inputs-few {ns} t = omega (arith, t.inputs, length-append ns (flat_map ins_of l))

  -- no more outputs
  pub outputs-few : {ns : List Bytes} → TablesTo ds (outputs ns ∷ l) text tokens n index out blocks i g o → o + length ns ≤ length (outs ds)
  unfolding outs flat_map outs_of
  outputs-few {ns} t = omega (arith, t.outputs, length-append ns (flat_map outs_of l))

  -- no more gates
  pub gate-few : {d : Def} → TablesTo ds (gate d ∷ l) text tokens n index out blocks i g o → g < length (defs ds)
  unfolding defs flat_map defs_of
  gate-few {d} t = omega (arith, t.gates)
