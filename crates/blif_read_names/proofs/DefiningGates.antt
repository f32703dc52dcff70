-- The walk that enters names and places blocks, at latches and covers. Assumes nothing.
use Rattle.std.specs.Prelude.{⊤, Result, Err}
use mathlib.Core.Path.{◌≡◌, refl, sym, ap, ◌∙◌, subst}
use mathlib.Core.List.{List, [], ◌∷◌, ◌++◌}
use Prim.Native.Nat.{ℕ, ◌+◌, ◌-◌, ◌*◌, ◌≤◌, ◌<◌}
use native.Mathlib.Omega.{arith}
use lib.ListN.{length, get_or, take, get_or-map}
use lib.Seq.{slice, get_or-drop, get_or-take}
use Rattle.lists.specs.Lists.{Bytes, sum_of, known}
use Rattle.lists.proofs.Places.{get_d_any}
use Rattle.lists.proofs.Tests.{by_order}
use Rattle.blif_meaning.specs.Model.{LatchDef}
use Rattle.blif_text.specs.Between.PlacedStatements.{latch_in}
use Rattle.blif_text.specs.Decls.{Def, latch, cover, gate, decls, defs, cover_out, defines}
use Rattle.blif_text.specs.Between.Places.{token_of}
use Rattle.blif_text.specs.Between.Walk.{rows_from, stmts_from, StmtsAt}
use Rattle.blif_text.specs.Between.Blocks.{def_from, defs_at, BlockIn}
use Rattle.blif_text.specs.declared.Block.{Block}
use Rattle.blif_text.specs.declared.Run.{Run}
use Rattle.blif_text.proofs.BlockLaws.{cover-from}
use Rattle.blif_declarations.specs.Between.Rows.{names}
use Rattle.blif_declarations.specs.Between.Declarations.{NextIs}
use Rattle.blif_declarations.specs.declared.Declaration.TheVariants as next
use Rattle.blif_declarations.proofs.RowStarts.{names-length}
use Rattle.name_index.specs.Between.Index.{entry_count, entries_of, Index}
use Rattle.refusals.specs.Order.{◌or_else◌, refuse_if}
use Rattle.refusals.specs.declared.Refusal.TheVariants as refusal
use Rattle.blif_reading.specs.Read.{gate_count, naming}
use Rattle.blif_read_names.specs.Between.Naming.{names_in, GateDefined, seen, walk_at, gate_walk, step_of, LatchStep, CoverStep, NamingSoFar, Steps, stops}
use Rattle.blif_read_names.specs.declared.Walk.{Walk}
use Rattle.blif_reading.proofs.SizeLimits.{sizes-within}
use Rattle.blif_read_names.proofs.Tabling.{blocks_more, defs-more, tabled-gate, gate-few}
use Rattle.blif_read_names.proofs.Refusing.{naming-latch, naming-empty, naming-cover}
use Rattle.blif_read_names.proofs.Defining.{names_more, on, tabled-as, left_as, step-on}
use Rattle.refusals.specs.declared.Refusal.{Refusal}

-- each latch and cover is at least one gate
pub defs-few : (gs : List Def) → length gs ≤ sum_of gate_count gs
unfolding gate_count
defs-few [] = omega arith
defs-few (latch l ∷ gs) = omega (arith, defs-few gs)
defs-few (cover ns ls ∷ gs) = omega (arith, defs-few gs)

-- the last name of a cover
cover-last : (text tokens : List ℕ) (run : Run) → 0 < run.count → run.first + run.count ≤ length tokens
    → cover_out (names text tokens run) ≡ token_of text (get_or tokens (run.first + run.count - 1) 0)
unfolding cover_out
cover-last text tokens run h k =
    let first = run.first in
    let ns = names text tokens run in
    let cs = slice first (first + run.count) tokens in
    let m : length ns ≡ run.count = names-length text tokens run k in
    let i : length ns - 1 < length ns = omega (arith, m) in
    let j : first + (length ns - 1) ≡ first + run.count - 1 = omega (arith, m) in
    get_d_any ns (length ns - 1) [] (token_of text 0) i
    ∙ get_or-map (token_of text) cs (length ns - 1) 0
    ∙ ap (token_of text)
    (get_or-drop first (take (first + run.count) tokens) (length ns - 1) 0
    ∙ get_or-take (first + run.count) tokens (first + (length ns - 1)) 0 (omega (arith, m))
    ∙ ap (λ (x : ℕ). get_or tokens x 0) j)

-- the name that a latch defines
latch-defines : (l : LatchDef Bytes) → l.output ≡ defines (latch l)
unfolding defines
latch-defines l = refl

-- the name that a cover defines
cover-defines : (ns : List Bytes) (ls : List (List Bytes)) → cover_out ns ≡ defines (cover ns ls)
unfolding defines
cover-defines ns ls = refl

module _ {text tokens : List ℕ} {n : ℕ} {index out blocks : List ℕ} {v : Walk} (c : NamingSoFar text tokens n index out blocks v) where
  -- a gate is defined
  go-gate : {d : Def} {x : Bytes} {a k l at : ℕ} {b : Result ⊤ Refusal} {index' blocks' : List ℕ} → v.at < at → StmtsAt text tokens n at
      → decls (stmts_from text tokens n v.at) ≡ gate d ∷ decls (stmts_from text tokens n at)
      → naming (seen v) (names_in text index (v.inputs + v.gates)) (gate d ∷ decls (stmts_from text tokens n at))
      ≡ (refuse_if (known x (names_in text index (v.inputs + v.gates))) refusal.DefinedTwice or_else naming (seen v) (names_in text index (v.inputs + v.gates) ++ (x ∷ [])) (decls (stmts_from text tokens n at)))
      → x ≡ defines d → def_from text tokens n a k l ≡ d → BlockIn text tokens n a k l
      → GateDefined text index (entry_count index) v.gates x (record { first = a; names = k; lines = l }) blocks index' blocks' b → length blocks' ≡ length blocks
      → Steps text tokens n index' out blocks' v (step_of b (gate_walk (walk_at v at)))
  go-gate {d} {x} {a} {k} {l} {at} {b} {index'} {blocks'} h r e q y f i defined p =
      let s : GateDefined text index (v.inputs + v.gates) v.gates x (record { first = a; names = k; lines = l }) blocks index' blocks' b =
      subst (λ (m : ℕ). GateDefined text index m v.gates x (record { first = a; names = k; lines = l }) blocks index' blocks' b) c.tabled.index_is.counted defined in
      let m : v.inputs + v.gates + 1 ≡ v.inputs + (v.gates + 1) = omega arith in
      let t = tabled-as c e in
      let few = sizes-within (decls (stmts_from text tokens n 0)) c.small in
      let room : v.gates * 3 + 2 < length blocks = omega (arith, gate-few t, defs-few (defs (decls (stmts_from text tokens n 0))), few.gates, c.blocks-room) in
      step-on c b _ _ h (left_as c e ∙ q ∙ ap (λ (w : Result ⊤ Refusal). w or_else naming (seen v) (names_in text index (v.inputs + v.gates) ++ (x ∷ [])) (decls (stmts_from text tokens n at))) (sym s.refused))
      (λ z left.
      let g = ap (entries_of text index') (sym m) ∙ s.added z in
      on c _ r refl p
      (left ∙ ap (λ (w : List Bytes). naming (seen v) w (decls (stmts_from text tokens n at))) (sym (names_more (entries_of text index (v.inputs + v.gates)) _ g)))
      (tabled-gate t y (subst (Index text index') m (s.index_is z)) g (blocks_more v.gates a k l room t.blocks-in (s.block-is z) i)
      (defs-more v.gates a k l room t.blocks-in (s.block-is z) ∙ ap (λ (w : Def). defs_at text tokens n blocks v.gates ++ (w ∷ [])) f)))

  module _ (h : v.at < n) {behind : ℕ} {index' blocks' : List ℕ} {w : Result Walk Refusal} where
    -- a latch
    pub go-latch : {run : Run} → NextIs text tokens n v.at (next.Latch run) behind
        → LatchStep text tokens index blocks index' blocks' (walk_at v behind) run w → length blocks' ≡ length blocks → Steps text tokens n index' out blocks' v w
    go-latch {run} x s p =
        let d = latch_in text tokens run in
        let l = decls (stmts_from text tokens n behind) in
        subst (Steps text tokens n index' out blocks' v) (sym s.walk)
        (go-gate x.low x.rest x.are
        (naming-latch (seen v) (names_in text index (v.inputs + v.gates)) l d)
        (latch-defines d) refl
        (record { latch_names = λ z. x.places.0; latch_tokens = λ z. x.places.1; cover_names = omega (arith, x.places.1); behind = λ z. absurd (omega arith); enough = λ z. absurd (omega arith) })
        s.gate p)

    module _ {block : Block} (x : NextIs text tokens n v.at (next.Cover block) behind) (s : CoverStep text tokens index blocks index' blocks' (walk_at v behind) block w) where
      -- its names, as a run
      abbrev run : Run
      run = record { first = block.first; count = block.names }

      -- and its lines
      abbrev lines : List (List Bytes)
      lines = take block.lines (rows_from text tokens n (block.first + block.names))

      -- they are among the tokens
      there : block.first + block.names ≤ length tokens
      there = omega (arith, x.places.few, x.rest.rows.places.room)

      -- a cover without names: "9 when `.names` is empty"
      cover-none : block.names ≡ 0 → Steps text tokens n index' out blocks' v w
      cover-none z =
          let e : w ≡ Err refusal.NamesEmpty = s.walk ∙ ap (λ (b : Result ⊤ Refusal). step_of b (gate_walk (walk_at v behind))) (s.cover.empty z) in
          subst (Steps text tokens n index' out blocks' v) (sym e)
          (stops (left_as c x.are
          ∙ naming-empty (seen v) (names_in text index (v.inputs + v.gates)) (decls (stmts_from text tokens n behind)) (names text tokens run) lines (names-length text tokens run there ∙ z)))

      -- a cover with names
      cover-some : (block.names ≡ 0 → ⊥) → length blocks' ≡ length blocks → Steps text tokens n index' out blocks' v w
      cover-some f p =
          let ns = names text tokens run in
          let l = decls (stmts_from text tokens n behind) in
          let last = token_of text (get_or tokens (block.first + block.names - 1) 0) in
          let y : cover_out ns ≡ last = cover-last text tokens run (by_order block.names 0 (λ a. absurd (f (omega arith))) (λ a. a)) there in
          subst (Steps text tokens n index' out blocks' v) (sym s.walk)
          (go-gate x.low x.rest x.are
          (naming-cover (seen v) (names_in text index (v.inputs + v.gates)) l ns lines (λ z. f (sym (names-length text tokens run there) ∙ z))
          ∙ ap (λ (k : Bytes). refuse_if (known k (names_in text index (v.inputs + v.gates))) refusal.DefinedTwice or_else naming (seen v) (names_in text index (v.inputs + v.gates) ++ (k ∷ [])) l) y)
          (sym y ∙ cover-defines ns lines)
          (cover-from text tokens n block.first block.names block.lines f)
          (record { latch_names = λ z. absurd (f z); latch_tokens = λ z. absurd (f z); cover_names = x.places.few; behind = λ z. x.places.behind; enough = λ z. x.places.enough })
          (s.cover.last f) p)

      -- a cover
      pub go-cover : length blocks' ≡ length blocks → Steps text tokens n index' out blocks' v w
      go-cover p = by_order block.names 0 (λ a. cover-none (omega arith)) (λ a. cover-some (λ z. omega arith) p)
