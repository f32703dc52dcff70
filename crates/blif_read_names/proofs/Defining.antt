-- The walk that enters names and places blocks, declaration by declaration. Assumes nothing.
use Rattle.std.specs.Prelude.{⊤, Result, Ok, Err}
use mathlib.Core.Path.{◌≡◌, refl, sym, ap, ◌∙◌, subst}
use mathlib.Core.Bool.{false, not}
use mathlib.Core.List.{List, [], ◌∷◌, ◌++◌, map, map-append}
use Prim.Native.Nat.{ℕ, suc, ◌+◌, ◌≤◌, ◌<◌}
use native.Mathlib.Omega.{arith}
use lib.ListN.{length, take, length-map}
use Rattle.lists.specs.Lists.{Bytes}
use Rattle.blif_text.specs.Decls.{Decl, inputs, outputs, decls}
use Rattle.blif_text.specs.Between.Places.{token_of, tokens_of}
use Rattle.blif_text.specs.Between.Walk.{stmts_from, Inside, StmtsAt}
use Rattle.blif_text.specs.declared.Run.{Run}
use Rattle.blif_text.proofs.WordLaws.{drop-take}
use Rattle.blif_text.proofs.RowWalk.{part, part_length, part-inside}
use Rattle.blif_declarations.specs.Between.Declarations.{NextIs}
use Rattle.blif_declarations.specs.declared.Declaration.TheVariants as next
use Rattle.name_index.specs.Between.Search.{Entry}
use Rattle.name_index.specs.Between.Index.{entry_count, entries_of, Index}
use Rattle.refusals.specs.Order.{◌or_else◌, refuse_if, fine}
use Rattle.refusals.specs.declared.Refusal.TheVariants as refusal
use Rattle.blif_reading.specs.Read.{naming}
use Rattle.blif_read_names.specs.Between.Entries.{input_entries}
use Rattle.blif_read_names.specs.Between.Naming.{names_in, InputsEntered, seen, walk_at, step_of, TablesTo, NamingSoFar, Steps, stops, goes}
use Rattle.blif_read_names.specs.declared.Walk.{Walk}
use Rattle.blif_reading.proofs.SizeLimits.{sizes-within}
use Rattle.blif_read_names.proofs.Tabling.{inside-more, tabled-model, tabled-end, tabled-inputs, tabled-outputs, outputs-few}
use Rattle.blif_read_names.proofs.Refusing.{naming-model, naming-end, naming-inputs, naming-outputs}
use Rattle.refusals.specs.declared.Refusal.{Refusal}

-- ---- names of entries

-- the names of inputs' entries
pub input-names : (i : ℕ) (ns : List Bytes) → map (λ (e : Entry). e.name) (input_entries i ns) ≡ ns
input-names i [] = refl
input-names i (n ∷ ns) = ap (λ (l : List Bytes). n ∷ l) (input-names (suc i) ns)

-- the names behind others
pub names_more : {ys : List Entry} (xs es : List Entry) → ys ≡ xs ++ es → map (λ (e : Entry). e.name) ys ≡ map (λ (e : Entry). e.name) xs ++ map (λ (e : Entry). e.name) es
names_more {ys} xs es a = ap (map (λ (e : Entry). e.name)) a ∙ map-append (λ (e : Entry). e.name) xs es

-- ---- the cells of a run's names, as code lends them

abbrev pub lent : List ℕ → Run → List ℕ
lent tokens run = part run.first (run.first + run.count) tokens

module _ {text tokens : List ℕ} {n : ℕ} (run : Run) (p : Inside text tokens n) (h : run.first + run.count ≤ n) where
  -- as many as the run has
  pub lent_length : length (lent tokens run) ≡ run.count
  lent_length = part_length tokens run.first (run.first + run.count) (omega (arith, p.room)) ∙ omega arith

  -- each within the text
  pub lent-inside : Inside text (lent tokens run) (length (lent tokens run))
  lent-inside = part-inside run.first (run.first + run.count) p h

-- ---- the walk goes on

-- the step of a checked declaration, of what the check gave
pub stepped : {b k r : Result ⊤ Refusal} (w : Walk) → b ≡ k → b ≡ r → step_of k w ≡ step_of r w
stepped w e q = ap (λ (x : Result ⊤ Refusal). step_of x w) (sym e ∙ q)

module _ {text tokens : List ℕ} {n : ℕ} {index out blocks : List ℕ} {v : Walk} (c : NamingSoFar text tokens n index out blocks v) where
  -- the walk at another place, with these tables
  pub on : {index' out' blocks' : List ℕ} (w : Walk) → StmtsAt text tokens n w.at → length out' ≡ length out → length blocks' ≡ length blocks
      → naming false [] (decls (stmts_from text tokens n 0)) ≡ naming (seen w) (names_in text index' (w.inputs + w.gates)) (decls (stmts_from text tokens n w.at))
      → TablesTo (decls (stmts_from text tokens n 0)) (decls (stmts_from text tokens n w.at)) text tokens n index' out' blocks' w.inputs w.gates w.outputs
      → NamingSoFar text tokens n index' out' blocks' w
  on w r p q e t =
      record {
        rest = r;
        few = c.few;
        small = c.small;
        outputs-room = omega (arith, c.outputs-room);
        blocks-room = omega (arith, c.blocks-room);
        left = e;
        tabled = t;
      }

  -- the tables of the declarations that are left
  pub tabled-as : {l : List Decl} → decls (stmts_from text tokens n v.at) ≡ l
      → TablesTo (decls (stmts_from text tokens n 0)) l text tokens n index out blocks v.inputs v.gates v.outputs
  tabled-as e = subst (λ (l : List Decl). TablesTo (decls (stmts_from text tokens n 0)) l text tokens n index out blocks v.inputs v.gates v.outputs) e c.tabled

  -- the refusal of the declarations that are left
  pub left_as : {l : List Decl} → decls (stmts_from text tokens n v.at) ≡ l
      → naming false [] (decls (stmts_from text tokens n 0)) ≡ naming (seen v) (names_in text index (v.inputs + v.gates)) l
  left_as e = c.left ∙ ap (naming (seen v) (names_in text index (v.inputs + v.gates))) e

  -- a declaration is passed: its refusal counts, or the walk goes on
  pub step-on : {index' out' blocks' : List ℕ} (b rest : Result ⊤ Refusal) (w : Walk) → v.at < w.at → naming false [] (decls (stmts_from text tokens n 0)) ≡ (b or_else rest)
      → (b ≡ fine → naming false [] (decls (stmts_from text tokens n 0)) ≡ rest → NamingSoFar text tokens n index' out' blocks' w)
      → Steps text tokens n index' out' blocks' v (step_of b w)
  unfolding ◌or_else◌
  step-on (Ok _) rest w h e g = goes h (g refl e)
  step-on (Err r) rest w h e g = stops e

  module _ {behind : ℕ} {run : Run} where
    pub inputs_are : NextIs text tokens n v.at (next.Inputs run) behind
        → decls (stmts_from text tokens n v.at) ≡ inputs (tokens_of text (lent tokens run)) ∷ decls (stmts_from text tokens n behind)
    inputs_are x = x.are ∙ ap (λ (y : List ℕ). inputs (tokens_of text y) ∷ decls (stmts_from text tokens n behind)) (drop-take run.first (run.first + run.count) tokens)

    pub outputs-are : NextIs text tokens n v.at (next.Outputs run) behind
        → decls (stmts_from text tokens n v.at) ≡ outputs (tokens_of text (lent tokens run)) ∷ decls (stmts_from text tokens n behind)
    outputs-are x = x.are ∙ ap (λ (y : List ℕ). outputs (tokens_of text y) ∷ decls (stmts_from text tokens n behind)) (drop-take run.first (run.first + run.count) tokens)

    -- "256 outputs"
    pub outputs-small : NextIs text tokens n v.at (next.Outputs run) behind → v.outputs + length (lent tokens run) ≤ 256
    outputs-small x =
        omega (arith, outputs-few (tabled-as (outputs-are x)), length-map (lent tokens run) (token_of text), (sizes-within (decls (stmts_from text tokens n 0)) c.small).outputs)

    pub outputs-fit : NextIs text tokens n v.at (next.Outputs run) behind → v.outputs + length (lent tokens run) ≤ length out
    outputs-fit x = omega (arith, outputs-small x, c.outputs-room)

  module _ (h : v.at < n) {behind : ℕ} where
    -- none is left
    pub go-none : NextIs text tokens n v.at next.None behind → Steps text tokens n index out blocks v (Ok (walk_at v behind))
    go-none x = goes x.low (on _ x.rest refl refl (left_as x.are) (tabled-as x.are))

    -- "7 at a second `.model`"
    pub go-model : NextIs text tokens n v.at next.Model behind
        → Steps text tokens n index out blocks v
        (step_of (refuse_if (seen v) refusal.SecondModel) (record { at = behind; models = 1; inputs = v.inputs; gates = v.gates; outputs = v.outputs }))
    go-model x =
        let l = decls (stmts_from text tokens n behind) in
        let q = left_as x.are ∙ naming-model (seen v) (names_in text index (v.inputs + v.gates)) l in
        step-on _ _ _ x.low q (λ z e. on _ x.rest refl refl e (tabled-model (tabled-as x.are)))

    -- "8 at `.end` before any `.model`"
    pub go-end : NextIs text tokens n v.at next.End behind
        → Steps text tokens n index out blocks v (step_of (refuse_if (not (seen v)) refusal.EndBeforeModel) (walk_at v behind))
    go-end x =
        let l = decls (stmts_from text tokens n behind) in
        let q = left_as x.are ∙ naming-end (seen v) (names_in text index (v.inputs + v.gates)) l in
        step-on _ _ _ x.low q (λ z e. on _ x.rest refl refl e (tabled-end (tabled-as x.are)))

    -- "10 when a name is defined twice by inputs"
    pub go-inputs : {run : Run} {index' : List ℕ} {b : Result ⊤ Refusal} → NextIs text tokens n v.at (next.Inputs run) behind
        → InputsEntered text (lent tokens run) index (entry_count index) v.inputs index' b
        → Steps text tokens n index' out blocks v
        (step_of b (record { at = behind; models = v.models; inputs = v.inputs + run.count; gates = v.gates; outputs = v.outputs }))
    go-inputs {run} {index'} {b} x entered =
        let cs = lent tokens run in
        let ns = tokens_of text cs in
        let e : InputsEntered text cs index (v.inputs + v.gates) v.inputs index' b =
        subst (λ (k : ℕ). InputsEntered text cs index k v.inputs index' b) c.tabled.index_is.counted entered in
        let l = decls (stmts_from text tokens n behind) in
        let m = lent_length run x.rest.rows.places x.places in
        let k : v.inputs + v.gates + length cs ≡ v.inputs + run.count + v.gates = omega (arith, m) in
        let rest = naming (seen v) (names_in text index (v.inputs + v.gates) ++ ns) l in
        let q = left_as (inputs_are x) ∙ naming-inputs (seen v) (names_in text index (v.inputs + v.gates)) l ns ∙ ap (λ (y : Result ⊤ Refusal). y or_else rest) (sym e.refused) in
        step-on b rest _ x.low q
        (λ z left.
        let a : entries_of text index' (v.inputs + run.count + v.gates) ≡ entries_of text index (v.inputs + v.gates) ++ input_entries v.inputs ns =
        ap (entries_of text index') (sym k) ∙ e.added z in
        on _ x.rest refl refl
        (left
        ∙ ap (λ (y : List Bytes). naming (seen v) y l)
        (sym (names_more (entries_of text index (v.inputs + v.gates)) (input_entries v.inputs ns) a ∙ ap (λ (y : List Bytes). names_in text index (v.inputs + v.gates) ++ y) (input-names v.inputs ns))))
        (tabled-inputs (tabled-as (inputs_are x)) (length-map cs (token_of text) ∙ m) (subst (Index text index') k (e.index_is z)) a))

    -- outputs define nothing
    pub go-outputs : {run : Run} {out' : List ℕ} → NextIs text tokens n v.at (next.Outputs run) behind
        → take (v.outputs + length (lent tokens run)) out' ≡ take v.outputs out ++ lent tokens run → length out' ≡ length out
        → Steps text tokens n index out' blocks v
        (Ok (record { at = behind; models = v.models; inputs = v.inputs; gates = v.gates; outputs = v.outputs + run.count }))
    go-outputs {run} {out'} x e p =
        let cs = lent tokens run in
        let t = tabled-as (outputs-are x) in
        let w : ℕ → Walk = λ m. record { at = behind; models = v.models; inputs = v.inputs; gates = v.gates; outputs = v.outputs + m } in
        subst (λ (m : ℕ). Steps text tokens n index out' blocks v (Ok (w m))) (lent_length run x.rest.rows.places x.places)
        (goes x.low
        (on _ x.rest p refl (left_as (outputs-are x) ∙ naming-outputs (seen v) (names_in text index (v.inputs + v.gates)) (decls (stmts_from text tokens n behind)) (tokens_of text cs))
        (tabled-outputs cs t e (inside-more (lent-inside run x.rest.rows.places x.places) t.outputs-in e (omega (arith, outputs-fit x, p))))))
