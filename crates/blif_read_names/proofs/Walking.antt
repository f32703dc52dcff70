-- The walk that enters names: what each declaration asks for, the walk's start and its end. Assumes nothing.
use Rattle.refusals.specs.Order.{fine}
use Rattle.std.specs.Prelude.{Ok, Err}
use mathlib.Core.Path.{◌≡◌, refl, sym, ap, ◌∙◌, subst}
use mathlib.Core.Bool.{Bool, false}
use mathlib.Core.List.{List, [], ◌∷◌, flat_map, append-nil}
use Prim.Native.Nat.{ℕ, ◌+◌, ◌*◌, ◌≤◌, ◌<◌}
use native.Mathlib.Omega.{arith}
use lib.ListN.{length, take, length-map}
use Rattle.lists.specs.Lists.{Bytes, zeros}
use Rattle.refusals.specs.declared.Refusal.{Refusal}
use Rattle.network.specs.Sizes.{max_gates, max_outputs}
use Rattle.blif_text.specs.Decls.{Def, Decl, gate, decls, ins, outs, defs}
use Rattle.blif_text.specs.Between.Places.{max_tokens, token_of, tokens_of}
use Rattle.blif_text.specs.Between.Walk.{stmts_from, StmtsAt}
use Rattle.blif_text.specs.Between.Blocks.{block_width, defs_at}
use Rattle.blif_text.specs.declared.Block.{Block}
use Rattle.blif_text.specs.declared.Run.{Run}
use Rattle.blif_text.proofs.RowWalk.{inside-less}
use Rattle.blif_declarations.specs.Between.Declarations.{NextIs}
use Rattle.blif_declarations.specs.declared.Declaration.TheVariants as next
use Rattle.blif_declarations.proofs.NextLaws.{decls-end}
use Rattle.name_index.specs.Between.Index.{max_names, index_cells, entry_count, entries_of, Index}
use Rattle.name_index.proofs.IndexLaws.{index-empty, index-counted}
use Rattle.blif_reading.specs.Read.{too_large, naming}
use Rattle.blif_read_names.specs.Between.Naming.{names_in, InputsFit, CoverFits, seen, walk_at, LatchFits, TablesTo, NamingSoFar, Steps, stops, goes}
use Rattle.blif_read_names.specs.Between.Tables.{Tables, DefinedBy}
use Rattle.blif_read_names.specs.declared.Walk.{Walk}
use Rattle.blif_reading.proofs.SizeLimits.{sizes-within}
use Rattle.blif_read_names.proofs.Tabling.{inputs-few, gate-few}
use Rattle.blif_read_names.proofs.Defining.{lent, lent-inside, tabled-as, inputs_are}
use Rattle.blif_read_names.proofs.DefiningGates.{defs-few}

-- ---- what each declaration asks for

module _ {text tokens : List ℕ} {n : ℕ} {index out blocks : List ℕ} {v : Walk} (c : NamingSoFar text tokens n index out blocks v) where
  -- "256 inputs", "1,024 gates"
  few-names : (v.inputs ≤ 256) × (v.gates ≤ 1024)
  few-names =
      let s = sizes-within (decls (stmts_from text tokens n 0)) c.small in
      (omega (arith, c.tabled.inputs, s.inputs), omega (arith, c.tabled.gates, defs-few (defs (decls (stmts_from text tokens n 0))), s.gates))

  -- one gate more
  one_more : {d : Def} {l : List Decl} → decls (stmts_from text tokens n v.at) ≡ gate d ∷ l → v.gates < 1024
  one_more e =
      let s = sizes-within (decls (stmts_from text tokens n 0)) c.small in
      omega (arith, gate-few (tabled-as c e), defs-few (defs (decls (stmts_from text tokens n 0))), s.gates)

  -- and one name
  one_free : {d : Def} {l : List Decl} → decls (stmts_from text tokens n v.at) ≡ gate d ∷ l → entry_count index < max_names
  one_free e = omega (arith, c.tabled.index_is.counted, few-names.0, one_more e)

  module _ {behind : ℕ} where
    pub inputs-fit : {run : Run} → NextIs text tokens n v.at (next.Inputs run) behind → InputsFit text (lent tokens run) index v.inputs
    inputs-fit {run} x =
        let cs = lent tokens run in
        let few : v.inputs + length cs ≤ 256 =
        omega (arith, inputs-few (tabled-as c (inputs_are c x)), length-map cs (token_of text), (sizes-within (decls (stmts_from text tokens n 0)) c.small).inputs) in
        record {
          index_is = index-counted c.tabled.index_is;
          places = lent-inside run x.rest.rows.places x.places;
          inputs = few;
          room = omega (arith, few, c.tabled.index_is.counted, few-names.1);
        }

    pub latch-fit : {run : Run} → NextIs text tokens n v.at (next.Latch run) behind → LatchFits text tokens index blocks (walk_at v behind) run
    latch-fit {run} x =
        record {
          there = omega (arith, x.places.0, x.places.1, x.rest.rows.places.room);
          gate =
              record {
                index_is = index-counted c.tabled.index_is;
                free = one_free x.are;
                inside = x.rest.rows.places.inside (run.first + 1) (omega (arith, x.places.0, x.places.1));
                gates = one_more x.are;
                room = c.blocks-room;
                first = omega (arith, x.places.1, c.few);
                names = omega arith;
                lines = omega (arith, x.places.1, c.few);
              };
        }

    pub cover-fit : {block : Block} → NextIs text tokens n v.at (next.Cover block) behind
        → CoverFits text tokens index v.gates block.first block.names blocks × (block.lines ≤ max_tokens)
    cover-fit x = (
      record {
        index_is = index-counted c.tabled.index_is;
        free = one_free x.are;
        places = inside-less x.places.few x.rest.rows.places;
        gates = one_more x.are;
        room = c.blocks-room;
        few = omega (arith, x.places.few, c.few);
      },
      omega (arith, x.places.short, c.few),
    )

-- ---- start and end

-- before the first declaration
pub going_start : {text tokens : List ℕ} {n : ℕ} {index out blocks : List ℕ} → StmtsAt text tokens n 0 → n ≤ max_tokens
    → too_large (decls (stmts_from text tokens n 0)) ≡ false → index ≡ zeros index_cells → max_outputs ≤ length out → max_gates * block_width ≤ length blocks
    → NamingSoFar text tokens n index out blocks (record { at = 0; models = 0; inputs = 0; gates = 0; outputs = 0 })
going_start {text} {tokens} {n} {index} {out} {blocks} c h s e o b =
    record {
      rest = c;
      few = h;
      small = s;
      outputs-room = o;
      blocks-room = b;
      left = refl;
      tabled =
          record {
            inputs = omega arith;
            gates = omega arith;
            outputs = omega arith;
            index_is = subst (λ (x : List ℕ). Index text x 0) (sym e) (index-empty text);
            entries-are = refl;
            outputs-are = refl;
            outputs-in = record { room = omega arith; inside = λ j l. absurd (omega arith) };
            blocks-in = record { few = h; places = c.rows.places; room = omega arith; each = λ j l. absurd (omega arith) };
            blocks-are = refl;
          };
    }

-- the walk behind a declaration
pub going_next : {text tokens : List ℕ} {n : ℕ} {index out blocks : List ℕ} {v w : Walk} → Steps text tokens n index out blocks v (Ok w)
    → (v.at < w.at) × NamingSoFar text tokens n index out blocks w
going_next (goes h g) = (h, g)

-- the refusal of a declaration
pub going-stop : {text tokens : List ℕ} {n : ℕ} {index out blocks : List ℕ} {v : Walk} {r : Refusal} → Steps text tokens n index out blocks v (Err r)
    → naming false [] (decls (stmts_from text tokens n 0)) ≡ Err r
going-stop (stops e) = e

-- no declaration, no refusal
naming-none : {l : List Decl} → l ≡ [] → (seen : Bool) (earlier : List Bytes) → naming seen earlier l ≡ fine
unfolding naming
naming-none e seen earlier = ap (naming seen earlier) e

-- no declaration is left
tables-all : {ds : List Decl} {text tokens : List ℕ} {n : ℕ} {index out blocks : List ℕ} {i g o : ℕ} → TablesTo ds [] text tokens n index out blocks i g o
    → Tables ds text tokens n index out blocks i g o
unfolding ins outs defs flat_map
tables-all {ds} {text} {tokens} {n} {index} {out} {blocks} {i} {g} {o} t =
    record {
      named =
          record {
            inputs = omega (arith, t.inputs);
            gates = omega (arith, t.gates);
            outputs = omega (arith, t.outputs);
            index_is = t.index_is;
            entries-are = sym (t.entries-are ∙ append-nil (entries_of text index (i + g)));
            blocks-in = t.blocks-in;
            blocks-are = sym (t.blocks-are ∙ append-nil (defs_at text tokens n blocks g));
          };
      outputs-are = sym (t.outputs-are ∙ append-nil (tokens_of text (take o out)));
      outputs-in = t.outputs-in;
    }

-- behind the last declaration
pub going_done : {text tokens : List ℕ} {n : ℕ} {index out blocks : List ℕ} {w : Walk} → NamingSoFar text tokens n index out blocks w → n ≤ w.at
    → DefinedBy (decls (stmts_from text tokens n 0)) text tokens n index out blocks
    (Ok (record { inputs = w.inputs; gates = w.gates; outputs = w.outputs }))
going_done {text} {tokens} {n} {index} {out} {blocks} {w} c h =
    let e : decls (stmts_from text tokens n w.at) ≡ [] = decls-end c.rest h in
    (c.left ∙ naming-none e (seen w) (names_in text index (w.inputs + w.gates)), tables-all (tabled-as c e))
