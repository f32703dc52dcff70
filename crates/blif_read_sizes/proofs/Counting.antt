-- Sizes of a whole text, counted until one is passed. Assumes nothing.
use mathlib.Core.Path.{◌≡◌, sym, subst}
use mathlib.Core.Bool.{true, false}
use mathlib.Core.List.{List, [], flat_map}
use Prim.Native.Nat.{ℕ, ◌≤◌}
use native.Mathlib.Omega.{arith}
use lib.ListN.{length}
use Rattle.lists.specs.Lists.{sum_of}
use Rattle.lists.proofs.Tests.{by-test}
use Rattle.network.specs.Between.Sizes.{WithinSizes}
use Rattle.blif_text.specs.Decls.{Decl, decls, ins, outs, defs}
use Rattle.blif_text.specs.Between.Places.{max_tokens}
use Rattle.blif_text.specs.Between.Walk.{stmts_from, StmtsAt}
use Rattle.blif_declarations.specs.Between.Declarations.{decl_at, NextIs}
use Rattle.blif_declarations.specs.declared.Declaration.{Declaration}
use Rattle.blif_declarations.proofs.NextLaws.{decls-end}
use Rattle.network.specs.Sizes.{over_sizes}
use Rattle.blif_reading.specs.Read.{gate_count, pin_count, too_large}
use Rattle.network.proofs.SizeLimits.{not-over, within-over}
use Rattle.blif_reading.proofs.SizeLimits.{sizes-within}
use Rattle.blif_read_sizes.specs.Between.Sizes.{sizes_of, Added, Totals}
use Rattle.blif_read_sizes.specs.declared.Sizes.{Sizes}
use Rattle.blif_read_sizes.proofs.SizeLaws.{counts_of, totals-more}

-- no declaration, no size
module _ {ds : List Decl} {w : Sizes} where
  totals-all : Totals ds w [] → WithinSizes w.inputs w.outputs w.gates w.pins → too_large ds ≡ false
  unfolding too_large ins outs defs flat_map
  totals-all t h =
      within-over (length (ins ds)) (length (outs ds)) (sum_of gate_count (defs ds)) (sum_of pin_count (defs ds))
      (record {
        inputs = omega (arith, t.inputs, h.inputs);
        outputs = omega (arith, t.outputs, h.outputs);
        gates = omega (arith, t.gates, h.gates);
        pins = omega (arith, t.pins, h.pins);
      })

-- ---- declaration by declaration

-- the sizes so far are within their limits, and with what is left they are the text's
pub record Counting (text tokens : List ℕ) (n at : ℕ) (w : Sizes) : Type 0 where
  -- statements stand at the place
  pub rest : StmtsAt text tokens n at
  -- no more tokens than a text may have
  pub few : n ≤ max_tokens
  -- no size is passed
  pub within : WithinSizes w.inputs w.outputs w.gates w.pins
  -- what is left is what the declarations from there on have
  pub totals : Totals (decls (stmts_from text tokens n 0)) w (decls (stmts_from text tokens n at))

module _ {text tokens : List ℕ} {n at : ℕ} {v : Sizes} {d : Declaration} {behind : ℕ} (c : Counting text tokens n at v) (x : NextIs text tokens n at d behind) where
  module _ {w : Sizes} (a : Added v (sizes_of d) w) where
    -- the text's sizes
    now-totals : Totals (decls (stmts_from text tokens n 0)) w (decls (stmts_from text tokens n behind))
    now-totals =
        let ds : List Decl = decls (stmts_from text tokens n 0) in
        totals-more ds (decl_at text tokens n d) (decls (stmts_from text tokens n behind)) (counts_of text tokens c.rest.rows.places.room d x.places) a
        (subst (Totals ds v) x.are c.totals)

    -- a size is passed: what is left does not make it smaller
    pub counting-past : over_sizes w.inputs w.outputs w.gates w.pins ≡ true → true ≡ too_large (decls (stmts_from text tokens n 0))
    counting-past e =
        let ds : List Decl = decls (stmts_from text tokens n 0) in
        by-test (too_large ds) (λ t. sym t)
        (λ t.
        let f = sizes-within ds t in
        let u = now-totals in
        let z : over_sizes w.inputs w.outputs w.gates w.pins ≡ false =
        within-over w.inputs w.outputs w.gates w.pins
        (record {
          inputs = omega (arith, u.inputs, f.inputs);
          outputs = omega (arith, u.outputs, f.outputs);
          gates = omega (arith, u.gates, f.gates);
          pins = omega (arith, u.pins, f.pins);
        }) in
        let y : ◌≡◌ {A = ℕ} 0 1 = cc in
        absurd (omega arith))

    -- none is
    pub counting-next : over_sizes w.inputs w.outputs w.gates w.pins ≡ false → Counting text tokens n behind w
    counting-next e = record { rest = x.rest; few = c.few; within = not-over w.inputs w.outputs w.gates w.pins e; totals = now-totals }

-- behind the last declaration
pub counting-done : {text tokens : List ℕ} {n at : ℕ} {w : Sizes} → Counting text tokens n at w → n ≤ at → false ≡ too_large (decls (stmts_from text tokens n 0))
counting-done {text} {tokens} {n} {at} {w} c h =
    sym (totals-all (subst (Totals (decls (stmts_from text tokens n 0)) w) (decls-end c.rest h) c.totals) c.within)
