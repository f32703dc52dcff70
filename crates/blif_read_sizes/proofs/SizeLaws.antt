-- Sizes counted declaration by declaration. Assumes nothing.
use mathlib.Core.Path.{◌≡◌, refl, ap, ap₂, ◌∙◌}
use mathlib.Core.List.{List, ◌++◌, flat_map, append-nil}
use Prim.Native.Nat.{ℕ, ◌+◌, ◌-◌, ◌*◌, ◌≤◌}
use native.Mathlib.Omega.{arith}
use lib.ListN.{length, take, length-append}
use lib.Seq.{length-take-le}
use Rattle.lists.specs.Lists.{sum_of}
use Rattle.lists.proofs.Counting.{sum-append}
use Rattle.lists.proofs.Places.{flat_map-append}
use Rattle.blif_text.specs.Decls.{Def, Decl, ins_of, outs_of, defs_of, ins, outs, defs}
use Rattle.blif_text.specs.Between.Walk.{rows_from}
use Rattle.blif_text.specs.declared.Block.{Block}
use Rattle.blif_declarations.specs.Between.Rows.{names}
use Rattle.blif_declarations.specs.Between.Declarations.{decl_at, CoverIn, PlacesIn}
use Rattle.blif_declarations.specs.declared.Declaration.{Declaration}
use Rattle.blif_declarations.specs.declared.Declaration.TheVariants as next
use Rattle.blif_declarations.proofs.RowStarts.{names-length}
use Rattle.blif_reading.specs.Read.{added, gate_count, pin_count}
use Rattle.blif_read_sizes.specs.Between.Sizes.{sizes_of, Added, Totals}
use Rattle.blif_read_sizes.specs.declared.Sizes.{Sizes}

-- ---- the sizes of declarations

-- z are the sizes of declarations
pub record Counts (ds : List Decl) (z : Sizes) : Type 0 where
  pub ins-are : length (ins ds) ≡ z.inputs
  pub outs-are : length (outs ds) ≡ z.outputs
  pub gates-are : sum_of gate_count (defs ds) ≡ z.gates
  pub pins-are : sum_of pin_count (defs ds) ≡ z.pins

module _ (text tokens : List ℕ) {n : ℕ} (h : n ≤ length tokens) where
  -- of a cover
  cover-counts : (block : Block) → CoverIn text tokens n block → Counts (decl_at text tokens n (next.Cover block)) (sizes_of (next.Cover block))
  unfolding ins outs defs flat_map ins_of outs_of defs_of gate_count pin_count
  cover-counts block p =
      let ns = names text tokens (record { first = block.first; count = block.names }) in
      let ls = take block.lines (rows_from text tokens n (block.first + block.names)) in
      let k : length ls ≡ block.lines = length-take-le block.lines (rows_from text tokens n (block.first + block.names)) p.enough in
      let m : length ns ≡ block.names = names-length text tokens (record { first = block.first; count = block.names }) (omega (arith, p.few)) in
      record {
        ins-are = refl;
        outs-are = refl;
        gates-are = omega (arith, ap added k);
        pins-are = omega (arith, ap₂ (λ (x y : ℕ). (x + 1) * (y - 1 + 2)) k m);
      }

  -- of what a declaration of places declares
  pub counts_of : (d : Declaration) → PlacesIn text tokens n d → Counts (decl_at text tokens n d) (sizes_of d)
  unfolding ins outs defs flat_map ins_of outs_of defs_of gate_count pin_count
  counts_of next.Model p = record { ins-are = refl; outs-are = refl; gates-are = refl; pins-are = refl }
  counts_of next.End p = record { ins-are = refl; outs-are = refl; gates-are = refl; pins-are = refl }
  counts_of (next.Inputs run) p =
      record { ins-are = ap length (append-nil (names text tokens run)) ∙ names-length text tokens run (omega arith); outs-are = refl; gates-are = refl; pins-are = refl }
  counts_of (next.Outputs run) p =
      record { ins-are = refl; outs-are = ap length (append-nil (names text tokens run)) ∙ names-length text tokens run (omega arith); gates-are = refl; pins-are = refl }
  counts_of (next.Latch run) p = record { ins-are = refl; outs-are = refl; gates-are = refl; pins-are = refl }
  counts_of (next.Cover block) p = cover-counts block p
  counts_of next.None p = record { ins-are = refl; outs-are = refl; gates-are = refl; pins-are = refl }

-- ---- more declarations

module _ (xs ys : List Decl) where
  ins-append : length (ins (xs ++ ys)) ≡ length (ins xs) + length (ins ys)
  unfolding ins
  ins-append = ap length (flat_map-append ins_of xs ys) ∙ length-append (flat_map ins_of xs) (flat_map ins_of ys)

  outs-append : length (outs (xs ++ ys)) ≡ length (outs xs) + length (outs ys)
  unfolding outs
  outs-append = ap length (flat_map-append outs_of xs ys) ∙ length-append (flat_map outs_of xs) (flat_map outs_of ys)

  defs-append : (f : Def → ℕ) → sum_of f (defs (xs ++ ys)) ≡ sum_of f (defs xs) + sum_of f (defs ys)
  unfolding defs
  defs-append f = ap (sum_of f) (flat_map-append defs_of xs ys) ∙ sum-append f (flat_map defs_of xs) (flat_map defs_of ys)

pub totals-more : {v w z : Sizes} (ds xs left : List Decl) → Counts xs z → Added v z w → Totals ds v (xs ++ left) → Totals ds w left
totals-more ds xs left c a t =
    record {
      inputs = omega (arith, t.inputs, ins-append xs left, c.ins-are, a.inputs);
      outputs = omega (arith, t.outputs, outs-append xs left, c.outs-are, a.outputs);
      gates = omega (arith, t.gates, defs-append xs left gate_count, c.gates-are, a.gates);
      pins = omega (arith, t.pins, defs-append xs left pin_count, c.pins-are, a.pins);
    }
