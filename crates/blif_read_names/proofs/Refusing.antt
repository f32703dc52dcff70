-- The refusals of 7 to 10, one declaration after the other. Assumes nothing.
use Rattle.std.specs.Prelude.{Err}
use mathlib.Core.Path.{◌≡◌, refl}
use mathlib.Core.Bool.{Bool, true, not}
use mathlib.Core.List.{List, [], ◌∷◌, ◌++◌}
use native.Mathlib.Omega.{arith}
use lib.ListN.{length}
use Rattle.lists.specs.Lists.{Bytes, known}
use Rattle.blif_meaning.specs.Model.{LatchDef}
use Rattle.blif_text.specs.Decls.{latch, cover, Decl, model, end, inputs, outputs, gate, cover_out}
use Rattle.refusals.specs.Order.{◌or_else◌, refuse_if}
use Rattle.refusals.specs.declared.Refusal.TheVariants as refusal
use Rattle.blif_reading.specs.Read.{defined_twice, naming}

module _ (seen : Bool) (earlier : List Bytes) (ds : List Decl) where
  pub naming-model : naming seen earlier (model ∷ ds) ≡ (refuse_if seen refusal.SecondModel or_else naming true earlier ds)
  unfolding naming
  naming-model = refl

  pub naming-end : naming seen earlier (end ∷ ds) ≡ (refuse_if (not seen) refusal.EndBeforeModel or_else naming seen earlier ds)
  unfolding naming
  naming-end = refl

  pub naming-inputs : (ns : List Bytes) → naming seen earlier (inputs ns ∷ ds) ≡ (refuse_if (defined_twice earlier ns) refusal.DefinedTwice or_else naming seen (earlier ++ ns) ds)
  unfolding naming
  naming-inputs ns = refl

  pub naming-outputs : (ns : List Bytes) → naming seen earlier (outputs ns ∷ ds) ≡ naming seen earlier ds
  unfolding naming
  naming-outputs ns = refl

  pub naming-latch : (l : LatchDef Bytes)
      → naming seen earlier (gate (latch l) ∷ ds) ≡ (refuse_if (known l.output earlier) refusal.DefinedTwice or_else naming seen (earlier ++ (l.output ∷ [])) ds)
  unfolding naming
  naming-latch l = refl

  pub naming-empty : (ns : List Bytes) (ls : List (List Bytes)) → length ns ≡ 0 → naming seen earlier (gate (cover ns ls) ∷ ds) ≡ Err refusal.NamesEmpty
  unfolding naming
  naming-empty [] ls e = refl
  naming-empty (n ∷ ns) ls e = absurd (omega arith)

  pub naming-cover : (ns : List Bytes) (ls : List (List Bytes)) → (length ns ≡ 0 → ⊥)
      → naming seen earlier (gate (cover ns ls) ∷ ds) ≡ (refuse_if (known (cover_out ns) earlier) refusal.DefinedTwice or_else naming seen (earlier ++ (cover_out ns ∷ [])) ds)
  unfolding naming
  naming-cover [] ls f = absurd (f refl)
  naming-cover (n ∷ ns) ls f = refl
