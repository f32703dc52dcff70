-- The search gives each name its signal, where no name is defined twice. Assumes nothing.
use mathlib.Core.Path.{◌≡◌, ap, ap₂}
use mathlib.Core.List.{List, map}
use mathlib.Core.Option.{Option, some}
use Prim.Native.Nat.{ℕ}
use lib.ListN.{get_elem?}
use Rattle.lists.specs.Lists.{Bytes, same, Dup, find}
use Rattle.lists.proofs.Places.{place-mem, map-place}
use Rattle.lists.proofs.Find.{find-name, find-no-name}
use Rattle.lists.proofs.Once.{dup-left, dup-right, dup-both}
use Rattle.signal.specs.Signal.{Input, Var, Signal, plain}
use Rattle.blif_meaning.specs.Model.{Block, Model, target}
use Rattle.blif_reading.specs.Lookup.{place_signal, lookup}
use Rattle.blif_meaning.specs.WellFormed.{defined}

module _ {Name : Type 0} where
  -- `signal_of` gives each defined name its signal: what the search finds where no name is defined twice (refusal 10)
  pub record Looks (m : Model Name) (signal_of : Name → Signal) : Type 0 where
    pub input_at : (i : ℕ) (x : Name) → get_elem? m.inputs i ≡ some x → signal_of x ≡ plain (Input i)
    pub block_at : (j : ℕ) (b : Block Name) → get_elem? m.blocks j ≡ some b → signal_of (target b) ≡ plain (Var j)

module _ (m : Model Bytes) (once : Dup (defined m) → ⊥) where
  abbrev targets : List Bytes
  targets = map target m.blocks

  -- no name is defined twice: the search gives each its signal
  pub looks : Looks m (lookup m)
  looks = record {
    input_at = λ i x e. ap (λ (r : Option ℕ). place_signal r (find (same x) targets)) (find-name m.inputs x i (λ d. once (dup-left m.inputs targets d)) e);
    block_at = λ j b e.
        let w : get_elem? targets j ≡ some (target b) = map-place target m.blocks j b e in
        ap₂ (λ (r q : Option ℕ). place_signal r q)
        (find-no-name m.inputs (target b) (λ v. once (dup-both m.inputs targets (target b) v (place-mem targets j (target b) w))))
        (find-name targets (target b) j (λ d. once (dup-right m.inputs targets d)) w);
  }
