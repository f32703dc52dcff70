-- The model written for a network is accepted, and has just the network's runs. Assumes nothing.
use mathlib.Core.Path.{◌≡◌, sym, ap, ◌∙◌, subst}
use mathlib.Core.Bool.{Bool}
use mathlib.Core.List.{List, map}
use mathlib.Core.Option.{some}
use mathlib.Core.Logic.{◌↔◌}
use Prim.Native.Nat.{ℕ}
use lib.ListN.{length-map}
use Rattle.lists.specs.Lists.{Bytes, range}
use Rattle.lists.proofs.Range.{length-range}
use Rattle.signal.specs.Signal.{Input, Signal, plain}
use Rattle.network.specs.Net.{Net, Valid, Formed, Loop}
use Rattle.network.specs.Settle.{run}
use Rattle.network.proofs.OneChoice.{ranked}
use Rattle.network.proofs.Summary.{one-run-start, sorted-free}
use Rattle.sort_order.specs.Sorted.{sorted, Preserved}
use Rattle.sort_order.proofs.Summary.{sorted-keeps, sort-sorts}
use Rattle.blif_meaning.specs.Model.{BlifRuns}
use Rattle.blif_reading.specs.Lookup.{lookup}
use Rattle.blif_writing.specs.WrittenModel.{written}
use Rattle.network.specs.Settle.{SameOutputs}
use Rattle.blif_reading.specs.Accepts.{Accepts}
use Rattle.blif_reading.proofs.Lookups.{looks}
use Rattle.blif_reading.proofs.BuiltFree.{built-free}
use Rattle.blif_reading.proofs.Meaning.{built_of, accepted-valid, model-run, sorted-means}
use Rattle.blif_writing.proofs.Writing.{written-runs}
use Rattle.round_trip.proofs.Ranks.{written-ranked}
use Rattle.blif_writing.proofs.WrittenFormed.{written-formed}

module _ (name : Signal → Bytes) (unnamed : Bytes → Signal) (back : (s : Signal) → unnamed (name s) ≡ s) where
  module _ (net : Net) (valid : Valid net) (free : Loop net → ⊥) (counts : Formed net) where
    -- what is written is accepted
    pub written-accepts : Accepts (written name net)
    written-accepts =
        let formed = written-formed name net (λ x y e. sym (back x) ∙ ap unnamed e ∙ back y) valid counts in
        let looked = looks (written name net) formed.once in
        record { formed = formed; free = built-free (written name net) (lookup (written name net)) looked formed.closed (written-ranked name net (ranked net free) unnamed back) }

    -- the network's outputs are the model's
    outputs-are : (rows : List (List Bool)) → BlifRuns (written name net) rows (run net rows)
    outputs-are = written-runs name net counts unnamed back valid free

    -- and no others are
    pub written-means : (rows outs : List (List Bool)) → BlifRuns (written name net) rows outs ↔ (outs ≡ run net rows)
    written-means rows outs =
        let m = model-run (written name net) written-accepts rows in
        ((λ r. (m outs).0 r ∙ sym ((m (run net rows)).0 (outputs-are rows))), (λ e. subst (BlifRuns (written name net) rows) (sym e) (outputs-are rows)))

    -- so the network read, its gates sorted, gives the outputs of the network written
    pub same-outputs : (new : Net) → sorted (built_of (written name net)) ≡ some new → SameOutputs new net
    same-outputs new e =
        let k : Preserved (built_of (written name net)) new = sorted-keeps (built_of (written name net)) new (accepted-valid (written name net) written-accepts) e in
        record {
          inputs = k.inputs ∙ length-map (range 0 net.inputs) (λ (i : ℕ). name (plain (Input i))) ∙ length-range 0 net.inputs;
          outputs = k.outputs ∙ length-map (map name net.outputs) (lookup (written name net)) ∙ length-map net.outputs name;
          runs = λ rows. sym ((sorted-means (written name net) written-accepts new e rows (run net rows)).0 (outputs-are rows));
          one_left = one-run-start new k.valid (sorted-free new (sort-sorts (built_of (written name net)) new (accepted-valid (written name net) written-accepts) e));
          one_right = one-run-start net valid free;
        }
