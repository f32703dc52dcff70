-- The network's theorems, as a reviewer would read them. Assumes nothing.
use mathlib.Core.Path.{◌≡◌, refl, sym, ◌∙◌, subst}
use mathlib.Core.Bool.{Bool, true}
use mathlib.Core.List.{List}
use mathlib.Core.Logic.{◌↔◌}
use Prim.Native.Nat.{ℕ, ◌<◌}
use lib.ListN.{length}
use Rattle.network.specs.Net.{Net, Valid, Loop, topo_sorted}
use Rattle.network.specs.Clock.{Fits, Clock, Runs, start_bits, NetRuns}
use Rattle.network.specs.Settle.{settle, run_from, run, OneRun, SameOutputs}
use Rattle.network.specs.Renumber.{Renumbered}
use Rattle.network.proofs.OneChoice.{ranked, settle-fits, fits-unique, run_is, runs-unique, rises-free}
use Rattle.network.proofs.TopoSorted.{sorted_rises}
use Rattle.network.proofs.Renumbering.{renumbered-same, starts-kept}

-- "without a loop just one choice fits": `settle` fits, and whatever fits is `settle` on every gate, for any row and any held bits
pub one_choice : (net : Net) → Valid net → (Loop net → ⊥) → (row : List Bool) (held : ℕ → Bool)
    → Fits net row held (settle net row held)
    × ((bits : ℕ → Bool) → Fits net row held bits → (g : ℕ) → g < length net.gates → bits g ≡ settle net row held g)
one_choice net valid free row held = (
  settle-fits net (ranked net free) row held,
  λ bits f. fits-unique net valid (ranked net free) row held held bits (settle net row held) (λ g u. refl) f (settle-fits net (ranked net free) row held),
)

-- and for every list of rows, the empty one too, there is just one list of outputs, from any held bits
pub one-run : (net : Net) → Valid net → (Loop net → ⊥) → (held : ℕ → Bool) (rows outs : List (List Bool))
    → Runs (Clock net) held rows outs ↔ (outs ≡ run_from net held rows)
one-run net valid free held rows outs = (
  (λ r. runs-unique net valid (ranked net free) held held rows outs (run_from net held rows) (λ g u. refl) r (run_is net valid (ranked net free) rows held)),
  (λ e. subst (Runs (Clock net) held rows) (sym e) (run_is net valid (ranked net free) rows held)),
)

-- the same from the start values
pub one-run-start : (net : Net) → Valid net → (Loop net → ⊥) → OneRun net
one-run-start net valid free = one-run net valid free (start_bits net)

-- a sorted network has no loop: each gate of a ring would have a lower number than the next
pub sorted-free : (net : Net) → topo_sorted net ≡ true → Loop net → ⊥
sorted-free net t = rises-free net (λ g. g) (sorted_rises net t)

-- networks with the same outputs have the same runs by the relation
pub same_runs : {a b : Net} → SameOutputs a b → (rows outs : List (List Bool)) → NetRuns a rows outs ↔ NetRuns b rows outs
same_runs s rows outs =
    let x = s.one_left rows outs in
    let y = s.one_right rows outs in
    let q = s.runs rows in
    ((λ r. y.1 (x.0 r ∙ q)), (λ r. x.1 (y.0 r ∙ sym q)))

-- a network whose gates are those of another, renumbered, with some left out or none, gives the same outputs at every clock for every
-- list of rows, each gate starting at the bit that it held under its old number
pub renumbered-runs : (old new : Net) (π order : ℕ → ℕ) → Renumbered old new π order → Valid old → (Loop old → ⊥)
    → (held : ℕ → Bool) (rows : List (List Bool)) → run_from new (λ g. held (order g)) rows ≡ run_from old held rows
renumbered-runs old new π order ren valid free held rows =
    renumbered-same old new π order ren valid free held (λ g. held (order g)) (λ i x e. refl) rows

-- the same from the start values, which move with their gates
pub renumbered-run : (old new : Net) (π order : ℕ → ℕ) → Renumbered old new π order → Valid old → (Loop old → ⊥)
    → (rows : List (List Bool)) → run new rows ≡ run old rows
renumbered-run old new π order ren valid free rows =
    renumbered-same old new π order ren valid free (start_bits old) (start_bits new) (starts-kept old new π order ren) rows
