use mathlib.Core.List.{List}
use mathlib.Core.Path.{◌≡◌}
use Prim.Native.Nat.{ℕ, ◌≤◌}
use lib.ListN.{length}
use Rattle.network.specs.Sizes.{max_gates}
use Rattle.sort.specs.Between.Steps.{form_comb, FlopsPlaced}
use Rattle.sort.proofs.mark_flops.Given as goal

-- the flip-flops below g are marked
pub record Marking (gates : List ℕ) (n : ℕ) (o₀ m o : List ℕ) (k g : ℕ) : Type 0 where
  pub within : g ≤ n
  pub long : length m ≡ max_gates
  pub same : length o ≡ length o₀
  pub flopped : FlopsPlaced (form_comb gates) g o₀ m o k

abbrev pub invariant-loop-g : goal.invariant-loop-g
invariant-loop-g l = Marking l.gates l.n l.initial.order l.marks l.order l.k l.g
