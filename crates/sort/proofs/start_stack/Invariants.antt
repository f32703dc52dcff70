use mathlib.Core.List.{List}
use mathlib.Core.Path.{◌≡◌}
use Prim.Native.Nat.{ℕ, ◌≤◌}
use lib.ListN.{length}
use Rattle.network.specs.Sizes.{max_gates}
use Rattle.sort.specs.Between.Steps.{Started}
use Rattle.sort.proofs.start_stack.Given as goal

-- the gates below g that start are pushed
pub record Pushing (m c : List ℕ) (n : ℕ) (st : List ℕ) (top g : ℕ) : Type 0 where
  pub within : g ≤ n
  pub long : length st ≡ max_gates
  pub started : Started m c g st top

abbrev pub invariant-loop-g : goal.invariant-loop-g
invariant-loop-g l = Pushing l.marks l.counts l.n l.stack l.top l.g
