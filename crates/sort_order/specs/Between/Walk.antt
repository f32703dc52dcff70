-- What holds while the sort walks: counts, the stack and what is recorded. Assumes nothing: these are definitions.
use Rattle.std.specs.Prelude.{◌≡◌, true, List, [], ◌∷◌, ℕ, zero, suc, ◌+◌, ◌≤◌, ◌<◌, length, get_or}
use Rattle.lists.specs.Lists.{occ, sum_to}
use Rattle.sort_order.specs.Order.{Graph, uses}

-- every gate input of a gate is a gate
abbrev pub ValidGraph : Graph → Type 0
ValidGraph G = (g d : ℕ) → g < G.size → 0 < occ d (G.ins g) → d < G.size

-- what of k uses counts: all where the user is not recorded, none where it is
abbrev pub left : ℕ → ℕ → ℕ
left zero k = k
left (suc r) k = 0

-- how often combinational gates that are not recorded use v
abbrev pub uses_left : Graph → List ℕ → ℕ → ℕ
uses_left G done v = sum_to G.size (λ g. left (occ g done) (occ v (uses G g)))

-- each recorded gate stands before every gate that uses it
abbrev pub Before : Graph → List ℕ → Type 0
Before G [] = Unit {0}
Before G (d ∷ l) = ((g : ℕ) → g < G.size → 0 < occ d (uses G g) → 0 < occ g l) × Before G l

-- the walk's counts, stack and recorded gates, with the inputs of the gate last recorded that are still to be lowered
pub record WalkState (G : Graph) (c st done rest : List ℕ) : Type 0 where
  -- there is a count for each gate
  pub long : G.size ≤ length c
  -- a count is the uses by gates not recorded, and those still to be lowered
  pub counted : (v : ℕ) → v < G.size → get_or c v 0 ≡ uses_left G done v + occ v rest
  -- no gate is on the stack or recorded twice
  pub once : (v : ℕ) → occ v st + occ v done ≤ 1
  -- a gate on the stack or recorded has count zero
  pub low : (v : ℕ) → 0 < occ v st + occ v done → (v < G.size) × (get_or c v 0 ≡ 0)
  -- a combinational gate of count zero is on the stack or recorded
  pub covered : (v : ℕ) → v < G.size → G.comb v ≡ true → get_or c v 0 ≡ 0 → 0 < occ v st + occ v done
  -- combinational gates alone are recorded
  pub combs : (v : ℕ) → 0 < occ v done → G.comb v ≡ true
  -- users are recorded before what they use
  pub top : Before G done
  -- what is still to be lowered are gates
  pub ins : (v : ℕ) → 0 < occ v rest → v < G.size
