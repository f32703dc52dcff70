-- The order of the sort (document 01, src/network/network.rs: `topo_sort`). Assumes nothing: these are definitions.
use Rattle.std.specs.Prelude.{Bool, true, false, cond, List, [], ◌∷◌, ◌++◌, map, ℕ, zero, suc, ◌-◌, eqb, length, get_or, set}
use Rattle.std.proofs.Math.Option.{Option, none, some}
use Rattle.lists.specs.Lists.{range, sum_to, occ}

-- what the sort sees of a network: how many gates, which are combinational, and each gate's gate inputs, in order and with repeats
pub record Graph : Type 0 where
  -- how many gates
  pub size : ℕ
  -- which are combinational
  pub comb : ℕ → Bool
  -- each gate's gate inputs
  pub ins : ℕ → List ℕ

-- the gates that gate g uses as a combinational gate: none where it is a flip-flop
unfoldable pub uses : Graph → ℕ → List ℕ
uses G g = cond (G.comb g) (G.ins g) []

-- "It counts how often combinational gates use each gate, twice if an input repeats"
unfoldable pub use_count : Graph → ℕ → ℕ
use_count G v = sum_to G.size (λ g. occ v (uses G g))

-- "for each of its gate inputs in order the count falls by one"
abbrev pub lowered : List ℕ → ℕ → List ℕ
lowered c d = set c d (get_or c d 0 - 1)

-- "and at zero that gate is pushed"
abbrev pub pushed : ℕ → ℕ → List ℕ → List ℕ
pushed zero d st = d ∷ st
pushed (suc k) d st = st

-- the counts after each of a gate's inputs, in order
abbrev pub counts_after : List ℕ → List ℕ → List ℕ
counts_after [] c = c
counts_after (d ∷ ds) c = counts_after ds (lowered c d)

-- the stack after each of a gate's inputs, in order; its top stands first
abbrev pub stack_after : List ℕ → List ℕ → List ℕ → List ℕ
stack_after [] c st = st
stack_after (d ∷ ds) c st = stack_after ds (lowered c d) (pushed (get_or c d 0 - 1) d st)

-- "The last is popped and recorded"; "A popped flip-flop is skipped"
abbrev pub kept : Bool → ℕ → List ℕ → List ℕ
kept true v done = v ∷ done
kept false v done = done

-- the gates recorded, the last first, from counts, a stack and the gates recorded before, in at most so many pops
abbrev pub walk : Graph → ℕ → List ℕ → List ℕ → List ℕ → List ℕ
walk G zero c st done = done
walk G (suc k) c [] done = done
walk G (suc k) c (v ∷ st) done =
    walk G k (counts_after (uses G v) c) (stack_after (uses G v) c st) (kept (G.comb v) v done)

-- the flip-flops below k in rising number: "flip-flops in old order"
abbrev pub flops_to : (ℕ → Bool) → ℕ → List ℕ
flops_to comb zero = []
flops_to comb (suc k) = flops_to comb k ++ cond (comb k) [] (k ∷ [])

-- "The stack starts with combinational gates of count zero, in rising number": of those below k the highest is at the top
abbrev pub start_to : (ℕ → Bool) → (ℕ → ℕ) → ℕ → List ℕ
start_to comb f zero = []
start_to comb f (suc k) = cond (comb k) (pushed (f k) k (start_to comb f k)) (start_to comb f k)

-- "the recorded gates backwards"
unfoldable pub recorded : Graph → List ℕ
recorded G = walk G G.size (map (use_count G) (range 0 G.size)) (start_to G.comb (use_count G) G.size) []

-- "New order: flip-flops in old order, then the recorded gates backwards"
unfoldable pub order : Graph → List ℕ
order G = flops_to G.comb G.size ++ recorded G

-- the new order; none where "a combinational gate never recorded means a loop"
unfoldable pub sort_order : Graph → Option (List ℕ)
sort_order G = cond (eqb (length (order G)) G.size) (some (order G)) none
