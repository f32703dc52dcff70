-- The order that the walk leaves in its cells is the sort's. Assumes nothing.
use mathlib.Core.Path.{◌≡◌, sym, ap, ◌∙◌}
use mathlib.Core.List.{List, [], append-nil}
use mathlib.Core.Option.{none, some}
use Prim.Native.Nat.{ℕ, ◌+◌}
use native.Mathlib.Omega.{arith}
use native.Mathlib.Decide.{ℕ_discrete}
use lib.Dec.{eqb}
use lib.ListN.{length, get_or, take, drop, length-append}
use lib.Seq.{drop-length, take_at}
use borrow.Author.Tests.{eq-eqb, ne_eqb}
use Rattle.sort_order.specs.Order.{Graph, recorded, order, flops_to, start_to, use_count, sort_order}
use Rattle.sort_order.specs.Between.Walk.{ValidGraph}
use Rattle.sort.specs.Between.Steps.{from_top, FlopsPlaced, Started, Counted, unmarked, Recorded, ordered}
use Rattle.sort_order.proofs.Ordering.{order-short, sort-full, sort-short}
use Rattle.sort.proofs.Starting.{start-same, flopped-unmarked}

-- the first stack is that of the graph
pub started-graph : (G : Graph) (o₀ m o c st : List ℕ) (k top : ℕ) → FlopsPlaced G.comb G.size o₀ m o k → Counted G c → Started m c G.size st top
    → from_top top st ≡ start_to G.comb (use_count G) G.size
started-graph G o₀ m o c st k top f q s =
    s.stack ∙ start-same (unmarked m) G.comb (λ v. get_or c v 0) (use_count G) G.size (λ v l. flopped-unmarked G.comb G.size o₀ m o k f v l) (λ v l. q.each v)

module _ (G : Graph) (valid : ValidGraph G) where
  parts : length (order G) ≡ length (flops_to G.comb G.size) + length (recorded G)
  unfolding order
  parts = length-append (flops_to G.comb G.size) (recorded G)

  -- an order with a cell for each gate
  module _ {o₀ m o₁ o₂ : List ℕ} {k at : ℕ} (n : length o₁ ≡ G.size) (f : FlopsPlaced G.comb G.size o₀ m o₁ k) (l : Recorded G o₁ o₂ at) where
    -- where the recorded gates start behind the flip-flops, all gates stand in the order
    found-order : at ≡ k → o₂ ≡ order G
    unfolding order
    found-order q =
        let fl = flops_to G.comb G.size in
        let t : take at o₁ ≡ fl = rw f.front (take_at fl (drop k o₀) at (sym (q ∙ f.count))) in
        let d : drop G.size o₁ ≡ [] = rw (sym n) (drop-length o₁) in
        l.cells ∙ rw (t, d, append-nil)

    pub found_all : at ≡ k → some o₂ ≡ sort_order G
    found_all q = ap some (found-order q) ∙ sym (sort-full G valid (omega (arith, parts, l.start, f.count)))

    pub found-loop : (at ≡ k → ⊥) → none ≡ sort_order G
    found-loop q = sym (sort-short G valid (omega (arith, parts, l.start, f.count, order-short G valid)))

    pub found-is : ordered (eqb at k) o₂ ≡ sort_order G
    found-is = go (ℕ_discrete at k)
      where
        go : Dec (at ≡ k) → ordered (eqb at k) o₂ ≡ sort_order G
        go (yes e) = rw (eq-eqb at k e) (found_all e)
        go (no e) = rw (ne_eqb at k e) (found-loop e)
