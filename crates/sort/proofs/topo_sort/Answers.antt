-- `topo_sort` finds the order and renumbers by it. Assumes nothing.
use Prim.Native.Nat.{ℕ, ◌≤◌}
use native.Mathlib.Omega.{arith}
use lib.ListN.{length, replicate, length-replicate}
use Rattle.network.specs.Sizes.{max_gates}
use Rattle.sort.proofs.Ending.{found-asks, found_some, found_none, ends-loop, ends-sorted, order-numbers, order-movable}
use Rattle.sort.proofs.Reading.{sortable-cells}
use Rattle.sort.proofs.topo_sort.Goals as goal

pub find_order-requires : goal.find_order-requires
find_order-requires c = let r = found-asks _ _ (replicate max_gates 0) _ ((let room : c.args.counts.gates ≤ length {A = ℕ} (replicate max_gates 0) = omega (arith, c.requires.few, length-replicate {A = ℕ} max_gates 0) in room)) (sortable-cells _ _ _ _ c.requires) in record { cells = r.0; gate_width_in_bounds = r.1 }

pub returns-then-not-find_order : goal.returns-then-not-find_order
returns-then-not-find_order c = let o = found_none _ _ (replicate max_gates 0) _ ((let room : c.args.counts.gates ≤ length {A = ℕ} (replicate max_gates 0) = omega (arith, c.requires.few, length-replicate {A = ℕ} max_gates 0) in room)) c.find_order.result _ (c.if-not-find_order.true) c.find_order.ensures in
    ends-loop _ _ _ _ _ _ o c.requires

pub renumber-used-requires : goal.renumber-used-requires
renumber-used-requires c = let o = found_some _ _ (replicate max_gates 0) _ ((let room : c.args.counts.gates ≤ length {A = ℕ} (replicate max_gates 0) = omega (arith, c.requires.few, length-replicate {A = ℕ} max_gates 0) in room)) c.find_order.result _ c.find_order.auto.order (c.if-not-find_order.false) c.find_order.ensures in
    record { numbers = order-numbers _ _ _ _ c.requires _ o; movable = order-movable _ _ _ _ c.requires _ o _ _ c.requires.room c.requires.pin_room; outs_in_bounds = c.requires.outputs }

pub returns : goal.returns
returns c = let o = found_some _ _ (replicate max_gates 0) _ ((let room : c.args.counts.gates ≤ length {A = ℕ} (replicate max_gates 0) = omega (arith, c.requires.few, length-replicate {A = ℕ} max_gates 0) in room)) c.find_order.result _ c.find_order.auto.order (c.if-not-find_order.false) c.find_order.ensures in
    ends-sorted _ _ _ _ c.requires _ o (λ i. omega (arith, c.type_inv.pins i)) (λ i. omega (arith, c.slice_known-1.given i)) c.renumber-used.ensures
