-- `visit` records the gate at the top of the stack and lowers what it uses. Assumes nothing.
use mathlib.Core.Path.{sym, ap, ◌∙◌}
use Prim.Native.Nat.{◌≤◌, ◌<◌}
use native.Mathlib.Omega.{arith}
use lib.ListN.{length}
use Rattle.network.specs.Sizes.{max_gates}
use Rattle.sort.specs.Between.Steps.{gate_ins, top_gate}
use Rattle.sort.proofs.Naming.{within-rises}
use Rattle.sort.proofs.Visiting.{top-few, v_below, at-pos, visited-skip, visit-walks, visited-comb}
use Rattle.sort.proofs.visit.Goals as goal

pub offset_bounds-stack-top : goal.offset_bounds-stack-top
offset_bounds-stack-top c = omega (
  arith,
  (let known : (c.args.place.top ≤ length c.args.order.now) × (top_gate c.args.stack.now c.args.place.top < length c.args.order.now)
      × (length c.args.order.now ≤ max_gates) = (top-few c.requires.cells.valid c.requires.cells.few c.requires.top_nonzero c.requires.ready, v_below c.requires.cells.valid c.requires.cells.few c.requires.top_nonzero c.requires.ready, c.requires.cells.few) in known),
)

pub bounds-stack-top : goal.bounds-stack-top
bounds-stack-top c = omega (
  arith,
  (let known : (c.args.place.top ≤ length c.args.order.now) × (top_gate c.args.stack.now c.args.place.top < length c.args.order.now)
      × (length c.args.order.now ≤ max_gates) = (top-few c.requires.cells.valid c.requires.cells.few c.requires.top_nonzero c.requires.ready, v_below c.requires.cells.valid c.requires.cells.few c.requires.top_nonzero c.requires.ready, c.requires.cells.few) in known),
  c.requires.top_nonzero,
  c.requires.ready.long,
)

pub bounds-marks-v : goal.bounds-marks-v
bounds-marks-v c = omega (
  arith,
  (let known : (c.args.place.top ≤ length c.args.order.now) × (top_gate c.args.stack.now c.args.place.top < length c.args.order.now)
      × (length c.args.order.now ≤ max_gates) = (top-few c.requires.cells.valid c.requires.cells.few c.requires.top_nonzero c.requires.ready, v_below c.requires.cells.valid c.requires.cells.few c.requires.top_nonzero c.requires.ready, c.requires.cells.few) in known),
  c.requires.ready.long,
)

pub returns-then-marks-v-ne0 : goal.returns-then-marks-v-ne0
returns-then-marks-v-ne0 c = record { visited = visited-skip c.requires.cells.valid c.requires.cells.few c.requires.top_nonzero c.requires.ready c.if-marks-v-ne0.true; within_2 = c.requires.within }

pub overflow_sub-at : goal.overflow_sub-at
overflow_sub-at c = at-pos c.requires.cells.valid c.requires.cells.few c.requires.top_nonzero c.requires.ready c.if-marks-v-ne0.false

pub bounds-marks-v-2 : goal.bounds-marks-v-2
bounds-marks-v-2 c = omega (
  arith,
  (let known : (c.args.place.top ≤ length c.args.order.now) × (top_gate c.args.stack.now c.args.place.top < length c.args.order.now)
      × (length c.args.order.now ≤ max_gates) = (top-few c.requires.cells.valid c.requires.cells.few c.requires.top_nonzero c.requires.ready, v_below c.requires.cells.valid c.requires.cells.few c.requires.top_nonzero c.requires.ready, c.requires.cells.few) in known),
  c.requires.ready.long,
)

pub narrow-requires : goal.narrow-requires
narrow-requires c = omega (
  arith,
  (let known : (c.args.place.top ≤ length c.args.order.now) × (top_gate c.args.stack.now c.args.place.top < length c.args.order.now)
      × (length c.args.order.now ≤ max_gates) = (top-few c.requires.cells.valid c.requires.cells.few c.requires.top_nonzero c.requires.ready, v_below c.requires.cells.valid c.requires.cells.few c.requires.top_nonzero c.requires.ready, c.requires.cells.few) in known),
)

pub bounds-order-at : goal.bounds-order-at
bounds-order-at c = let r = c.requires.ready in omega (arith, (at-pos c.requires.cells.valid c.requires.cells.few c.requires.top_nonzero c.requires.ready c.if-marks-v-ne0.false), r.room, r.long.order)

pub gate_pins-run-requires : goal.gate_pins-run-requires
gate_pins-run-requires c = c.requires.cells.runs _ ((let known : (c.args.place.top ≤ length c.args.order.now) × (top_gate c.args.stack.now c.args.place.top < length c.args.order.now)
    × (length c.args.order.now ≤ max_gates) = (top-few c.requires.cells.valid c.requires.cells.few c.requires.top_nonzero c.requires.ready, v_below c.requires.cells.valid c.requires.cells.few c.requires.top_nonzero c.requires.ready, c.requires.cells.few) in known)).1

pub lower_uses-new_top-requires : goal.lower_uses-new_top-requires
lower_uses-new_top-requires c = record {
  counts_len = (c.requires.ready.long.counts, c.requires.ready.long.stack);
  walks = visit-walks c.requires.cells.valid c.requires.cells.few c.requires.top_nonzero c.requires.ready _
      (sym (ap gate_ins c.gate_pins-run.ensures ∙ c.requires.cells.inputs _ ((let known : (c.args.place.top ≤ length c.args.order.now) × (top_gate c.args.stack.now c.args.place.top < length c.args.order.now)
      × (length c.args.order.now ≤ max_gates) = (top-few c.requires.cells.valid c.requires.cells.few c.requires.top_nonzero c.requires.ready, v_below c.requires.cells.valid c.requires.cells.few c.requires.top_nonzero c.requires.ready, c.requires.cells.few) in known)).1)) c.if-marks-v-ne0.false;
}

pub returns : goal.returns
returns c = record {
  visited = rw c.narrow.ensures
      (visited-comb c.requires.cells.valid c.requires.cells.few c.requires.top_nonzero c.requires.ready c.gate_pins-run.result.now _ _ _
      (sym (ap gate_ins c.gate_pins-run.ensures ∙ c.requires.cells.inputs _ ((let known : (c.args.place.top ≤ length c.args.order.now) × (top_gate c.args.stack.now c.args.place.top < length c.args.order.now)
      × (length c.args.order.now ≤ max_gates) = (top-few c.requires.cells.valid c.requires.cells.few c.requires.top_nonzero c.requires.ready, v_below c.requires.cells.valid c.requires.cells.few c.requires.top_nonzero c.requires.ready, c.requires.cells.few) in known)).1)) c.if-marks-v-ne0.false c.lower_uses-new_top.ensures.lowered);
  within_2 = within-rises (omega arith) c.requires.within c.lower_uses-new_top.ensures.rises;
}
