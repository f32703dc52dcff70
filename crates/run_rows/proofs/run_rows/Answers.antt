-- `run_rows` refuses by the layout, by the order of gates, by the flip-flops, then by the rows. Assumes nothing.
use mathlib.Core.Path.{sym, ◌∙◌}
use native.Mathlib.Omega.{arith}
use Rattle.network.specs.Cells.{Words, net_of, lent}
use Rattle.network.proofs.Lent.{network-cells, network-sizes}
use Rattle.run_rows.proofs.Outcomes.{refused-is, not-network, not-sorted, not_plain, runs_on, lent-runnable}
use Rattle.run_rows.proofs.run_rows.Goals as goal

pub returns-then-not-check_layout : goal.returns-then-not-check_layout
returns-then-not-check_layout c = refused-is c.refuse.ensures ∙ not-network _ c.args.rows.now _ (sym c.check_layout.ensures ∙ c.if-not-check_layout.true)

pub is_topo_sorted-requires : goal.is_topo_sorted-requires
is_topo_sorted-requires c = network-cells ((lent c.args.counts c.args.gates.now c.args.pins.now c.args.outputs.now)) ((let words : Words ((lent c.args.counts c.args.gates.now c.args.pins.now c.args.outputs.now)) = record {
  pin_words = λ i. omega (arith, c.type_inv.pins i);
  out_words = λ i. omega (arith, c.type_inv.outputs i);
} in words)) ((sym c.check_layout.ensures ∙ c.if-not-check_layout.false))

pub returns-then-not-is_topo_sorted : goal.returns-then-not-is_topo_sorted
unfolding net_of
returns-then-not-is_topo_sorted c = refused-is c.refuse-then-not-is_topo_sorted.ensures
    ∙ not-sorted ((lent c.args.counts c.args.gates.now c.args.pins.now c.args.outputs.now)) c.args.rows.now _ ((sym c.check_layout.ensures ∙ c.if-not-check_layout.false)) (sym c.is_topo_sorted.ensures ∙ c.if-not-is_topo_sorted.true)

pub all_plain-requires : goal.all_plain-requires
all_plain-requires c = (
  _,
  network-cells ((lent c.args.counts c.args.gates.now c.args.pins.now c.args.outputs.now)) ((let words : Words ((lent c.args.counts c.args.gates.now c.args.pins.now c.args.outputs.now)) = record {
    pin_words = λ i. omega (arith, c.type_inv.pins i);
    out_words = λ i. omega (arith, c.type_inv.outputs i);
  } in words)) ((sym c.check_layout.ensures ∙ c.if-not-check_layout.false)),
)

pub returns-then-not-all_plain : goal.returns-then-not-all_plain
unfolding net_of
returns-then-not-all_plain c = refused-is c.refuse-then-not-all_plain.ensures
    ∙ not_plain ((lent c.args.counts c.args.gates.now c.args.pins.now c.args.outputs.now)) c.args.rows.now _ ((sym c.check_layout.ensures ∙ c.if-not-check_layout.false)) ((sym c.is_topo_sorted.ensures ∙ c.if-not-is_topo_sorted.false)) (sym c.all_plain.ensures ∙ c.if-not-all_plain.true)

pub run_fitting-requires : goal.run_fitting-requires
unfolding net_of
run_fitting-requires c = record {
  outputs_in_bounds = (network-sizes ((lent c.args.counts c.args.gates.now c.args.pins.now c.args.outputs.now)) ((sym c.check_layout.ensures ∙ c.if-not-check_layout.false))).outs-lent;
  runnable = lent-runnable ((lent c.args.counts c.args.gates.now c.args.pins.now c.args.outputs.now)) ((let words : Words ((lent c.args.counts c.args.gates.now c.args.pins.now c.args.outputs.now)) = record {
    pin_words = λ i. omega (arith, c.type_inv.pins i);
    out_words = λ i. omega (arith, c.type_inv.outputs i);
  } in words)) ((sym c.check_layout.ensures ∙ c.if-not-check_layout.false)) ((sym c.is_topo_sorted.ensures ∙ c.if-not-is_topo_sorted.false)) ((sym c.all_plain.ensures ∙ c.if-not-all_plain.false));
}

pub returns : goal.returns
unfolding net_of
returns c = c.run_fitting.ensures ∙ runs_on ((lent c.args.counts c.args.gates.now c.args.pins.now c.args.outputs.now)) c.args.rows.now _ ((sym c.check_layout.ensures ∙ c.if-not-check_layout.false)) ((sym c.is_topo_sorted.ensures ∙ c.if-not-is_topo_sorted.false)) ((sym c.all_plain.ensures ∙ c.if-not-all_plain.false))
