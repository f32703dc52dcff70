-- `is_topo_sorted` tests one gate after the other. Assumes nothing.
use mathlib.Core.Path.{sym, ◌∙◌}
use native.Mathlib.Omega.{arith}
use Rattle.lists.proofs.Range.{to_start, to-next, to-fails, to-done}
use Rattle.network.proofs.FittingRecords.{held_at}
use Rattle.network.proofs.TopoSorted.{sorted-range}
use Rattle.network.proofs.is_topo_sorted.Goals as goal

pub loop-g-init : goal.loop-g-init
loop-g-init c = to_start

pub inputs_lower-requires : goal.inputs_lower-requires
inputs_lower-requires c = let pre = c.requires in
    (_, pre.each _ c.loop-g-test.true, record { few_inputs = pre.few_inputs; few_gates = omega (arith, pre.few_gates) })

pub returns-then-not-inputs_lower : goal.returns-then-not-inputs_lower
returns-then-not-inputs_lower c = let a = c.args in
    to-fails c.loop-g.invariant c.loop-g-test.true (sym c.inputs_lower.ensures ∙ c.if-not-inputs_lower.true)
    ∙ sym (sorted-range (held_at a.gates.now a.pins.now) 0 a.n)

pub loop-g-preserved : goal.loop-g-preserved
loop-g-preserved c = to-next c.loop-g.invariant c.loop-g-test.true (sym c.inputs_lower.ensures ∙ c.if-not-inputs_lower.false)

pub returns : goal.returns
returns c = let a = c.args in
    to-done c.loop-g.invariant c.loop-g-test.false
    ∙ sym (sorted-range (held_at a.gates.now a.pins.now) 0 a.n)
