-- `work_out` works out one gate's bit after the other. Assumes nothing.
use mathlib.Core.Path.{sym, ◌∙◌}
use native.Mathlib.Omega.{arith}
use Rattle.run_rows.proofs.Working.{working-start, working-ready, working-comb, working-flop, working-done}
use Rattle.run_rows.proofs.work_out.Goals as goal
use Rattle.run_rows.proofs.work_out.Goals.{then-form_at-ne-DFF, else-form_at-ne-DFF}

pub loop-g-init : goal.loop-g-init
loop-g-init c = working-start c.requires

pub gate_bit-b-requires : goal.gate_bit-b-requires
gate_bit-b-requires c = working-ready c.requires c.loop-g.invariant c.loop-g-test.true
    (λ q. c.if-form_at-ne-DFF.true (c.form_at.ensures ∙ q))

pub loop-g-preserved : goal.loop-g-preserved
loop-g-preserved c =
    let inv = c.loop-g.invariant in
    elim c.if-form_at-ne-DFF.branch [
      | then-form_at-ne-DFF w ↦ rw (w.bits-is, w.put_bit.ensures) (working-comb c.requires inv c.loop-g-test.true (λ q. w.if-form_at-ne-DFF.true (c.form_at.ensures ∙ q)) w.gate_bit-b.ensures (omega arith))
      | else-form_at-ne-DFF w ↦ rw w.bits-is (working-flop c.requires inv c.loop-g-test.true (sym c.form_at.ensures ∙ w.if-form_at-ne-DFF.false))
    ]

pub returns : goal.returns
returns c = working-done c.requires c.loop-g-test.false c.loop-g.invariant
