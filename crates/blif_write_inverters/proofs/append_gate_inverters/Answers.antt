-- `append_gate_inverters` passes one gate after the other. Assumes nothing.
use native.Mathlib.Omega.{arith}
use Rattle.blif_write_names.proofs.Laws.{append-past}
use Rattle.blif_write_names.proofs.Parts.{going-full, before-start, before-part}
use Rattle.blif_write_gates.proofs.Texts.{gate-signal}
use Rattle.blif_write_inverters.proofs.Inverters.{gate-parts, made-inverter}
use Rattle.blif_write_inverters.proofs.append_gate_inverters.Goals as goal

pub returns-then-at-out : goal.returns-then-at-out
returns-then-at-out c = append-past c.if-at-out.true

pub loop-g-init : goal.loop-g-init
loop-g-init c = before-start c.if-at-out.false

pub returns-then-end-out : goal.returns-then-end-out
returns-then-end-out c = going-full c.loop-g.invariant.going c.if-end-out.true

pub loop-g-preserved : goal.loop-g-preserved
loop-g-preserved c = before-part (gate-parts _ _) c.loop-g.invariant c.loop-g-test.true c.if-end-out.false (made-inverter (gate-signal _ _ (omega (arith, c.loop-g-test.true, c.requires.0)) c.from_var.ensures) _ c.write_inverter-end.ensures)
