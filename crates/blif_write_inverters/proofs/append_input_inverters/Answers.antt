-- `append_input_inverters` passes one input after the other, the last first. Assumes nothing.
use native.Mathlib.Omega.{arith}
use Rattle.blif_write_names.proofs.Laws.{append-past}
use Rattle.blif_write_names.proofs.Parts.{going-full}
use Rattle.blif_write_gates.proofs.Texts.{input-signal}
use Rattle.blif_write_inverters.proofs.Inverters.{made-inverter, inputs-start, inputs-next}
use Rattle.blif_write_inverters.proofs.append_input_inverters.Goals as goal

pub returns-then-at-out : goal.returns-then-at-out
returns-then-at-out c = append-past c.if-at-out.true

pub loop-i-init : goal.loop-i-init
loop-i-init c = inputs-start c.if-at-out.false

pub returns-then-end-out : goal.returns-then-end-out
returns-then-end-out c = going-full c.loop-i.invariant.going c.if-end-out.true

pub loop-i-preserved : goal.loop-i-preserved
loop-i-preserved c = inputs-next c.loop-i.invariant c.loop-i-test.true c.if-end-out.false (made-inverter (input-signal _ _ (omega (arith, c.loop-i-test.true, c.requires.0, c.loop-i.invariant.within)) c.from_input.ensures) _ c.write_inverter-end.ensures)
