-- `append_inputs` writes one name after the other. Assumes nothing.
use native.Mathlib.Omega.{arith}
use mathlib.Core.Path.{ap}
use mathlib.Core.List.{◌∷◌}
use Rattle.signal.specs.Signal.{Signal}
use Rattle.blif_writing.specs.Names.{name_bytes}
use Rattle.blif_write_names.proofs.Laws.{append-past, as-text}
use Rattle.blif_write_names.proofs.Parts.{going-full, before-start, before-next, before-done}
use Rattle.blif_write_gates.proofs.Texts.{input-signal}
use Rattle.blif_write.proofs.Heads.{input-parts}
use Rattle.blif_write.proofs.append_inputs.Goals as goal

pub returns-then-at-out : goal.returns-then-at-out
returns-then-at-out c = append-past c.if-at-out.true

pub loop-i-init : goal.loop-i-init
loop-i-init c = before-start c.if-at-out.false

pub returns-then-end-out : goal.returns-then-end-out
returns-then-end-out c = going-full c.loop-i.invariant.going c.if-end-out.true

pub loop-i-preserved : goal.loop-i-preserved
loop-i-preserved c = before-next (input-parts _) c.loop-i.invariant c.loop-i-test.true (as-text (ap (λ (x : Signal). 32 ∷ name_bytes x) (input-signal _ _ (omega (arith, c.loop-i-test.true, c.requires)) c.from_input.ensures)) c.append_name-end.ensures)

pub returns : goal.returns
returns c = before-done (input-parts _) c.loop-i.invariant c.loop-i-test.false
