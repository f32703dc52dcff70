-- `write_latch_at` reads the gate where its form is the flip-flop's. Assumes nothing.
use mathlib.Core.Path.{◌∙◌, ap}
use Rattle.blif_write_names.proofs.Laws.{as-wrote, wrote_nothing}
use Rattle.blif_write.specs.Between.Parts.{latch_text}
use Rattle.blif_write.proofs.Walks.{read-bad, read-good, latch-any}
use Rattle.blif_write.proofs.Told.{held-run, latch-none}
use Rattle.blif_write.proofs.write_latch_at.Goals as goal

pub form_at-requires : goal.form_at-requires
form_at-requires c = (held-run c.requires).cells

pub returns-then-form_at-ne-DFF : goal.returns-then-form_at-ne-DFF
returns-then-form_at-ne-DFF c = as-wrote (latch-none c.requires c.form_at.ensures c.if-form_at-ne-DFF.true) wrote_nothing

pub returns-in_default : goal.returns-in_default
returns-in_default c = absurd (read-bad (c.requires) c.gate_at.ensures c.in_default.is)

pub returns : goal.returns
returns c = as-wrote (latch-any c.args.g c.in-Some.gate c.args.pins.now ∙ ap (latch_text c.args.g) (read-good c.args.gates.now c.args.pins.now c.args.g c.gate_at.ensures c.in-Some.is)) c.write_latch.ensures
