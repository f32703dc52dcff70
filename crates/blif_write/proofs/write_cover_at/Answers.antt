-- `write_cover_at` reads the gate unless its form is the flip-flop's. Assumes nothing.
use mathlib.Core.Path.{◌∙◌, ap}
use Rattle.network.proofs.GateRead.{decoded-within}
use Rattle.blif_write_names.proofs.Laws.{as-wrote, wrote_nothing}
use Rattle.blif_writing.specs.WrittenModel.{wide}
use Rattle.blif_write.specs.Between.Parts.{cover_text}
use Rattle.blif_write.proofs.Walks.{read-bad, read-good}
use Rattle.blif_write.proofs.Told.{held-run, cover-none}
use Rattle.blif_write.proofs.write_cover_at.Goals as goal

pub form_at-requires : goal.form_at-requires
form_at-requires c = (held-run c.requires.0).cells

pub returns-then-form_at-eq-DFF : goal.returns-then-form_at-eq-DFF
returns-then-form_at-eq-DFF c = as-wrote (cover-none c.requires.0 c.form_at.ensures c.if-form_at-eq-DFF.true) wrote_nothing

pub returns-in_default : goal.returns-in_default
returns-in_default c = absurd (read-bad c.requires.0 c.gate_at.ensures c.in_default.is)

pub write_cover-requires : goal.write_cover-requires
write_cover-requires c = (
  c.requires.0.low,
  decoded-within c.args.gates.now c.args.pins.now c.args.g c.gate_at.ensures c.in-Some.is,
  ap wide (read-good c.args.gates.now c.args.pins.now c.args.g c.gate_at.ensures c.in-Some.is) ∙ c.requires.1,
)

pub returns : goal.returns
returns c = as-wrote (ap (cover_text c.args.g) (read-good c.args.gates.now c.args.pins.now c.args.g c.gate_at.ensures c.in-Some.is)) c.write_cover.ensures
