-- `is_plain` passes combinational gates, and looks at a flip-flop's enable and reset. Assumes nothing.
use mathlib.Core.Path.{sym, ◌∙◌}
use Rattle.run_rows.proofs.PlainFlops.{by-reset}
use Rattle.run_rows.proofs.is_plain.Goals as goal

pub returns-then-pins-first-eq1 : goal.returns-then-pins-first-eq1
returns-then-pins-first-eq1 c = by-reset c.requires.2 ((sym c.form_at.ensures ∙ c.if-form_at-eq-DFF.true)) c.first_at-first.ensures.cell c.if-pins-first-eq1.true
