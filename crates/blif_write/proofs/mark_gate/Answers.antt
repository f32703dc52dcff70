-- `mark_gate` marks the run of pins unless the form is a buffer's. Assumes nothing.
use native.Mathlib.Omega.{arith}
use Rattle.blif_write_inverters.proofs.Marking.{marked-none, as-marked}
use Rattle.blif_write.proofs.Told.{held-run, names-none, run-marked}
use Rattle.blif_write.proofs.mark_gate.Goals as goal

pub form_at-requires : goal.form_at-requires
form_at-requires c = (held-run c.requires).cells

pub returns-then-form_at-eq-BUF : goal.returns-then-form_at-eq-BUF
returns-then-form_at-eq-BUF c = as-marked (names-none c.requires c.form_at.ensures c.if-form_at-eq-BUF.true) marked-none

pub first_at-first-requires : goal.first_at-first-requires
first_at-first-requires c = (held-run c.requires).cells

pub count_at-requires : goal.count_at-requires
count_at-requires c = (held-run c.requires).cells

pub slice_bounds-mark_signals-end : goal.slice_bounds-mark_signals-end
slice_bounds-mark_signals-end c = omega (arith, (held-run (c.requires)).within, c.first_at-first.ensures.cell, c.count_at.ensures.cell)

pub returns : goal.returns
returns c = run-marked (c.requires) c.form_at.ensures c.if-form_at-eq-BUF.false c.first_at-first.ensures c.count_at.ensures c.mark_signals.ensures
