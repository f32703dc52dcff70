-- `pass_report` clears the output slice, writes the report, and clears all cells. Assumes nothing.
use mathlib.Core.Path.{ap, ◌∙◌}
use Rattle.lists.specs.Lists.{zeros}
use Rattle.pass_report.proofs.Reporting.{report-left}
use Rattle.pass_report.proofs.pass_report.Goals as goal

pub returns : goal.returns
returns c = report-left _ _ _ _ c.report-end.ensures c.fill_zero_bytes.ensures (c.fill_zero.ensures ∙ ap zeros c.report-end.auto.gates)
    (c.fill_zero-2.ensures ∙ ap zeros c.report-end.auto.pins) (c.fill_zero-3.ensures ∙ ap zeros c.report-end.auto.outputs)
    (c.fill_zero-4.ensures ∙ ap zeros c.report-end.auto.work_gates) (c.fill_zero-5.ensures ∙ ap zeros c.report-end.auto.work_pins)
