-- `answer` lends as many cells as reading wants. Assumes nothing.
use Rattle.passreport.proofs.Answering.{report-written}
use Rattle.passreport.proofs.answer.Goals as goal

pub returns : goal.returns
returns c = report-written _ _ _ c.pass_report.ensures
