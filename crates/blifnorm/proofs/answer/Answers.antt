-- `answer` leaves the text, or the refusal's line. Assumes nothing.
use Rattle.blifnorm.proofs.Printing.{prints-text, prints-line}
use Rattle.blif_write_names.proofs.Laws.{from_start}
use Rattle.blifnorm.proofs.answer.Goals as goal

pub returns-in-Ok : goal.returns-in-Ok
returns-in-Ok c = prints-text _ _ _ c.normalise.ensures c.in-Ok.is

pub returns-in-Err : goal.returns-in-Err
returns-in-Err c = prints-line _ _ _ c.normalise.ensures c.in-Err.is (from_start c.append_refused.ensures)
