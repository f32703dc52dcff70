-- `put_report` writes four lines. Assumes nothing.
use Rattle.blif_write_names.proofs.Laws.{and-append, from_start}
use Rattle.pass_report.proofs.put_report.Goals as goal

pub returns : goal.returns
returns c = from_start (and-append (and-append (and-append c.append_line-at.ensures c.append_count-at.ensures) c.append_count-at-2.ensures) c.append_count.ensures)
