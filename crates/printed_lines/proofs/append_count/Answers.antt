-- `append_count` writes a key, a number and LF. Assumes nothing.
use Rattle.printed_lines.proofs.Lines.{line-appended}
use Rattle.printed_lines.proofs.append_count.Goals as goal

pub returns : goal.returns
returns c = line-appended c.append-end.ensures c.append_number-end.ensures c.append.ensures
