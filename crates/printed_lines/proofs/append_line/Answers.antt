-- `append_line` writes a key, a value and LF. Assumes nothing.
use Rattle.printed_lines.proofs.Lines.{line-appended}
use Rattle.printed_lines.proofs.append_line.Goals as goal

pub returns : goal.returns
returns c = line-appended c.append-end.ensures c.append-end-2.ensures c.append.ensures
