-- `append_byte` writes its byte where there is room. Assumes nothing.
use Rattle.blif_write_names.proofs.Laws.{append-end, append-one}
use Rattle.blif_write_names.proofs.append_byte.Goals as goal

pub returns-then-at-out : goal.returns-then-at-out
returns-then-at-out c = append-one c.if-at-out.true

pub returns-else-at-out : goal.returns-else-at-out
returns-else-at-out c = append-end c.if-at-out.false
