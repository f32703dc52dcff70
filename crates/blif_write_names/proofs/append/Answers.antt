-- `append` writes into what is left. Assumes nothing.
use Rattle.blif_write_names.proofs.Laws.{append-past, append-room}
use Rattle.blif_write_names.proofs.append.Goals as goal

pub returns-then-at-out : goal.returns-then-at-out
returns-then-at-out c = append-past c.if-at-out.true

pub returns-else-at-out : goal.returns-else-at-out
returns-else-at-out c = append-room c.if-at-out.false c.put_bytes.ensures
