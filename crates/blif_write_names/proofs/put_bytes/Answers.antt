-- `put_bytes` copies what there is room for. Assumes nothing.
use Rattle.blif_write_names.proofs.Laws.{wrote-cut}
use Rattle.blif_write_names.proofs.put_bytes.Goals as goal

pub returns-then-bytes-room : goal.returns-then-bytes-room
returns-then-bytes-room c = wrote-cut c.if-bytes-room.true c.copy.ensures
