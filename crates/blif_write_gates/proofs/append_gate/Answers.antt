-- `append_gate` writes the name of a gate: its letter, its number and no inversion. Assumes nothing.
use Rattle.blif_write_names.proofs.Laws.{and-append}
use Rattle.blif_write_gates.proofs.append_gate.Goals as goal

pub returns : goal.returns
returns c = and-append c.append-next.ensures c.append_numbered.ensures
