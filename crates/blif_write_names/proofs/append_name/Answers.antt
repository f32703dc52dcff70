-- `append_name` writes the name behind what stands before it. Assumes nothing.
use Rattle.blif_write_names.proofs.Laws.{and-append}
use Rattle.blif_write_names.proofs.append_name.Goals as goal

pub returns : goal.returns
returns c = and-append c.append-next.ensures c.sig_to_string.ensures
