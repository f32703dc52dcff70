-- `append_four` writes one digit after the other. Assumes nothing.
use Rattle.blif_write_names.proofs.Laws.{and-append}
use Rattle.blif_write_names.proofs.append_four.Goals as goal

pub returns : goal.returns
returns c = and-append (and-append (and-append c.append_digit-end.ensures c.append_digit-end-2.ensures) c.append_digit-end-3.ensures) c.append_digit.ensures
