-- `append_numbered` writes a letter, the number and what marks an inversion. Assumes nothing.
use Rattle.blif_write_names.proofs.Laws.{and-append, as-text}
use Rattle.blif_write_names.proofs.Numbers.{invert-name, plain-name}
use Rattle.blif_write_names.proofs.append_numbered.Goals as goal

pub returns-then-inverted : goal.returns-then-inverted
returns-then-inverted c = as-text (invert-name c.args.letter c.args.n c.args.inverted c.if-inverted.true) (and-append (and-append c.append_byte-first.ensures c.append_number-end.ensures) c.append.ensures)

pub returns-else-inverted : goal.returns-else-inverted
returns-else-inverted c = as-text (plain-name c.args.letter c.args.n c.args.inverted c.if-inverted.false) (and-append c.append_byte-first.ensures c.append_number-end.ensures)
