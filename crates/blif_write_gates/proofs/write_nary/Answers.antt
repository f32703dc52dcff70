-- `write_nary` writes the names, the gate and the lines. Assumes nothing.
use Rattle.blif_write_names.proofs.Laws.{and-append, as-text, from_start}
use Rattle.blif_write_gates.proofs.Texts.{nary-text}
use Rattle.blif_write_gates.proofs.write_nary.Goals as goal

pub returns : goal.returns
returns c = from_start (as-text (nary-text c.args.t c.args.run.now c.args.g) (and-append (and-append (and-append c.append-at.ensures c.append_signals-at.ensures) c.append_end-at.ensures) c.append_nary_lines.ensures))
