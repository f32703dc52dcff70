-- `write_head` writes its eight parts. Assumes nothing.
use mathlib.Core.List.{map}
use Rattle.signal.specs.Cell.{sig_of}
use Rattle.blif_write_names.proofs.Laws.{and-append, as-text, from_start}
use Rattle.blif_write.proofs.Heads.{head-text}
use Rattle.blif_write.proofs.write_head.Goals as goal

pub returns : goal.returns
returns c = from_start (as-text (head-text c.args.inputs (map sig_of c.args.outputs.now)) (and-append (and-append (and-append (and-append (and-append (and-append (and-append c.append-at.ensures c.append-at-2.ensures) c.append-at-3.ensures) c.append-at-4.ensures) c.append_inputs-at.ensures) c.append-at-5.ensures) c.append_signals-at.ensures) c.append.ensures))
