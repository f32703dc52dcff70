-- `write_text` writes its six parts. Assumes nothing.
use Rattle.network.specs.Cells.{cell_net}
use Rattle.blif_write_names.proofs.Laws.{and-append, as-text, from_start, to_start}
use Rattle.blif_write.proofs.Whole.{whole-text}
use Rattle.blif_write.proofs.write_text.Goals as goal

pub returns : goal.returns
returns c = from_start (as-text (whole-text (cell_net c.args.inputs c.args.gates.now c.args.pins.now c.args.n c.args.outputs.now)) (and-append (and-append (and-append (and-append (and-append (to_start c.write_head-at.ensures) c.append_latches-at.ensures) c.append-at.ensures) c.append_covers-at.ensures) c.append_inverters-at.ensures) c.append.ensures))
