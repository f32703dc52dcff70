-- `append_end` writes the name and the line's end. Assumes nothing.
use Rattle.blif_writing.specs.Names.{name_bytes}
use Rattle.blif_writing.specs.WrittenModel.{gate_name}
use Rattle.blif_write_names.proofs.Laws.{and-append, as-text}
use Rattle.blif_write_gates.proofs.Texts.{end-text}
use Rattle.blif_write_gates.proofs.append_end.Goals as goal

pub returns : goal.returns
returns c = as-text (end-text (gate_name name_bytes c.args.g)) (and-append c.append_gate-end.ensures c.append.ensures)
