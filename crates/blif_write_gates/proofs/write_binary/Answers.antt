-- `write_binary` writes the names, the gate and the lines. Assumes nothing.
use mathlib.Core.List.{[], ◌∷◌}
use Rattle.signal.specs.Cell.{sig_of}
use Rattle.blif_writing.specs.Names.{name_bytes}
use Rattle.blif_writing.specs.WrittenModel.{gate_name}
use Rattle.gates.specs.Between.Forms.{binary_form}
use Rattle.blif_writing.specs.WrittenModel.{lines_of}
use Rattle.blif_write_names.proofs.Laws.{and-append, as-text, from_start}
use Rattle.blif_write_gates.proofs.Texts.{names-then, two-names}
use Rattle.blif_write_gates.proofs.write_binary.Goals as goal

pub returns : goal.returns
returns c = from_start (as-text (names-then (name_bytes (sig_of c.args.a.a) ∷ name_bytes (sig_of c.args.b.a) ∷ []) (gate_name name_bytes c.args.g) (lines_of (binary_form c.args.t) 2) (two-names (name_bytes (sig_of c.args.a.a)) (name_bytes (sig_of c.args.b.a)))) (and-append (and-append (and-append (and-append c.append-at.ensures c.append_name-at.ensures) c.append_name-at-2.ensures) c.append_end-at.ensures) c.append_binary_lines.ensures))
