-- `write_ternary` writes the names, the gate and the lines. Assumes nothing.
use mathlib.Core.List.{[], ◌∷◌}
use Rattle.signal.specs.Cell.{sig_of}
use Rattle.blif_writing.specs.Names.{name_bytes}
use Rattle.blif_writing.specs.WrittenModel.{gate_name}
use Rattle.gates.specs.Between.Forms.{ternary_form}
use Rattle.blif_writing.specs.WrittenModel.{lines_of}
use Rattle.blif_write_names.proofs.Laws.{and-append, as-text, from_start}
use Rattle.blif_write_gates.proofs.Texts.{names-then, three-names}
use Rattle.blif_write_gates.proofs.write_ternary.Goals as goal

pub returns : goal.returns
returns c = from_start (as-text (names-then (name_bytes (sig_of c.args.a.a) ∷ name_bytes (sig_of c.args.b.a) ∷ name_bytes (sig_of c.args.c.a) ∷ []) (gate_name name_bytes c.args.g) (lines_of (ternary_form c.args.t) 3) (three-names (name_bytes (sig_of c.args.a.a)) (name_bytes (sig_of c.args.b.a)) (name_bytes (sig_of c.args.c.a)))) (and-append (and-append (and-append (and-append (and-append c.append-at.ensures c.append_name-at.ensures) c.append_name-at-2.ensures) c.append_name-at-3.ensures) c.append_end-at.ensures) c.append_ternary_lines.ensures))
