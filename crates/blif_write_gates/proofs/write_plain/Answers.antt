-- `write_plain` writes its four parts. Assumes nothing.
use Rattle.blif_write_names.proofs.Laws.{and-append, as-text, from_start}
use Rattle.blif_write_gates.proofs.Texts.{plain-text}
use Rattle.blif_write_gates.proofs.write_plain.Goals as goal

pub returns : goal.returns
returns c = from_start (as-text (plain-text _ _ c.args.start) (and-append (and-append (and-append
    c.append-at.ensures c.append_name-at.ensures) c.append_gate-at.ensures) c.append_start.ensures))
