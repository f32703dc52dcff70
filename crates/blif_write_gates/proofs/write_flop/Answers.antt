-- `write_flop` writes its six parts. Assumes nothing.
use Rattle.blif_write_names.proofs.Laws.{and-append, as-text, from_start}
use Rattle.blif_write_gates.proofs.Texts.{flop-text}
use Rattle.blif_write_gates.proofs.write_flop.Goals as goal

pub returns : goal.returns
returns c = from_start (as-text (flop-text _ _ _ _ _) (and-append (and-append (and-append (and-append (and-append
    c.append_name-at.ensures c.append_gate-at.ensures) c.append_start-at.ensures) c.append_unless-at.ensures) c.append_unless-at-2.ensures) c.append.ensures))
