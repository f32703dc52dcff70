-- `write_buf` writes the name, the gate and the line. Assumes nothing.
use native.Mathlib.Omega.{arith}
use mathlib.Core.Path.{sym, ◌∙◌}
use Rattle.signal.specs.Cell.{sig_of}
use Rattle.blif_write_names.proofs.Laws.{and-append, as-text, from_start}
use Rattle.blif_write_gates.proofs.Texts.{bare-signal, buf-text, buf-inverted, buf-plain}
use Rattle.blif_write_gates.proofs.write_buf.Goals as goal

pub returns-then-is_inverted : goal.returns-then-is_inverted
returns-then-is_inverted c = from_start (as-text (buf-text (sig_of c.args.s.a) c.args.g (bare-signal c.without_inversion.result.a c.args.s.a (omega (arith, c.well_formed)) c.without_inversion.ensures) (buf-inverted (sig_of c.args.s.a) (sym c.is_inverted.ensures ∙ c.if-is_inverted.true))) (and-append (and-append (and-append c.append-at.ensures c.append_name-at.ensures) c.append_end-at.ensures) c.append.ensures))

pub returns-else-is_inverted : goal.returns-else-is_inverted
returns-else-is_inverted c = from_start (as-text (buf-text (sig_of c.args.s.a) c.args.g (bare-signal c.without_inversion.result.a c.args.s.a (omega (arith, c.well_formed)) c.without_inversion.ensures) (buf-plain (sig_of c.args.s.a) (sym c.is_inverted.ensures ∙ c.if-is_inverted.false))) (and-append (and-append (and-append c.append-at.ensures c.append_name-at.ensures) c.append_end-at.ensures) c.append-else-is_inverted.ensures))
