-- `write_inverter` writes its four parts, or nothing. Assumes nothing.
use native.Mathlib.Omega.{arith}
use Rattle.signal.specs.Cell.{sig_of}
use Rattle.blif_write_names.proofs.Laws.{and-append, as-text, from_start, as-wrote, wrote_nothing}
use Rattle.blif_write_inverters.proofs.Inverters.{inverter-none, inverter-some}
use Rattle.blif_write_inverters.proofs.write_inverter.Goals as goal

pub returns-then-mark-eq0 : goal.returns-then-mark-eq0
returns-then-mark-eq0 c = as-wrote (inverter-none c.args.mark (sig_of c.args.s.a).node c.if-mark-eq0.true) wrote_nothing

pub returns-else-mark-eq0 : goal.returns-else-mark-eq0
returns-else-mark-eq0 c = from_start (as-text (inverter-some c.args.mark c.not.result.a c.args.s.a c.if-mark-eq0.false (omega (arith, c.well_formed)) (c.requires) c.not.ensures) (and-append (and-append (and-append c.append-at.ensures c.append_name-at.ensures) c.append_name-at-else-mark-eq0.ensures) c.append.ensures))
