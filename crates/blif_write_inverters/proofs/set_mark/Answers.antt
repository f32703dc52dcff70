-- `set_mark` sets a mark or none. Assumes nothing.
use mathlib.Core.Path.{sym}
use lib.Seq.{set_out}
use Rattle.blif_write_inverters.proofs.set_mark.Goals as goal

pub returns-else-place-marks : goal.returns-else-place-marks
returns-else-place-marks c = sym (set_out c.args.marks.now c.args.number 1 c.if-place-marks.false)
