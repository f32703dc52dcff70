-- `start_gate` pushes one gate, if it is neither marked nor used. Assumes nothing.
use native.Mathlib.Omega.{arith}
use Rattle.sort.proofs.Starting.{started-push}
use Rattle.sort.proofs.start_gate.Goals as goal

pub returns-then-counts-g-eq0 : goal.returns-then-counts-g-eq0
returns-then-counts-g-eq0 c = rw c.narrow.ensures (started-push c.if-marks-g-eq0.true c.if-counts-g-eq0.true (omega arith) c.requires.started)
