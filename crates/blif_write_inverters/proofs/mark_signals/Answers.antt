-- `mark_signals` marks one signal after the other. Assumes nothing.
use mathlib.Core.Path.{ap}
use mathlib.Core.List.{map}
use Rattle.lists.proofs.Places.{drop-next}
use Rattle.signal.specs.Cell.{sig_of}
use Rattle.blif_write_inverters.proofs.Marking.{marking-next}
use Rattle.blif_write_inverters.proofs.mark_signals.Goals as goal

pub loop-cell-preserved : goal.loop-cell-preserved
loop-cell-preserved c = marking-next c.loop-cell.invariant (ap (map sig_of) (drop-next _ _ 0 c.loop-cell-test.true)) c.mark_signal.ensures
