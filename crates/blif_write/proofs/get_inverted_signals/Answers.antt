-- `get_inverted_signals` marks the outputs, and one gate after the other. Assumes nothing.
use mathlib.Core.Path.{ap}
use Rattle.lists.proofs.Laying.{front-all}
use Rattle.blif_write_inverters.specs.Between.Marks.{named_in}
use Rattle.blif_write_inverters.proofs.Marking.{marked-both, marking-next}
use Rattle.blif_write.proofs.Walks.{cells-next, cells-end}
use Rattle.blif_write.proofs.get_inverted_signals.Goals as goal

pub loop-g-preserved : goal.loop-g-preserved
loop-g-preserved c = marking-next c.loop-g.invariant (ap named_in (cells-next _ _ c.loop-g-test.true)) c.mark_gate.ensures

pub returns : goal.returns
returns c = marked-both c.mark_signals.ensures (front-all (ap named_in (cells-end _ _ c.loop-g-test.false)) c.loop-g.invariant)
