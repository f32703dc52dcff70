-- `records_fit` keeps the pin at which the runs so far end. Assumes nothing.
use mathlib.Core.Path.{sym, ◌∙◌}
use Rattle.network.proofs.Records.{following-next, following-fails, following-ends}
use Rattle.network.proofs.records_fit.Goals as goal

pub returns-then-not-record_fits : goal.returns-then-not-record_fits
returns-then-not-record_fits c = following-fails c.loop-g.invariant _ c.loop-g-test.true (sym c.record_fits.ensures ∙ c.if-not-record_fits.true)

pub loop-g-preserved : goal.loop-g-preserved
loop-g-preserved c = following-next c.loop-g.invariant c.loop-g-test.true
    (sym c.record_fits.ensures ∙ c.if-not-record_fits.false) c.count_at-at.ensures

pub returns : goal.returns
returns c = following-ends c.loop-g.invariant _ c.loop-g-test.false
