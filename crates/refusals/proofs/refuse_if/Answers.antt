-- `refuse_if` refuses where the test holds. Assumes nothing.
use Rattle.refusals.proofs.Order.{refuse_if-yes, refuse_if-no}
use Rattle.refusals.proofs.refuse_if.Goals as goal

-- `refuse_if` refuses where the test holds. Assumes nothing.
pub returns-then-test : goal.returns-then-test
returns-then-test c = refuse_if-yes _ c.if-test.true

pub returns : goal.returns
returns c = refuse_if-no _ c.if-test.false
