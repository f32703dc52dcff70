-- `gate_at` cuts the run out of the pins and decodes it. Assumes nothing.
use Rattle.network.proofs.Records.{bad-record, bad-run, gate-read}
use Rattle.network.proofs.gate_at.Goals as goal

pub returns-then-g-gates : goal.returns-then-g-gates
returns-then-g-gates c = bad-record _ _ _ c.if-g-gates.true

pub returns-then-end-pins : goal.returns-then-end-pins
returns-then-end-pins c = bad-run _ _ _ c.first_at-first.ensures c.count_at.ensures c.if-end-pins.true

pub returns : goal.returns
returns c = gate-read _ _ _ c.first_at-first.ensures c.count_at.ensures c.if-g-gates.false c.if-end-pins.false
    c.form_at.ensures c.kind_of.ensures c.start_at.ensures
    c.with_pins.ensures
