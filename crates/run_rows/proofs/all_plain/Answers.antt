-- `all_plain` tests one gate after the other. Assumes nothing.
use mathlib.Core.Path.{sym, ◌∙◌}
use Rattle.lists.specs.Lists.{range}
use Rattle.lists.proofs.Range.{all_map, to-next, to-fails, to-done}
use Rattle.gates.specs.Gate.{is_plain}
use Rattle.network.proofs.FittingRecords.{held_at}
use Rattle.run_rows.proofs.all_plain.Goals as goal

pub is_plain-requires : goal.is_plain-requires
is_plain-requires c = (_, _, c.requires.1.each _ c.loop-g-test.true)

pub returns-then-not-is_plain : goal.returns-then-not-is_plain
returns-then-not-is_plain c = to-fails c.loop-g.invariant c.loop-g-test.true (sym c.is_plain.ensures ∙ c.if-not-is_plain.true)
    ∙ sym (all_map is_plain (held_at c.args.gates.now c.args.pins.now) (range 0 c.args.n))

pub loop-g-preserved : goal.loop-g-preserved
loop-g-preserved c = to-next c.loop-g.invariant c.loop-g-test.true (sym c.is_plain.ensures ∙ c.if-not-is_plain.false)

pub returns : goal.returns
returns c = to-done c.loop-g.invariant c.loop-g-test.false
    ∙ sym (all_map is_plain (held_at c.args.gates.now c.args.pins.now) (range 0 c.args.n))
