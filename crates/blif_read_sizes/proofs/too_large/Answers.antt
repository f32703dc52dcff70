-- `too_large` counts one declaration after the other. Assumes nothing.
use mathlib.Core.Path.{sym, ◌∙◌}
use Rattle.blif_read_sizes.proofs.Counting.{counting-past, counting-next, counting-done}
use Rattle.blif_read_sizes.proofs.too_large.Goals as goal

pub returns-then-is_past : goal.returns-then-is_past
returns-then-is_past c = counting-past c.loop-at.invariant c.next_declaration-next.ensures c.count_declaration-sizes.ensures (sym c.is_past.ensures ∙ c.if-is_past.true)

pub loop-at-preserved : goal.loop-at-preserved
loop-at-preserved c = counting-next c.loop-at.invariant c.next_declaration-next.ensures c.count_declaration-sizes.ensures (sym c.is_past.ensures ∙ c.if-is_past.false)

pub returns : goal.returns
returns c = counting-done c.loop-at.invariant c.loop-at-test.false
