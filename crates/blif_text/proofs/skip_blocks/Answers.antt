-- `skip_blocks` passes one block after the other. Assumes nothing.
use mathlib.Core.Path.{sym, ◌∙◌}
use native.Mathlib.Omega.{arith}
use Rattle.blif_text.proofs.Loops.{none-block}
use Rattle.blif_text.proofs.skip_blocks.Goals as goal

pub loop-i-preserved : goal.loop-i-preserved
loop-i-preserved c = none-block c.loop-i.invariant 32 (omega (arith, c.loop-i-test.true)) (sym c.has_line_end.ensures ∙ c.if-has_line_end.false)
