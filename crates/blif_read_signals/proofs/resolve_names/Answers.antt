-- `resolve_names` finds one name after the other. Assumes nothing.
use native.Mathlib.Omega.{arith}
use Rattle.blif_read_signals.proofs.Resolving.{resolving-next, resolving-done}
use Rattle.blif_read_signals.proofs.resolve_names.Goals as goal

pub loop-i-preserved : goal.loop-i-preserved
loop-i-preserved c = resolving-next c.loop-i.invariant (omega arith)
    c.find_signal-s.ensures c.token.ensures c.if-s-eq0.false

pub returns : goal.returns
returns c = resolving-done c.loop-i.invariant (omega arith)
