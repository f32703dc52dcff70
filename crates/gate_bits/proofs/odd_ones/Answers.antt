-- `odd_ones` turns its answer over at each pin that is one. Assumes nothing.
use mathlib.Core.Path.{◌∙◌}
use Rattle.gate_bits.proofs.PinBits.{differ-invert_if, odd-single, odd-joins, made-next}
use Rattle.gate_bits.proofs.odd_ones.Goals as goal

pub loop-pin-preserved : goal.loop-pin-preserved
loop-pin-preserved c = let loop = c.loop-pin in
    made-next odd-joins loop.invariant c.loop-pin-test.true
    (c.signal_bit-found.ensures ∙ odd-single _) (differ-invert_if loop.found c.signal_bit-found.result)
