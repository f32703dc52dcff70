-- `any_one` looks at one part after the other, until one has such a bit. Assumes nothing.
use native.Mathlib.Omega.{arith}
use Rattle.gate_bits.proofs.PinBits.{any-joins, made-part, made_found}
use Rattle.gate_bits.proofs.any_one.Goals as goal

pub returns-then-any_in : goal.returns-then-any_in
returns-then-any_in c = made_found _ (rw c.if-any_in.true at ((made-part (any-joins _) c.loop-at.invariant (omega (arith, c.part_end-end.ensures)) (omega (arith, c.part_end-end.ensures)) c.any_in.ensures)))

pub loop-at-preserved : goal.loop-at-preserved
loop-at-preserved c = rw c.if-any_in.false at ((made-part (any-joins _) c.loop-at.invariant (omega (arith, c.part_end-end.ensures)) (omega (arith, c.part_end-end.ensures)) c.any_in.ensures))
