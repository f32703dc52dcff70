-- `nary_bit` asks for a zero, for a one, or for an odd number of ones. Assumes nothing.
use Rattle.gate_bits.specs.Between.Slots.{pin_bits}
use Rattle.gate_bits.proofs.PinBits.{some-zero, no_zero}
use Rattle.gate_bits.proofs.nary_bit.Goals as goal

pub returns-in-And : goal.returns-in-And
returns-in-And c = let a = c.args in
    rw (c.in-And.is, c.any_one.ensures) (no_zero (pin_bits a.bits.now a.run.now))

pub returns-in-Nand : goal.returns-in-Nand
returns-in-Nand c = let a = c.args in
    rw (c.in-Nand.is, c.any_one-in-Nand.ensures) (some-zero (pin_bits a.bits.now a.run.now))
