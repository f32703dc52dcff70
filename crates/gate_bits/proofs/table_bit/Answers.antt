-- `table_bit` takes the table's bit at the mask. Assumes nothing.
use native.Mathlib.Omega.{arith}
use Rattle.gate_bits.proofs.Masks.{six_low}
use Rattle.gate_bits.proofs.table_bit.Goals as goal

pub overflow_shr-result : goal.overflow_shr-result
overflow_shr-result c = omega (arith, six_low c.args.bits.now c.args.slots.now c.requires.six, c.mask_of-m.ensures)
