-- `gate_bit` looks into the gate's truth table, or at pin after pin. Assumes nothing.
use mathlib.Core.Path.{refl}
use native.Mathlib.Omega.{arith}
use Rattle.run_rows.proofs.GateBit.{six-slots, table_is}
use Rattle.run_rows.proofs.gate_bit.Goals as goal

pub table_bit-requires : goal.table_bit-requires
table_bit-requires c = six-slots c.requires refl

pub returns-else-count_at-gt-TABLE_INPUTS : goal.returns-else-count_at-gt-TABLE_INPUTS
returns-else-count_at-gt-TABLE_INPUTS c = table_is c.requires (omega (arith, c.count_at.ensures.cell))
    refl c.table_bit.ensures
