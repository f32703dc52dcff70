-- `append_number` writes the last four digits behind the others. Assumes nothing.
use native.Mathlib.Omega.{arith}
use Rattle.blif_write_names.proofs.Numbers.{number_digits}
use Rattle.blif_write_names.proofs.append_number.Goals as goal

pub returns-else-n-eq0 : goal.returns-else-n-eq0
returns-else-n-eq0 c = number_digits c.args.n (omega (arith, c.if-n-eq0.false)) c.append_upper-end.ensures c.append_four.ensures
