-- `append_upper` writes four digits twice. Assumes nothing.
use native.Mathlib.Omega.{arith}
use mathlib.Core.Path.{◌≡◌}
use Prim.Native.Nat.{◌/◌}
use Rattle.blif_write_names.proofs.Laws.{append-past, append-none, as-text}
use Rattle.blif_write_names.proofs.Numbers.{leading-none, upper_digits}
use Rattle.blif_write_names.proofs.append_upper.Goals as goal

pub returns-then-at-out : goal.returns-then-at-out
returns-then-at-out c = append-past c.if-at-out.true

pub returns-then-n-lt10000 : goal.returns-then-n-lt10000
returns-then-n-lt10000 c = let z : c.args.n / 10000 ≡ 0 = omega (arith, c.if-n-lt10000.true) in as-text (leading-none (c.args.n / 10000) z) (append-none c.if-at-out.false)

pub returns-else-n-lt10000 : goal.returns-else-n-lt10000
returns-else-n-lt10000 c = upper_digits c.args.n (omega (arith, c.ranges.n)) c.append_four-end.ensures c.append_four.ensures
