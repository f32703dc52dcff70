-- `append_digit` writes a digit unless the number is zero. Assumes nothing.
use Rattle.blif_write_names.proofs.Laws.{append-past, append-none, as-text}
use Rattle.blif_write_names.proofs.Numbers.{digit-none}
use Rattle.blif_write_names.proofs.append_digit.Goals as goal

pub returns-then-at-out : goal.returns-then-at-out
returns-then-at-out c = append-past c.if-at-out.true

pub returns-then-n-eq0 : goal.returns-then-n-eq0
returns-then-n-eq0 c = as-text (digit-none c.args.n c.if-n-eq0.true) (append-none c.if-at-out.false)
