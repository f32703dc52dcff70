-- `keyword_of` looks at the first byte, then tries one keyword after the other. Assumes nothing.
use mathlib.Core.Path.{sym, ◌∙◌}
use native.Mathlib.Omega.{arith}
use Rattle.blif_text.proofs.KeywordLaws.{is_name, tried, dot-first, no-dot-first}
use Rattle.blif_text.proofs.keyword_of.Goals as goal

pub returns-then-not-has_leading_dot : goal.returns-then-not-has_leading_dot
returns-then-not-has_leading_dot c = sym (no-dot-first c.args.token.now (sym c.has_leading_dot.ensures ∙ c.if-not-has_leading_dot.true))

pub returns-then-equal : goal.returns-then-equal
returns-then-equal c = is_name 0 (omega arith) (search tried depth 9) c.equal.ensures c.if-equal.true

pub returns-then-equal-2 : goal.returns-then-equal-2
returns-then-equal-2 c = is_name 1 (omega arith) (search tried depth 9) c.equal-else-equal.ensures c.if-equal-2.true

pub returns-then-equal-3 : goal.returns-then-equal-3
returns-then-equal-3 c = is_name 2 (omega arith) (search tried depth 9) c.equal-else-equal-2.ensures c.if-equal-3.true

pub returns-then-equal-4 : goal.returns-then-equal-4
returns-then-equal-4 c = is_name 3 (omega arith) (search tried depth 9) c.equal-else-equal-3.ensures c.if-equal-4.true

pub returns-then-equal-5 : goal.returns-then-equal-5
returns-then-equal-5 c = is_name 4 (omega arith) (search tried depth 9) c.equal-else-equal-4.ensures c.if-equal-5.true

pub returns-then-equal-6 : goal.returns-then-equal-6
returns-then-equal-6 c = is_name 5 (omega arith) (search tried depth 9) c.equal-else-equal-5.ensures c.if-equal-6.true

pub returns-then-equal-7 : goal.returns-then-equal-7
returns-then-equal-7 c = is_name 6 (omega arith) (search tried depth 9) c.equal-else-equal-6.ensures c.if-equal-7.true

pub returns-else-equal-7 : goal.returns-else-equal-7
returns-else-equal-7 c = dot-first (search tried depth 9) c.equal-else-equal-6.ensures c.if-equal-7.false (sym c.has_leading_dot.ensures ∙ c.if-not-has_leading_dot.false)
