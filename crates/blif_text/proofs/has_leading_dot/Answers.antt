-- `has_leading_dot` looks at the first byte. Assumes nothing.
use mathlib.Core.Path.{◌∙◌}
use Rattle.blif_text.proofs.KeywordLaws.{starts-dot}
use Rattle.blif_text.proofs.has_leading_dot.Goals as goal

pub returns : goal.returns
returns c = c.starts_with.ensures.value ∙ starts-dot c.args.token.now
