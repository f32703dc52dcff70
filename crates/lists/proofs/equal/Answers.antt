-- `equal` is `==`, which compares byte by byte. Assumes nothing.
use mathlib.Core.Path.{◌∙◌}
use Rattle.lists.proofs.Same.{compares-same}
use Rattle.lists.proofs.equal.Goals as goal

pub returns : goal.returns
returns c = c.eq.ensures ∙ compares-same c.args.a.now c.args.b.now
