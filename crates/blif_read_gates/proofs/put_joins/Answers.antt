-- `put_joins` writes one signal after the other. Assumes nothing.
use mathlib.Core.Path.{◌∙◌}
use native.Mathlib.Omega.{arith}
use Rattle.blif_read_gates.proofs.JoinLaws.{joining-next, joining-done}
use Rattle.blif_read_gates.proofs.put_joins.Goals as goal

pub loop-k-preserved : goal.loop-k-preserved
loop-k-preserved c = joining-next c.requires.1 (omega arith) (c.raw.ensures ∙ c.from_var.ensures) c.loop-k.invariant

pub returns : goal.returns
returns c = joining-done (omega arith) c.loop-k.invariant
