-- `mark_flop` marks one gate, if it is a flip-flop. Assumes nothing.
use mathlib.Core.Path.{sym, ◌∙◌}
use native.Mathlib.Omega.{arith}
use Rattle.sort.proofs.Starting.{flopped-skip, flopped-mark}
use Rattle.sort.proofs.mark_flop.Goals as goal

pub returns-then-not-is_comb : goal.returns-then-not-is_comb
returns-then-not-is_comb c = λ o₀ h.
    rw c.narrow.ensures
    (flopped-mark _ (sym c.is_comb.ensures ∙ c.if-not-is_comb.true) (omega arith) (omega arith) h)

pub returns-else-not-is_comb : goal.returns-else-not-is_comb
returns-else-not-is_comb c = λ o₀ h. flopped-skip _ (sym c.is_comb.ensures ∙ c.if-not-is_comb.false) h
