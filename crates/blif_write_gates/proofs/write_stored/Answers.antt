-- `write_stored` writes the line by the enable and the reset. Assumes nothing.
use mathlib.Core.Path.{sym, ◌∙◌}
use Rattle.blif_write_names.proofs.Laws.{as-wrote}
use Rattle.blif_write_gates.proofs.Texts.{stored-enabled, stored-reset, stored-plain}
use Rattle.blif_write_gates.proofs.write_stored.Goals as goal
use Rattle.blif_write_gates.proofs.write_stored.Goals.{else-is_value-via-then-is_value+else-is_value-2, else-is_value-via-else-is_value}

pub returns-then-is_value-2 : goal.returns-then-is_value-2
returns-then-is_value-2 c = as-wrote (stored-plain _ _ _ _ _ (sym c.is_value.ensures ∙ c.if-is_value.true) (sym c.is_value-then-is_value.ensures ∙ c.if-is_value-2.true)) c.write_plain.ensures

pub returns-else-is_value : goal.returns-else-is_value
returns-else-is_value c = elim c.else-is_value.branch [
  | else-is_value-via-then-is_value+else-is_value-2 w ↦ as-wrote (stored-reset _ _ _ _ _ (sym w.is_value-then-is_value.ensures ∙ w.if-is_value-2.false)) c.write_flop.ensures
  | else-is_value-via-else-is_value w ↦ as-wrote (stored-enabled _ _ _ _ _ (sym c.is_value.ensures ∙ w.if-is_value.false)) c.write_flop.ensures
]
