-- `inputs_lower` passes a flip-flop, and else tests the gate's pins against the gates before it. Assumes nothing.
use mathlib.Core.Path.{ap, ◌∙◌}
use Rattle.network.specs.Cells.{all_valid}
use Rattle.network.proofs.TopoSorted.{comb-lower}
use Rattle.network.proofs.inputs_lower.Goals as goal

pub returns-else-form_at-eq-DFF : goal.returns-else-form_at-eq-DFF
returns-else-form_at-eq-DFF c = comb-lower c.requires.1 (rw c.form_at.ensures at c.if-form_at-eq-DFF.false)
    (c.all_valid.ensures ∙ ap (all_valid c.args.inputs c.args.g) c.gate_pins.ensures)
