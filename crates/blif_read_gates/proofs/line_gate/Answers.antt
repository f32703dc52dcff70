-- `line_gate` goes by the number of literals and the output. Assumes nothing.
use mathlib.Core.Path.{sym, ap, ◌∙◌}
use mathlib.Core.Bool.{Bool, true, false}
use lib.ListN.{take, drop}
use Rattle.blif_read_gates.specs.Between.Steps.{line_in_hand}
use Rattle.blif_read_gates.proofs.CellLaws.{hand-many}
use Rattle.blif_read_gates.proofs.line_gate.Goals as goal

pub returns-then-one : goal.returns-then-one
returns-then-one c = hand-many true c.args.at c.args.count c.args.pins.now c.if-count-gt1.true c.requires.1 ∙ sym (ap (λ (b : Bool). line_in_hand b c.args.at (take c.args.count (drop c.args.at c.args.pins.now))) c.if-one.true)

pub returns-else-one : goal.returns-else-one
returns-else-one c = hand-many false c.args.at c.args.count c.args.pins.now c.if-count-gt1.true c.requires.1 ∙ sym (ap (λ (b : Bool). line_in_hand b c.args.at (take c.args.count (drop c.args.at c.args.pins.now))) c.if-one.false)
