-- `write_literal` writes a literal, or none for a dash. Assumes nothing.
use mathlib.Core.Path.{◌∙◌}
use native.Mathlib.Omega.{arith}
use Rattle.blif_read_gates.proofs.CellLaws.{turn_is}
use Rattle.blif_read_gates.proofs.LiteralLaws.{literal-zero, literal-one, literal-dash}
use Rattle.blif_read_gates.proofs.write_literal.Goals as goal

pub returns-in-48 : goal.returns-in-48
returns-in-48 c = literal-zero c.args.column c.args.source c.args.at c.raw.result c.args.pins.now c.in-48.is (c.raw.ensures ∙ c.not.ensures ∙ turn_is c.args.source (omega arith))

pub returns-in-49 : goal.returns-in-49
returns-in-49 c = literal-one c.args.column c.args.source c.args.at c.args.pins.now (λ e. let z : ⊥ = omega (arith, c.in-49.is) in z) c.in-49.is

pub returns-in_default : goal.returns-in_default
returns-in_default c = literal-dash c.args.column c.args.source c.args.at c.args.pins.now (λ e. let z : ⊥ = omega arith in z) (λ e. let z : ⊥ = omega arith in z)
