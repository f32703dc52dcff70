-- A gate's form number tells its kind. Assumes nothing.
use mathlib.Core.Path.{ap, ◌∙◌}
use Rattle.gates.specs.Between.Forms.{kind_of}
use Rattle.gates.specs.Between.Decode.{kind_comb}
use Rattle.sort.specs.Between.Steps.{form_comb}
use Rattle.sort.proofs.is_comb.Goals as goal

pub returns : goal.returns
unfolding form_comb
returns c = c.is_comb.ensures ∙ ap kind_comb (c.kind_of.ensures ∙ ap kind_of c.form_at.ensures)
