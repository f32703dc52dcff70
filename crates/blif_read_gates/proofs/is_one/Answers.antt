-- `is_one` compares the last token with 1. Assumes nothing.
use mathlib.Core.Path.{ap, ◌∙◌}
use mathlib.Core.List.{[], ◌∷◌}
use Rattle.lists.specs.Lists.{Bytes, same}
use Rattle.blif_read_gates.proofs.RowLaws.{last_one}
use Rattle.blif_read_gates.proofs.is_one.Goals as goal

pub returns : goal.returns
returns c = c.equal.ensures
    ∙ ap (λ (t : Bytes). same t (49 ∷ [])) c.token.ensures
    ∙ last_one c.args.text.now c.args.row.now c.requires.0 c.requires.1
