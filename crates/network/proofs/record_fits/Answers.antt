-- `record_fits` asks for the form, the start value and then for the run. Assumes nothing.
use mathlib.Core.Path.{sym, ◌∙◌}
use mathlib.Core.Bool.{false≢true}
use Rattle.network.proofs.Records.{takes-is, starts_is, form-taken}
use Rattle.network.proofs.record_fits.Goals as goal
use Rattle.network.proofs.record_fits.Goals.{then-takes, else-takes}

pub returns-then-starts : goal.returns-then-starts
returns-then-starts c =
    elim c.if-takes.branch [
      | then-takes w ↦ form-taken _ _
          (sym (takes-is c.args.gates.now c.args.g c.form_at.ensures c.kind_of-kind.ensures c.count_at.ensures c.takes.ensures) ∙ w.if-takes.true)
          (sym (starts_is c.args.gates.now c.args.g c.form_at.ensures c.kind_of-kind.ensures w.start_at.ensures w.starts.ensures) ∙ sym w.value-is ∙ c.if-starts.true)
          c.first_at.ensures c.requires.1
      | else-takes w ↦ absurd (false≢true (sym w.if-takes.false ∙ sym w.value-is ∙ c.if-starts.true))
    ]
