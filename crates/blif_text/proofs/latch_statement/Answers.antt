-- `latch_statement` asks for two names, then for the start value. Assumes nothing.
use mathlib.Core.Path.{refl}
use Rattle.std.specs.Prelude.{Ok, Err}
use Rattle.blif_text.specs.declared.Run.{Run}
use Rattle.blif_text.specs.declared.Statement.TheVariants as place
use Rattle.refusals.specs.declared.Refusal.TheVariants as refusal
use Rattle.blif_text.proofs.StatementLaws.{started, latch-started}
use Rattle.blif_text.proofs.latch_statement.Goals as goal

pub returns-in-Some : goal.returns-in-Some
returns-in-Some c = let s = c.args in
    let e = c.names_run-names.ensures in
    latch-started s.text.now s.cells.now s.at s.end e c.if-names-lt2.false c.latch_start.ensures
    (started (λ (run : Run). Ok (place.Latch run)) e c.in-Some.is refl)

pub returns-in-None : goal.returns-in-None
returns-in-None c = let s = c.args in
    let e = c.names_run-names.ensures in
    latch-started s.text.now s.cells.now s.at s.end e c.if-names-lt2.false c.latch_start.ensures
    (started (λ (run : Run). Err refusal.WrongStart) e c.in-None.is refl)
