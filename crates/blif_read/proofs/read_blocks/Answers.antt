-- `read_blocks` places the gates. Assumes nothing.
use Rattle.std.proofs.lemmas.Result.{err_from_is_err_and}
use mathlib.Core.Path.{subst}
use Rattle.blif_read_signals.specs.Between.Resolve.{PlacedBy}
use Rattle.blif_read.proofs.Refusing.{holds-refused}
use Rattle.blif_read.proofs.Naming.{few-gates, few-placed, use-refused, gates-placed}
use Rattle.blif_read.proofs.read_blocks.Goals as goal

pub place_gates-requires-clause-work_room : goal.place_gates-requires-clause-work_room
place_gates-requires-clause-work_room c = (record { gate_room = c.requires.enough.work_gates; pin_room = c.requires.enough.work_pins }, few-gates c.requires.resolving, few-placed c.requires.resolving)

pub read_covers-requires-clause-placing : goal.read_covers-requires-clause-placing
read_covers-requires-clause-placing c = gates-placed c.requires.resolving (subst (PlacedBy _ _ _ _) c.in_ok-used.was c.place_gates.ensures)

pub returns-in_err-used : goal.returns-in_err-used
returns-in_err-used c = let p = err_from_is_err_and c.from_residual.result c.from_residual.ensures.1 in
    rw (p.1, p.2) (holds-refused _ _ _ _ _ (use-refused c.requires.resolving (subst (PlacedBy _ _ _ _) c.in_err-used.was c.place_gates.ensures)))
