-- `read_built` builds the covers' gates and sorts. Assumes nothing.
use mathlib.Core.Path.{sym, ◌∙◌}
use Rattle.std.proofs.lemmas.Result.{err_from_is_err_and}
use Rattle.refusals.proofs.Order.{missing-is, found-is}
use native.Mathlib.Omega.{arith}
use Rattle.blif_read.proofs.Refusing.{holds-refused}
use Rattle.blif_read.proofs.Ending.{buildable, sortable, loop-refused, order-read}
use Rattle.blif_read.proofs.read_built.Goals as goal

pub build_covers-built-requires-clause-buildable : goal.build_covers-built-requires-clause-buildable
build_covers-built-requires-clause-buildable c = buildable c.requires.placing.0 c.requires.placing.1 (record { gate_room = c.requires.enough.work_gates; pin_room = c.requires.enough.work_pins })

pub topo_sort-requires : goal.topo_sort-requires
topo_sort-requires c = sortable c.requires.placing.0 c.requires.placing.1 c.build_covers-built.ensures (omega (arith, c.requires.enough.work_gates, c.build_covers-built.auto.gates)) (omega (arith, c.requires.enough.work_pins, c.build_covers-built.auto.pins)) c.requires.enough.outputs _ _ c.requires.enough.gates c.requires.enough.pins

pub returns-in_err-used_pins : goal.returns-in_err-used_pins
returns-in_err-used_pins c = let o = missing-is c.topo_sort.result _ (sym c.ok_or.ensures.value ∙ c.in_err-used_pins.was) in
    let p = err_from_is_err_and c.from_residual.result c.from_residual.ensures.1 in
    rw (p.1, p.2, o.1) (holds-refused _ _ _ _ _ (loop-refused c.requires.placing.0 c.requires.placing.1 c.build_covers-built.ensures (omega (arith, c.requires.enough.work_gates, c.build_covers-built.auto.gates)) (omega (arith, c.requires.enough.work_pins, c.build_covers-built.auto.pins)) c.requires.enough.outputs _ _ c.requires.enough.gates c.requires.enough.pins c.topo_sort.ensures o.0))

pub returns : goal.returns
returns c = order-read c.requires.placing.0 c.requires.placing.1 c.build_covers-built.ensures (omega (arith, c.requires.enough.work_gates, c.build_covers-built.auto.gates)) (omega (arith, c.requires.enough.work_pins, c.build_covers-built.auto.pins)) c.requires.enough.outputs _ _ c.requires.enough.gates c.requires.enough.pins c.topo_sort.ensures _ (found-is c.topo_sort.result _ (sym c.ok_or.ensures.value ∙ c.in_ok-used_pins.was))
