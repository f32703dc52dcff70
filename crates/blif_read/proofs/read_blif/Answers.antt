-- `read_blif` clears what `read_cells` leaves beyond the counts. Assumes nothing.
use mathlib.Core.Path.{ap, ◌∙◌}
use native.Mathlib.Omega.{arith}
use Rattle.lists.specs.Lists.{zeros}
use Rattle.blif_read.proofs.Leaving.{counts-fit, all-cleared}
use Rattle.blif_read.proofs.read_blif.Goals as goal

pub overflow_mul-counts : goal.overflow_mul-counts
overflow_mul-counts c = let z = counts-fit _ _ c.read_cells-answer.result c.counts_of-counts.result c.read_cells-answer.new.gates c.read_cells-answer.new.pins c.read_cells-answer.new.outputs _ c.read_cells-answer.ensures c.counts_of-counts.ensures c.read_cells-answer.auto.gates c.well_formed.1.0.0 in
    omega (arith, z)

pub returns : goal.returns
returns c = all-cleared _ _ _ _ _ _ _ _ _ _ _ _ c.read_cells-answer.ensures c.counts_of-counts.ensures c.read_cells-answer.auto.gates c.read_cells-answer.auto.pins c.read_cells-answer.auto.outputs
    c.clear_from.ensures c.clear_from-2.ensures c.clear_from-3.ensures (c.fill_zero.ensures ∙ ap zeros c.read_cells-answer.auto.work_gates)
    (c.fill_zero-2.ensures ∙ ap zeros c.read_cells-answer.auto.work_pins)
