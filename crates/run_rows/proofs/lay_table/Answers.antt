-- `lay_table` lays out the table and the slots of its form and its pins. Assumes nothing.
use mathlib.Core.Path.{ap, ◌∙◌}
use Rattle.gates.specs.Between.Forms.{kind_of}
use Rattle.run_rows.proofs.LayingOut.{laid_one}
use Rattle.run_rows.proofs.lay_table.Goals as goal

pub returns : goal.returns
returns c = laid_one c.requires (c.kind_of-kind.ensures ∙ ap kind_of c.form_at.ensures)
    c.gate_pins.ensures c.pad_of.ensures c.lay_slots.ensures c.table_of.ensures
