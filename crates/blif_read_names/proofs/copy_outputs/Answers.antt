-- `copy_outputs` copies the names behind those that stand. Assumes nothing.
use mathlib.Core.Path.{ap, ◌∙◌}
use Prim.Native.Nat.{◌+◌}
use lib.ListN.{length, take}
use Rattle.lists.proofs.OverAt.{take-overwrite_at}
use Rattle.blif_read_names.proofs.copy_outputs.Goals as goal

pub returns : goal.returns
returns c =
    ap (take (c.args.outputs + length c.args.names.now)) c.copy_cells.ensures
    ∙ take-overwrite_at c.args.outputs c.args.names.now c.args.out_names.now c.requires
