use mathlib.Core.Path.{◌≡◌}
use Prim.Native.Nat.{◌-◌}
use lib.ListN.{length}
use Rattle.blif_read_names.specs.Between.Naming.{NamingSoFar}
use Rattle.blif_read_names.proofs.build_name_to_sig.Given as goal

abbrev pub invariant-loop-w : goal.invariant-loop-w
invariant-loop-w l = NamingSoFar l.text l.tokens (length l.tokens) l.index l.out_names l.blocks l.w × (length l.index ≡ length l.initial.index) × (length l.out_names ≡ length l.initial.out_names) × (length l.blocks ≡ length l.initial.blocks)

abbrev pub decreases-loop-w : goal.decreases-loop-w
decreases-loop-w l = length l.tokens - l.w.at
