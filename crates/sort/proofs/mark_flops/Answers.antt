-- `mark_flops` marks one flip-flop after the other. Assumes nothing.
use mathlib.Core.Path.{refl, ap, ◌∙◌}
use Prim.Native.Nat.{ℕ}
use native.Mathlib.Omega.{arith}
use lib.ListN.{length, length-replicate}
use Rattle.network.specs.Sizes.{max_gates}
use Rattle.sort.proofs.Starting.{flopped-none}
use Rattle.sort.proofs.mark_flops.Goals as goal

pub loop-g-init : goal.loop-g-init
loop-g-init c = record {
  within = omega arith;
  long = ap length c.requires.2 ∙ length-replicate {A = ℕ} max_gates 0;
  same = refl;
  flopped = flopped-none _ c.requires.2;
}
