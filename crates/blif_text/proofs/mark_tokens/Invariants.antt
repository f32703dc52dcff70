use mathlib.Core.Path.{◌≡◌}
use mathlib.Core.Bool.{true}
use Prim.Native.Nat.{◌-◌}
use lib.ListN.{length}
use Rattle.blif_text.specs.Between.Scan.{Scanned}
use Rattle.blif_text.proofs.mark_tokens.Given as goal

abbrev pub invariant-loop-w : goal.invariant-loop-w
invariant-loop-w l = Scanned l.text l.initial.cells 0 0 true l.cells l.w.at l.w.count l.w.fresh × (length l.cells ≡ length l.initial.cells)

abbrev pub decreases-loop-w : goal.decreases-loop-w
decreases-loop-w l = length l.text - l.w.at
