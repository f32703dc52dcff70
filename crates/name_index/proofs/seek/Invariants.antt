use Prim.Native.Nat.{◌+◌, ◌*◌, ◌-◌}
use Rattle.name_index.specs.Between.Index.{entry_count}
use Rattle.name_index.proofs.TreeLaws.{Seeking}
use Rattle.name_index.proofs.seek.Given as goal

abbrev pub invariant-loop-at : goal.invariant-loop-at
invariant-loop-at l = Seeking l.text l.index (entry_count l.index) l.name l.at l.bits

abbrev pub decreases-loop-at : goal.decreases-loop-at
decreases-loop-at l = 1024 + entry_count l.index * 4 - l.at
