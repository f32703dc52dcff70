use Prim.Native.Nat.{◌-◌}
use lib.ListN.{length}
use Rattle.blif_read_covers.proofs.PassLaws.{Covers, Lines, Columns}
use Rattle.blif_read_covers.proofs.check_covers.Given as goal

abbrev pub invariant-loop-column : goal.invariant-loop-column
invariant-loop-column l = Columns l.text l.tokens (length l.tokens) l.blocks l.g l.j l.block.names l.lines l.counter l.end l.met l.columns l.output l.column-index

abbrev pub invariant-loop : goal.invariant-loop
invariant-loop l = Lines l.text l.tokens (length l.tokens) l.blocks l.g l.j l.block.names l.lines l.at l.met l.counter

abbrev pub invariant-pass : goal.invariant-pass
invariant-pass l = Covers l.text l.tokens (length l.tokens) l.blocks l.g l.j

abbrev pub decreases-pass : goal.decreases-pass
decreases-pass l = l.g - l.j
