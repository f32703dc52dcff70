use lib.Dec.{eqb}
use Rattle.blif_text.specs.Between.Scan.{NoneTo}
use Rattle.blif_text.proofs.line_end.Given as goal

abbrev pub invariant-loop-i : goal.invariant-loop-i
invariant-loop-i l = NoneTo (eqb 10) l.text l.at l.i
