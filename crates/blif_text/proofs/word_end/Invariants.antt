use Rattle.blif_text.specs.Between.Scan.{ends_word}
use Rattle.blif_text.specs.Between.Scan.{NoneTo}
use Rattle.blif_text.proofs.word_end.Given as goal

abbrev pub invariant-loop-i : goal.invariant-loop-i
invariant-loop-i l = NoneTo ends_word l.text l.at l.i
