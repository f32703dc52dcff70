use Prim.Native.Nat.{ℕ}
use Rattle.blif_writing.specs.Names.{name_bytes}
use Rattle.blif_writing.specs.Text.{spaced}
use Rattle.blif_writing.specs.WrittenModel.{input_names}
use Rattle.blif_write_names.proofs.Parts.{Before}
use Rattle.blif_write.proofs.append_inputs.Given as goal

abbrev pub invariant-loop-i : goal.invariant-loop-i
invariant-loop-i l = Before (λ (j k : ℕ). spaced (input_names name_bytes j k)) l.n l.initial.out l.at l.out l.end l.i
