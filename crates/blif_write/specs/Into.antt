-- What `write_blif` answers and leaves in the output slice (document 01, "Writing refuses, in order"). Assumes nothing: these are
-- definitions.
use Rattle.std.specs.Prelude.{Bool, not, ◌||◌, ℕ, ltb, length, if◌then◌else◌, Result, Ok, Err}
use Rattle.lists.specs.Lists.{Bytes, zeros, any, overwrite}
use Rattle.refusals.specs.declared.Refusal.{Refusal}
use Rattle.refusals.specs.declared.Refusal.TheVariants as refusal
use Rattle.network.specs.Cells.{Lent, net_of, is_network}
use Rattle.blif_text.specs.Lines.{max_text}
use Rattle.blif_writing.specs.WrittenModel.{wide}
use Rattle.blif_writing.specs.Text.{text_of}

-- an answer, and what the output slice holds then
pub record WriteOutcome : Type 0 where
  -- what was answered: the text's length, or a refusal
  pub answer : Result ℕ Refusal
  -- the bytes of the output slice
  pub out : Bytes

-- the same, from its parts
abbrev pub write_outcome : Result ℕ Refusal → Bytes → WriteOutcome
write_outcome a o = record { answer = a; out = o }

-- "A refusal zeroes the output slice"
abbrev pub refused_text : Refusal → ℕ → WriteOutcome
refused_text r n = write_outcome (Err r) (zeros n)

-- "Success gives the length and zero bytes after it"
abbrev pub written_text : Bytes → ℕ → WriteOutcome
written_text t n = write_outcome (Ok (length t)) (overwrite t (zeros n))

-- "22 when the text is longer than the output slice or than 32,768 bytes"
abbrev pub too_long : Bytes → ℕ → Bool
too_long t n = ltb n (length t) || ltb max_text (length t)

-- "Writing refuses, in order: 20 .. 21 .. 22"; n is the output slice's length
unfoldable pub write_into : Lent → ℕ → WriteOutcome
write_into l n =
    if not (is_network l) then refused_text refusal.NotANetwork n
    else (if any wide (net_of l).gates then refused_text refusal.WideExclusive n
    else (if too_long (text_of (net_of l)) n then refused_text refusal.TextDoesNotFit n
    else written_text (text_of (net_of l)) n))
