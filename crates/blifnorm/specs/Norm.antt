-- What the program prints for a text (document 01: "The program `blifnorm` reads standard input and prints the written text of the network
-- read, or the line `refused=N`"). Assumes nothing: these are definitions.
use Rattle.std.specs.Prelude.{ℕ, take, Result, Ok, Err}
use Rattle.lists.specs.Lists.{Bytes}
use Rattle.network.specs.Cells.{lent}
use Rattle.printed_lines.specs.Lines.{refused_line}
use Rattle.blif_read.specs.Into.{Lengths, read_into, ReadOutcome}
use Rattle.blif_write.specs.Into.{WriteOutcome, refused_text, write_into}
use Rattle.network.specs.declared.Counts.{Counts}
use Rattle.refusals.specs.declared.Refusal.{Refusal}

-- after the reader's answer, with the cells that it left: its refusal, or what the writer answers for those cells; n is the output
-- slice's length
abbrev pub written_from : Result Counts Refusal → ReadOutcome → ℕ → WriteOutcome
written_from (Err r) o n = refused_text r n
written_from (Ok counts) o n = write_into (lent counts o.gates o.pins o.outputs) n

-- "the written text of the network read", or the reader's or else the writer's refusal, for lent slices of these lengths
abbrev pub norm_into : Bytes → Lengths → ℕ → WriteOutcome
norm_into text n = let o = read_into text n in written_from o.answer o

-- "prints the written text .., or the line `refused=N`"
abbrev pub printed : WriteOutcome → Bytes
printed o = elim o.answer [ Ok n ↦ take n o.out | Err r ↦ refused_line r ]
