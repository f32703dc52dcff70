-- What `read_blif` answers, as a reviewer would read it. Assumes nothing.
use Rattle.std.specs.Prelude.{if◌then◌else◌, Result, Ok, Err}
use mathlib.Core.Path.{◌≡◌, ap, ◌∙◌}
use mathlib.Core.Bool.{Bool, true, false}
use mathlib.Core.List.{◌++◌}
use mathlib.Core.Logic.{inl}
use native.Mathlib.Omega.{arith}
use Rattle.lists.specs.Lists.{Bytes}
use Rattle.refusals.specs.Numbers.{InReading}
use Rattle.refusals.specs.declared.Refusal.{Refusal}
use Rattle.refusals.specs.declared.Refusal.TheVariants as refusal
use Rattle.network.specs.Net.{Net}
use Rattle.network.specs.Cells.{counts_of}
use Rattle.blif_text.specs.Ended.{Ended, MayFollow}
use Rattle.blif_reading.specs.Read.{read_text}
use Rattle.blif_reading.proofs.Summary as texts
use Rattle.blif_read.specs.Into.{Lengths, enough, ReadOutcome, filled, answered, read_into}

-- with enough cells the answer and the cells are those of `read_text`'s result
pub read-answers : (text : Bytes) (n : Lengths) → enough n ≡ true → read_into text n ≡ filled (read_text text) n
unfolding read_into
read-answers text n e = ap (λ (b : Bool). filled (if b then read_text text else Err refusal.TooFewCells) n) e

-- a network that is read is answered with its counts
pub read-counts : (text : Bytes) (net : Net) (n : Lengths) → enough n ≡ true → read_text text ≡ Ok net → (read_into text n).answer ≡ Ok (counts_of net)
read-counts text net n e r = ap (λ (o : ReadOutcome). o.answer) (read-answers text n e ∙ ap (λ (x : Result Net Refusal). filled x n) r)

-- a refusal is answered
pub refusal-answered : (text : Bytes) (r : Refusal) (n : Lengths) → enough n ≡ true → read_text text ≡ Err r → (read_into text n).answer ≡ Err r
refusal-answered text r n e q = ap (λ (o : ReadOutcome). o.answer) (read-answers text n e ∙ ap (λ (x : Result Net Refusal). filled x n) q)

-- "Reading refuses, in order: 1 .. 14", and nothing else
pub reading-refuses : (text : Bytes) (n : Lengths) (r : Refusal) → answered text n ≡ Err r → InReading r
reading-refuses text n r = go (enough n)
  where
    go : (b : Bool) → (if b then read_text text else Err refusal.TooFewCells) ≡ Err r → InReading r
    go true e = texts.reading-refuses text r e
    go false e = let q : r ≡ refusal.TooFewCells = cc in rw q (inl (omega arith))

-- what may stand behind `.end` or `.exdc` changes neither the answer nor any cell
pub behind-end : (text rest : Bytes) (n : Lengths) → Ended text → MayFollow text rest → read_into (text ++ rest) n ≡ read_into text n
unfolding read_into
behind-end text rest n e f = ap (λ (x : Result Net Refusal). filled (if enough n then x else Err refusal.TooFewCells) n) (texts.behind-end text rest e f)
