-- What reading and writing answer fits into 32 bits. Assumes nothing.
use Rattle.std.specs.Prelude.{if◌then◌else◌, Result, Ok, Err}
use mathlib.Core.Path.{◌≡◌, refl, sym, ap, ◌∙◌, subst}
use mathlib.Core.Bool.{Bool, true, false}
use mathlib.Core.List.{List}
use Prim.Native.Nat.{ℕ, ◌≤◌}
use native.Mathlib.Omega.{arith}
use lib.ListN.{length}
use Rattle.lists.specs.Lists.{Bytes}
use Rattle.refusals.specs.declared.Refusal.TheVariants as refusal
use Rattle.network.specs.Cells.{Lent, counts_of}
use Rattle.network.specs.Between.Sizes.{WithinSizes}
use Rattle.network.specs.declared.Counts.{Counts}
use Rattle.blif_text.specs.Lines.{max_text}
use Rattle.blif_reading.specs.Read.{read_text}
use Rattle.blif_reading.proofs.ReadNet.{read-net}
use Rattle.blif_read.specs.Into.{Lengths, enough, filled, read_into, ReadOutcome, read_outcome}
use Rattle.blif_write.specs.Into.{write_into, WriteOutcome, write_outcome}
use Rattle.blif_write.proofs.Answers.{Ways, refuses, writes, writer-ways}
use Rattle.vumneath.specs.Between.Handed.{CountsFit, LengthFits}
use Rattle.refusals.specs.declared.Refusal.{Refusal}
use Rattle.network.specs.Net.{Net}

-- whatever reading answers, its counts are within the sizes
pub counts-fit : (text : Bytes) (n : Lengths) (a : Result Counts Refusal) (gs ps os wgs wps : List ℕ) → read_outcome a gs ps os wgs wps ≡ read_into text n → CountsFit a
unfolding read_into
counts-fit text n a gs ps os wgs wps e = record {
  fits = λ c q. go (enough n) (read_text text) refl c (sym q ∙ ap (λ (o : ReadOutcome). o.answer) e);
}
  where
    go : (b : Bool) (r : Result Net Refusal) → read_text text ≡ r → (c : Counts) → Ok c ≡ (filled (if b then r else Err refusal.TooFewCells) n).answer
        → WithinSizes c.inputs c.outputs c.gates c.pins
    go false r p c q = absurd (let z : ◌≡◌ {A = ℕ} 0 1 = cc in omega (arith, z))
    go true (Err j) p c q = absurd (let z : ◌≡◌ {A = ℕ} 0 1 = cc in omega (arith, z))
    go true (Ok net) p c q =
        let z : counts_of net ≡ c = cc in
        subst (λ (k : Counts). WithinSizes k.inputs k.outputs k.gates k.pins) z (read-net text net p).sizes

-- whatever writing answers, the length is within the sizes
pub length-fits : (l : Lent) (n : ℕ) (a : Result ℕ Refusal) (t : Bytes) → write_outcome a t ≡ write_into l n → LengthFits a
length-fits l n a t e = record { fits = λ m q. go m (writer-ways l n) (sym q ∙ ap (λ (o : WriteOutcome). o.answer) e) }
  where
    go : (m : ℕ) → Ways n (write_into l n) → Ok m ≡ (write_into l n).answer → m ≤ max_text
    go m (refuses k p) q =
        let r : Ok m ≡ Err k = q ∙ ap (λ (o : WriteOutcome). o.answer) p in
        absurd (let z : ◌≡◌ {A = ℕ} 0 1 = cc in omega (arith, z))
    go m (writes s h b p) q =
        let r : Ok m ≡ Ok (length s) = q ∙ ap (λ (o : WriteOutcome). o.answer) p in
        let k : length s ≡ m = cc in
        subst (λ (i : ℕ). i ≤ max_text) k b
