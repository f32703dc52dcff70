-- Demand 3 follows from what the writer and the reader answer. Assumes nothing.
use Rattle.std.specs.Prelude.{Ok}
use mathlib.Core.Path.{◌≡◌, sym, ap, ap₂, ◌∙◌, subst}
use Prim.Native.Nat.{ℕ}
use native.Mathlib.Omega.{arith}
use lib.ListN.{length, take, length-replicate}
use borrow.Author.Tests.{le-ltb}
use Rattle.lists.specs.Lists.{Bytes, zeros, overwrite}
use Rattle.lists.proofs.Places.{place-mem}
use Rattle.lists.proofs.Range.{any_none}
use Rattle.lists.proofs.Over.{length-overwrite, take-overwrite}
use Rattle.network.specs.Net.{Net}
use Rattle.network.specs.Cells.{Lent, lent, net_of, Words, counts_of}
use Rattle.network.specs.Settle.{SameOutputs}
use Rattle.network.proofs.Lent.{network-laid}
use Rattle.blif_text.specs.Lines.{max_text}
use Rattle.blif_writing.specs.Text.{text_of}
use Rattle.blif_reading.specs.Read.{read_text}
use Rattle.blif_writing.specs.WrittenModel.{wide}
use Rattle.round_trip.specs.Conditions.{PlainNet, RoundTripNet, WrittenFrom}
use Rattle.round_trip.proofs.ReadBack.{read_back}
use Rattle.blif_read.specs.Into.{Lengths, read_into}
use Rattle.blif_read.proofs.Summary.{read-counts}
use Rattle.blif_read.proofs.CellsRead.{read-decodes}
use Rattle.blif_write.specs.Into.{written_text, write_into, WriteOutcome}
use Rattle.round_trip.specs.Trip.{written_length, read_answer, answer_of, trip_into, RoundTripConditions, ReadsBack}

-- ---- the conditions are those of the theorem

-- a lent network that is written, without a loop and with plain flip-flops, is one of demand 3's
pub lent-round-trip : (l : Lent) (n : ℕ) → Words l → WrittenFrom l n → PlainNet (net_of l) → RoundTripNet (net_of l)
lent-round-trip l n words w plain =
    let k = network-laid l words w.network in
    record {
      valid = k.1;
      formed = k.2;
      narrow = λ g x e. any_none wide (net_of l).gates w.narrow x (place-mem (net_of l).gates g x e);
      plain = plain;
    }

-- its text is written
pub text-written : (l : Lent) (n : ℕ) → WrittenFrom l n → write_into l n ≡ written_text (text_of (net_of l)) n
unfolding write_into
text-written l n w =
    let t = text_of (net_of l) in
    rw (w.network, w.narrow, le-ltb n (length t) w.room, le-ltb max_text (length t) w.short)

module _ {l : Lent} {n : ℕ} {m : Lengths} (words : Words l) (c : RoundTripConditions l n m) where
  pub written : write_into l n ≡ written_text (text_of (net_of l)) n
  written = text-written l n c.written

  -- it is read back as a network that gives equal outputs
  pub back : (new : Net) × (read_text (text_of (net_of l)) ≡ Ok new) × SameOutputs new (net_of l)
  back = read_back (net_of l) (lent-round-trip l n words c.written c.plain) c.written.short c.sized

  -- exactly the bytes written are read
  bytes_read : take (written_length (write_into l n).answer) (write_into l n).out ≡ text_of (net_of l)
  bytes_read =
      ap (λ (o : WriteOutcome). take (written_length o.answer) o.out) written
      ∙ take-overwrite (text_of (net_of l)) (zeros n) (omega (arith, c.written.room, length-replicate {A = ℕ} n 0))

  -- what reading them leaves
  read_left : read_into (take (written_length (write_into l n).answer) (write_into l n).out) m ≡ read_into (text_of (net_of l)) m
  read_left = ap (λ (t : Bytes). read_into t m) bytes_read

  -- the network read back, decoded from the cells
  decoded : net_of (lent (counts_of back.0) (read_into (text_of (net_of l)) m).gates (read_into (text_of (net_of l)) m).pins (read_into (text_of (net_of l)) m).outputs) ≡ back.0
  decoded = read-decodes (text_of (net_of l)) back.0 m c.cells back.1

  -- demand 3, of what is left
  pub demand-three : ReadsBack (net_of l) (trip_into l n m)
  unfolding trip_into
  demand-three =
      let o = trip_into l n m in
      let g : o.gates ≡ (read_into (text_of (net_of l)) m).gates = ap (λ x. x.gates) read_left in
      let p : o.pins ≡ (read_into (text_of (net_of l)) m).pins = ap (λ x. x.pins) read_left in
      let q : o.outputs ≡ (read_into (text_of (net_of l)) m).outputs = ap (λ x. x.outputs) read_left in
      let is : net_of (lent (counts_of back.0) o.gates o.pins o.outputs) ≡ back.0 =
      (λ i. net_of (lent (counts_of back.0) (g i) (p i) (q i))) ∙ decoded in
      let t : o.text ≡ overwrite (text_of (net_of l)) (zeros n) = ap (λ (x : WriteOutcome). x.out) written in
      record {
        counts = counts_of back.0;
        answered =
            ap₂ answer_of (ap (λ (x : WriteOutcome). x.answer) written) (ap (λ x. x.answer) read_left)
            ∙ ap (read_answer (length (text_of (net_of l)))) (read-counts (text_of (net_of l)) back.0 m c.cells back.1);
        text = t ∙ ap (λ (k : ℕ). overwrite (text_of (net_of l)) (zeros k)) (sym (ap length t ∙ length-overwrite (text_of (net_of l)) (zeros n) ∙ length-replicate {A = ℕ} n 0));
        inputs = back.2.inputs;
        outputs = back.2.outputs;
        same = subst (λ (x : Net). SameOutputs x (net_of l)) (sym is) back.2;
      }
