-- The answer and every cell are determined: what is written, then what is read of it. Assumes nothing.
use Rattle.std.specs.Prelude.{Result, Ok, Err}
use Rattle.std.specs.Result.{result_unwrap_or}
use mathlib.Core.Path.{◌≡◌, sym, ap, ◌∙◌, subst}
use mathlib.Core.List.{List}
use Prim.Native.Nat.{ℕ, ◌≤◌}
use native.Mathlib.Omega.{arith}
use lib.ListN.{length, take, length-replicate}
use Rattle.lists.specs.Lists.{Bytes, zeros}
use Rattle.lists.proofs.Over.{length-overwrite}
use Rattle.network.specs.Cells.{Lent, net_of, Words}
use Rattle.blif_read.specs.Into.{Lengths, read_into, ReadOutcome, read_outcome}
use Rattle.blif_write.specs.Into.{write_into, WriteOutcome, write_outcome}
use Rattle.blif_write.proofs.Answers.{Ways, refuses, writes, writer-ways}
use Rattle.round_trip.specs.Trip.{written_length, answer_of, trip_outcome, trip_into, ReadsBack}
use Rattle.round_trip.specs.Between.Trip.{WritesThenReads}
use Rattle.round_trip.specs.declared.Returned.{Returned}
use Rattle.round_trip.specs.declared.TripRefusal.{TripRefusal}
use Rattle.round_trip.proofs.Demand.{demand-three}
use Rattle.refusals.specs.declared.Refusal.{Refusal}
use Rattle.network.specs.declared.Counts.{Counts}

-- what is written is within the slice
pub written-within : (l : Lent) (n : ℕ) (a : Result ℕ Refusal) (t : Bytes) → write_outcome a t ≡ write_into l n → (written_length a ≤ n) × (length t ≡ n)
written-within l n a t e = go (writer-ways l n)
  where
    go : Ways n (write_into l n) → (written_length a ≤ n) × (length t ≡ n)
    go (refuses k q) = (
      subst (λ (o : WriteOutcome). written_length o.answer ≤ n) (sym (e ∙ q)) (omega arith),
      ap (λ (o : WriteOutcome). length o.out) (e ∙ q) ∙ length-replicate n 0,
    )
    go (writes s h b q) = (
      subst (λ (o : WriteOutcome). written_length o.answer ≤ n) (sym (e ∙ q)) h,
      ap (λ (o : WriteOutcome). length o.out) (e ∙ q) ∙ length-overwrite s (zeros n) ∙ length-replicate n 0,
    )

-- the trip_outcome of writing and then reading
trip-determined : (l : Lent) (n : ℕ) (m : Lengths) (w : Result ℕ Refusal) (t : Bytes) (k : ℕ) (r : Result Counts Refusal) (gs ps os wgs wps : List ℕ) (a : Result Returned TripRefusal)
    → write_outcome w t ≡ write_into l n → k ≡ written_length w → read_outcome r gs ps os wgs wps ≡ read_into (take k t) m → a ≡ answer_of w r
    → trip_outcome a t gs ps os wgs wps ≡ trip_into l n m
unfolding trip_into
trip-determined l n m w t k r gs ps os wgs wps a e q f g =
    subst
    (λ (o : WriteOutcome).
    let x = read_into (take (written_length o.answer) o.out) m in
    trip_outcome a t gs ps os wgs wps ≡ trip_outcome (answer_of o.answer x.answer) o.out x.gates x.pins x.outputs x.work_gates x.work_pins)
    e
    (ap (λ (x : Result Returned TripRefusal). trip_outcome x t gs ps os wgs wps) g
    ∙ ap (λ (x : ReadOutcome). trip_outcome (answer_of w x.answer) t x.gates x.pins x.outputs x.work_gates x.work_pins) (f ∙ ap (λ (j : ℕ). read_into (take j t) m) q))

-- the contract of `write_then_read`
pub trip-holds : (l : Lent) (n : ℕ) (m : Lengths) (w : Result ℕ Refusal) (t : Bytes) (k : ℕ) (r : Result Counts Refusal) (gs ps os wgs wps : List ℕ) (a : Result Returned TripRefusal) → Words l
    → write_outcome w t ≡ write_into l n → k ≡ written_length w → read_outcome r gs ps os wgs wps ≡ read_into (take k t) m → a ≡ answer_of w r
    → WritesThenReads l n m (trip_outcome a t gs ps os wgs wps)
trip-holds l n m w t k r gs ps os wgs wps a words e q f g =
    let d = trip-determined l n m w t k r gs ps os wgs wps a e q f g in
    record { determined = d; demand = λ c. subst (ReadsBack (net_of l)) (sym d) (demand-three words c) }

-- the length, as `unwrap_or` tells it
pub unwrapped : (w : Result ℕ Refusal) {n : ℕ} → n ≡ result_unwrap_or w 0 → n ≡ written_length w
unwrapped (Ok k) e = e
unwrapped (Err r) e = e
