-- What C's `refused` tells: 0 exactly on success, else a number of reading, of writing or of a run. Assumes nothing.
use Rattle.std.specs.Prelude.{if◌then◌else◌, Result, Ok, Err}
use mathlib.Core.Path.{◌≡◌, refl, sym, ap, ◌∙◌, subst}
use mathlib.Core.Bool.{Bool, true, false, not}
use mathlib.Core.List.{List}
use mathlib.Core.Option.{Option, none, some}
use mathlib.Core.Logic.{◌⊎◌, inl, inr, ⊎_elim}
use Prim.Native.Nat.{ℕ, ◌*◌, ◌<◌}
use native.Mathlib.Omega.{arith}
use lib.Dec.{ltb}
use lib.ListN.{length}
use borrow.Author.Tests.{not-false}
use Rattle.lists.specs.Lists.{Bytes, any, all}
use Rattle.lists.proofs.Tests.{by-test}
use Rattle.refusals.specs.Numbers.{number_of, InReading, InWriting}
use Rattle.refusals.specs.declared.Refusal.{Refusal}
use Rattle.refusals.specs.declared.Refusal.TheVariants as refusal
use Rattle.refusals.proofs.Numbers.{number-pos}
use Rattle.gates.specs.Gate.{is_plain}
use Rattle.network.specs.Net.{Net, topo_sorted}
use Rattle.network.specs.Sizes.{max_gates}
use Rattle.network.specs.Record.{gate_width}
use Rattle.network.specs.Settle.{run}
use Rattle.network.specs.Cells.{Lent, net_of, is_network}
use Rattle.blif_writing.specs.WrittenModel.{wide}
use Rattle.blif_writing.specs.Text.{text_of}
use Rattle.blif_reading.specs.Read.{read_text}
use Rattle.blif_read.specs.Into.{Lengths, enough, filled, answered, read_into}
use Rattle.blif_read.proofs.Lending.{few-gates, few-work-gates}
use Rattle.blif_read.proofs.Summary.{read-counts, reading-refuses}
use Rattle.blif_write.specs.Into.{WriteOutcome, refused_text, written_text, too_long, write_into}
use Rattle.blif_write.proofs.Answers.{in-slice, in-text}
use Rattle.blif_write.proofs.Summary.{writing-refuses}
use Rattle.round_trip.specs.Conditions.{WrittenFrom}
use Rattle.round_trip.proofs.Demand.{text-written}
use Rattle.run_rows.specs.Rows.{rows_text, rows_of}
use Rattle.run_rows.specs.Into.{RunOutcome, run_on, run_into}
use Rattle.run_rows.specs.Ran.{RunsFor}
use Rattle.run_rows.proofs.Outcomes.{runs_on}
use Rattle.run_rows.proofs.Summary.{runs-answer, length-answered, running-refuses}
use Rattle.vumneath.specs.Handed.{network_of, text_for, rows_for, RefusedRun}
use Rattle.network.specs.declared.Counts.{Counts}

-- ---- reading

-- what is handed over of a result
result-zero : (r : Result Net Refusal) (n : Lengths) → (network_of (filled r n).answer).refused ≡ 0 → (net : Net) × (r ≡ Ok net)
result-zero (Ok net) n e = (net, refl)
result-zero (Err k) n e = absurd (omega (arith, number-pos k, e))

-- a result that is handed over with 0 is a network, read into enough cells
pub read-zero : (text : Bytes) (n : Lengths) → (network_of (read_into text n).answer).refused ≡ 0 → (net : Net) × (enough n ≡ true) × (read_text text ≡ Ok net)
unfolding read_into
read-zero text n e = go (enough n) refl (result-zero (answered text n) n e)
  where
    go : (b : Bool) → enough n ≡ b → (net : Net) × ((if enough n then read_text text else Err refusal.TooFewCells) ≡ Ok net)
        → (net : Net) × (enough n ≡ true) × (read_text text ≡ Ok net)
    go true p (net, q) = (net, p, (sym (ap (λ (b : Bool). if b then read_text text else Err refusal.TooFewCells) p) ∙ q))
    go false p (net, q) =
        let z : Err refusal.TooFewCells ≡ Ok net = sym (ap (λ (b : Bool). if b then read_text text else Err refusal.TooFewCells) p) ∙ q in
        absurd (let y : ◌≡◌ {A = ℕ} 0 1 = cc in omega arith)

-- and a network read into enough cells is handed over with 0
pub read-success : (text : Bytes) (n : Lengths) (net : Net) → enough n ≡ true → read_text text ≡ Ok net → (network_of (read_into text n).answer).refused ≡ 0
read-success text n net e q = ap (λ (a : Result Counts Refusal). (network_of a).refused) (read-counts text net n e q)

-- too few cells for gates are refusal 1, with zeros in all that is lent
pub few-outcome : (text : Bytes) (n : Lengths) → (n.gates < max_gates * gate_width) ⊎ (n.work_gates < max_gates * gate_width)
    → read_into text n ≡ filled (Err refusal.TooFewCells) n
unfolding read_into
few-outcome text n h =
    ap (λ (b : Bool). filled (if b then read_text text else Err refusal.TooFewCells) n) (sym (⊎_elim (few-gates n) (few-work-gates n) h))

-- any other number is one of reading's
result-refused : (r : Result Net Refusal) (n : Lengths) → ((k : Refusal) → r ≡ Err k → InReading k) → ((network_of (filled r n).answer).refused ≡ 0 → ⊥)
    → (k : Refusal) × InReading k × (r ≡ Err k) × ((network_of (filled r n).answer).refused ≡ number_of k)
result-refused (Ok net) n w f = absurd (f refl)
result-refused (Err k) n w f = (k, w k refl, refl, refl)

pub read-refused : (text : Bytes) (n : Lengths) → ((network_of (read_into text n).answer).refused ≡ 0 → ⊥)
    → (k : Refusal) × InReading k × (answered text n ≡ Err k) × ((network_of (read_into text n).answer).refused ≡ number_of k)
unfolding read_into
read-refused text n f = result-refused (answered text n) n (reading-refuses text n) f

-- ---- writing

pub write-zero : (l : Lent) (n : ℕ) → (text_for (write_into l n).answer).refused ≡ 0 → WrittenFrom l n
unfolding write_into
write-zero l n e = go (not (is_network l)) (any wide (net_of l).gates) (too_long (text_of (net_of l)) n) refl refl refl e
  where
    go : (a b c : Bool) → not (is_network l) ≡ a → any wide (net_of l).gates ≡ b → too_long (text_of (net_of l)) n ≡ c
        → (text_for (if a then refused_text refusal.NotANetwork n
        else (if b then refused_text refusal.WideExclusive n
        else (if c then refused_text refusal.TextDoesNotFit n
        else written_text (text_of (net_of l)) n))).answer).refused ≡ 0
        → WrittenFrom l n
    go true b c p q s z = absurd (omega (arith, z))
    go false true c p q s z = absurd (omega (arith, z))
    go false false true p q s z = absurd (omega (arith, z))
    go false false false p q s z =
        record {
          network = not-false (is_network l) p;
          narrow = q;
          short = in-text (text_of (net_of l)) n s;
          room = in-slice (text_of (net_of l)) n s;
        }

-- and a text that is written is handed over with 0
pub write-success : (l : Lent) (n : ℕ) → WrittenFrom l n → (text_for (write_into l n).answer).refused ≡ 0
write-success l n f = ap (λ (o : WriteOutcome). (text_for o.answer).refused) (text-written l n f)

-- any other number is one of writing's
answer-refused : (a : Result ℕ Refusal) → ((k : Refusal) → a ≡ Err k → InWriting k) → ((text_for a).refused ≡ 0 → ⊥)
    → (k : Refusal) × InWriting k × (a ≡ Err k) × ((text_for a).refused ≡ number_of k)
answer-refused (Ok m) w f = absurd (f refl)
answer-refused (Err k) w f = (k, w k refl, refl, refl)

pub write-refused : (l : Lent) (n : ℕ) → ((text_for (write_into l n).answer).refused ≡ 0 → ⊥)
    → (k : Refusal) × InWriting k × ((write_into l n).answer ≡ Err k) × ((text_for (write_into l n).answer).refused ≡ number_of k)
write-refused l n f = answer-refused (write_into l n).answer (writing-refuses l n) f

-- ---- running

-- an answer that is handed over with 0 is a length
answer-zero : (a : Result ℕ Refusal) → (rows_for a).refused ≡ 0 → (k : ℕ) × (a ≡ Ok k)
answer-zero (Ok k) z = (k, refl)
answer-zero (Err r) z = absurd (omega (arith, number-pos r, z))

pub run-zero : (l : Lent) (t : Bytes) (n : ℕ) → (rows_for (run_into l t n).answer).refused ≡ 0 → RunsFor l t n
run-zero l t n z = let k = answer-zero (run_into l t n).answer z in length-answered l t n k.0 k.1

pub run-success : (l : Lent) (t : Bytes) (n : ℕ) → RunsFor l t n → (rows_for (run_into l t n).answer).refused ≡ 0
run-success l t n f = ap (λ (o : RunOutcome). (rows_for o.answer).refused) (runs-answer l t n f)

-- any other number is one of a run's
rows-refused : (a : Result ℕ Refusal) → ((rows_for a).refused ≡ 0 → ⊥) → (k : Refusal) × (a ≡ Err k)
rows-refused (Ok m) f = absurd (f refl)
rows-refused (Err k) f = (k, refl)

pub run-refused : (l : Lent) (t : Bytes) (n : ℕ) → ((rows_for (run_into l t n).answer).refused ≡ 0 → ⊥) → RefusedRun l t n (rows_for (run_into l t n).answer) (run_into l t n).out
run-refused l t n f =
    let k = rows-refused (run_into l t n).answer f in
    let i = running-refuses l t n k.0 k.1 in
    record { refusal = k.0; among = i.0; told = k.1; number = ap (λ (a : Result ℕ Refusal). (rows_for a).refused) k.1; length = ap (λ (a : Result ℕ Refusal). (rows_for a).length) k.1; bytes = i.1 }

-- a network that passes 20, 29 and 30 is refused by 31 alone
pub run-rows-only : (l : Lent) (t : Bytes) (n : ℕ) → is_network l ≡ true → topo_sorted (net_of l) ≡ true → all is_plain (net_of l).gates ≡ true
    → ((rows_for (run_into l t n).answer).refused ≡ 0) ⊎ ((rows_for (run_into l t n).answer).refused ≡ 31)
run-rows-only l t n a b c = subst (λ (o : RunOutcome). ((rows_for o.answer).refused ≡ 0) ⊎ ((rows_for o.answer).refused ≡ 31)) (runs_on l t n a b c) (by (rows_of (net_of l).inputs t))
  where
    by : (o : Option (List (List Bool))) → ((rows_for (run_on (net_of l) o n).answer).refused ≡ 0) ⊎ ((rows_for (run_on (net_of l) o n).answer).refused ≡ 31)
    by none = inr refl
    by (some rs) = by-test (ltb n (length (rows_text (run (net_of l) rs)))) (λ e. inr (rw e)) (λ e. inl (rw e))
