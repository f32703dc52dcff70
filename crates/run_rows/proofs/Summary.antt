-- What a run promises, as a reviewer would read it. Assumes nothing.
--   rows-of-text     which texts have rows
--   runs-answer      where nothing refuses, the length, and the output rows with zeros behind them
--   length-answered      a length is answered nowhere else
--   running-refuses  what refuses is 20, 29, 30 or 31, and the output rows are zero then
--   rows_take        how many bytes the output rows take
--   ran-text         the bytes up to the length are their text
--   ran-rows         the rows written are, clock by clock, the only ones that document 01's clock allows
use Rattle.std.specs.Prelude.{Ok, Err}
use mathlib.Core.Path.{◌≡◌, refl, sym, ap, ◌∙◌}
use mathlib.Core.Bool.{Bool}
use mathlib.Core.List.{List}
use mathlib.Core.Option.{some}
use mathlib.Core.Logic.{◌↔◌}
use Prim.Native.Nat.{ℕ, suc, ◌-◌, ◌*◌}
use native.Mathlib.Omega.{arith}
use lib.ListN.{length, take, drop, length-replicate}
use Rattle.lists.specs.Lists.{Bytes, zeros, overwrite}
use Rattle.lists.proofs.Over.{length-overwrite, take-overwrite}
use Rattle.lists.proofs.OverAt.{drop-overwrite-zeros}
use Rattle.refusals.specs.Numbers.{InRunning}
use Rattle.refusals.specs.declared.Refusal.{Refusal}
use Rattle.network.specs.Net.{Net}
use Rattle.network.specs.Clock.{start_bits}
use Rattle.network.specs.Settle.{run}
use Rattle.network.specs.Cells.{Lent, Words, net_of}
use Rattle.network.proofs.Summary.{one-run-start, sorted-free}
use Rattle.network.proofs.Lent.{network-laid}
use Rattle.run_rows.specs.Rows.{rows_text, rows_of, Wide}
use Rattle.run_rows.specs.Into.{RunOutcome, ran_rows, run_into}
use Rattle.run_rows.specs.Ran.{RunsFor, RanFor}
use Rattle.run_rows.proofs.RowsOf.{rows_are, length-outputs}
use Rattle.run_rows.proofs.Outcomes as outcomes

-- "rows of 0 and 1, each ended by LF": a text has rows of n bits exactly where it is the text of such rows, and just these
pub rows-of-text : (n : ℕ) (t : Bytes) (rows : List (List Bool)) → (rows_of n t ≡ some rows) ↔ ((t ≡ rows_text rows) × Wide n rows)
rows-of-text = rows_are

-- "Success gives the length, with zero bytes after it": nothing refuses, so the output rows are those of `run`
pub runs-answer : (l : Lent) (t : Bytes) (n : ℕ) (f : RunsFor l t n) → run_into l t n ≡ ran_rows (rows_text (run (net_of l) f.rows)) n
runs-answer = outcomes.runs-answer

-- and a length is answered nowhere else
pub length-answered : (l : Lent) (t : Bytes) (n k : ℕ) → (run_into l t n).answer ≡ Ok k → RunsFor l t n
length-answered = outcomes.length-answered

-- every other answer is a refusal by 20, 29, 30 or 31, and "A refusal zeroes the output rows"
pub running-refuses : (l : Lent) (t : Bytes) (n : ℕ) (r : Refusal) → (run_into l t n).answer ≡ Err r → InRunning r × ((run_into l t n).out ≡ zeros n)
running-refuses = outcomes.running-refuses

-- the bytes that the output rows take: for each row one for each output and an LF
pub rows_take : (net : Net) (rows : List (List Bool)) → length (rows_text (run net rows)) ≡ length rows * suc (length net.outputs)
rows_take net rows = length-outputs net (start_bits net) rows

-- the bytes up to the length are the text of these rows
pub ran-text : (l : Lent) (t : Bytes) (n : ℕ) (f : RunsFor l t n) {k : ℕ} {out : Bytes} → k ≡ length (rows_text (run (net_of l) f.rows))
    → out ≡ (run_into l t n).out → take k out ≡ rows_text (run (net_of l) f.rows)
ran-text l t n f e q =
    (λ i. take (e i) ((q ∙ ap (λ (o : RunOutcome). o.out) (runs-answer l t n f)) i))
    ∙ take-overwrite (rows_text (run (net_of l) f.rows)) (zeros n) (omega (arith, f.room, length-replicate {A = ℕ} n 0))

-- and zeros stand behind them
pub ran-rest : (l : Lent) (t : Bytes) (n : ℕ) (f : RunsFor l t n) {k : ℕ} {out : Bytes} → k ≡ length (rows_text (run (net_of l) f.rows))
    → out ≡ (run_into l t n).out → drop k out ≡ zeros (length out - k)
ran-rest l t n f {k} {out} e q =
    let text : Bytes = rows_text (run (net_of l) f.rows) in
    let is : out ≡ overwrite text (zeros n) = q ∙ ap (λ (o : RunOutcome). o.out) (runs-answer l t n f) in
    let long : n ≡ length out = sym (ap length is ∙ length-overwrite text (zeros n) ∙ length-replicate {A = ℕ} n 0) in
    (λ i. drop (e i) (is i)) ∙ drop-overwrite-zeros text n f.room ∙ (λ i. zeros (long i - sym e i))

-- "Each clock does what demand 3's definition of a clock says": for every list of rows, the empty one too, the rows written are the only
-- ones that the clocks allow from the start values
pub ran-rows : (l : Lent) (t : Bytes) (n : ℕ) → Words l → (f : RunsFor l t n) {k : ℕ} {out : Bytes} → k ≡ length (rows_text (run (net_of l) f.rows))
    → out ≡ (run_into l t n).out → RanFor (net_of l) t k out
ran-rows l t n w f {k} {out} e q =
    let one = one-run-start (net_of l) (network-laid l w f.network).1 (sorted-free (net_of l) f.sorted) f.rows in
    record {
      rows = f.rows;
      has = f.has;
      outs = run (net_of l) f.rows;
      runs = (one (run (net_of l) f.rows)).1 refl;
      only = λ others r. (one others).0 r;
      written = ran-text l t n f e q;
      long = e;
      rest = ran-rest l t n f e q;
    }
