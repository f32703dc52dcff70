-- Laws for a row that is read and the gates that are worked out for it. Assumes nothing.
use mathlib.Core.Path.{◌≡◌, refl, sym, ◌∙◌}
use mathlib.Core.Bool.{Bool, true, false, true≢false}
use mathlib.Core.List.{List}
use mathlib.Core.Option.{Option, none, some}
use Prim.Native.Nat.{ℕ, ◌-◌, ◌≤◌, ◌<◌}
use native.Mathlib.Omega.{arith}
use lib.ListN.{length, get_or}
use Rattle.lists.specs.Lists.{Bytes}
use Rattle.signal.specs.Signal.{Input}
use Rattle.gate_bits.specs.Between.Slots.{Shows}
use Rattle.run_rows.specs.Rows.{row_of}
use Rattle.run_rows.specs.Between.Steps.{IsFlop, Shown, Held, RowTaken, RowRead, WorkedOut, SettledFor, RowSettled}
use Rattle.run_rows.specs.Between.Asks.{RowRoom, Workable}
use Rattle.run_rows.proofs.RowsOf.{row-text}

module _ {line : Bytes} {bits bits' : List Bool} {r : Bool} (read : RowRead line bits bits' r) where
  pub still-workable : {cells ps slots tables : List ℕ} → Workable cells ps slots tables bits → Workable cells ps slots tables bits'
  still-workable w = record {
    inputs = w.inputs;
    gates = w.gates;
    sorted = w.sorted;
    laid = w.laid;
    room = w.room;
    size = read.size ∙ w.size;
    const = read.const w.const;
  }

  -- the row's bits beside those that were held
  row-shown : (row : List Bool) → length row ≤ 256 → ((i : ℕ) → i < length row → Shows bits' (Input i) (get_or row i false)) → {cells : List ℕ} {n : ℕ} {held : ℕ → Bool}
      → Held cells n held bits → Shown row held (IsFlop cells n) bits'
  row-shown row few shows h = record {
    size = read.size ∙ h.size;
    const = read.const h.const;
    few_inputs = few;
    inputs = shows;
    few_gates = h.few_gates;
    gates = λ g k. read.gates g (h.few_gates g k) (h.gates g k);
  }

  pub row_settled : {cells ps : List ℕ} {n : ℕ} {bits'' : List Bool} → RowRoom line → r ≡ true → WorkedOut cells ps n bits' bits''
      → RowSettled cells ps n line bits bits'' true
  row_settled {cells} {ps} {n} {bits''} room e w = record {
    told = by (row_of (length line - 1) line) (λ row q. (row-text (length line - 1) line q).1) read.taken;
  }
    where
      by : (o : Option (List Bool)) → ((row : List Bool) → o ≡ some row → length row ≡ length line - 1) → RowTaken o bits' r
          → SettledFor cells ps n o bits bits'' true
      by none long t = absurd (true≢false (sym e ∙ t))
      by (some row) long t = (
        refl,
        λ held inputs outs net h. w.each row held inputs outs net (row-shown row (omega (arith, long row refl, room.few)) t.1 h),
      )
