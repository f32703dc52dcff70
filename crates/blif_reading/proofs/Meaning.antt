-- A model that reading accepts has just the runs of the gates built for it, and of those gates sorted. Assumes nothing.
use mathlib.Core.Path.{◌≡◌, sym, ap, ◌∙◌}
use mathlib.Core.Bool.{Bool, false}
use mathlib.Core.List.{List}
use mathlib.Core.Option.{some}
use mathlib.Core.Logic.{◌↔◌}
use Prim.Native.Nat.{ℕ}
use lib.ListN.{get_elem?}
use Rattle.lists.specs.Lists.{Bytes, optional}
use Rattle.lists.proofs.Places.{place-mem, mem-place}
use Rattle.gates.specs.Gate.{start_bit}
use Rattle.network.specs.Net.{Net, Valid}
use Rattle.network.specs.Clock.{Clock, Runs, start_bits, NetRuns}
use Rattle.network.specs.Settle.{run}
use Rattle.network.proofs.Runs.{runs-along}
use Rattle.network.proofs.Summary.{one-run-start}
use Rattle.sort_order.specs.Sorted.{sorted}
use Rattle.sort_order.proofs.Summary.{sorted-run}
use Rattle.blif_meaning.specs.Model.{init_bit, LatchDef, Latch, Model, BlifClock, BlifRuns}
use Rattle.blif_reading.specs.Build.{build}
use Rattle.blif_reading.proofs.Lookups.{Looks}
use Rattle.blif_reading.specs.Lookup.{lookup}
use Rattle.blif_reading.specs.Accepts.{Accepts}
use Rattle.blif_reading.proofs.Lookups.{looks}
use Rattle.blif_reading.proofs.ModelToBuilt.{Holds, read-simulates}
use Rattle.blif_reading.proofs.BuiltToModel.{at_place, main-is, HoldsBack, held_by, held_by-holds, read-back-simulates}
use Rattle.blif_reading.proofs.BuiltValid.{built-valid}

abbrev pub built_of : Model Bytes → Net
built_of m = build (lookup m) m

module _ (m : Model Bytes) (acc : Accepts m) where
  pub looked : Looks m (lookup m)
  looked = looks m acc.formed.once

  pub accepted-valid : Valid (built_of m)
  accepted-valid = built-valid m (lookup m) looked acc.formed.closed

  -- the latches hold what the flip-flops built for them hold
  abbrev pub Related : (Bytes → Bool) → (ℕ → Bool) → Type 0
  Related held_b held_n = Holds m (lookup m) looked acc.formed.closed acc.formed.good held_b held_n

  -- the model's runs are those of the gates as built, from related values
  pub built-from : {held_b : Bytes → Bool} {held_n : ℕ → Bool} → Related held_b held_n → (rows outs : List (List Bool))
      → Runs (BlifClock m) held_b rows outs ↔ Runs (Clock (built_of m)) held_n rows outs
  built-from {held_b} {held_n} h rows outs = (
    runs-along Related (BlifClock m) (Clock (built_of m)) (read-simulates m (lookup m) looked acc.formed.closed acc.formed.good) held_b held_n rows outs h,
    runs-along (HoldsBack m (lookup m) looked acc.formed.closed acc.formed.good) (Clock (built_of m)) (BlifClock m)
        (read-back-simulates m (lookup m) looked acc.formed.closed acc.formed.good) held_n held_b rows outs h,
  )

  -- a flip-flop starts at the value that is taken for its latch
  start-taken : (j : ℕ) (l : LatchDef Bytes) → get_elem? m.blocks j ≡ some (Latch l) → start_bits (built_of m) j ≡ init_bit l.init
  start-taken j l e = ap (optional start_bit false) (main-is m (lookup m) j (Latch l) (at_place m (lookup m) j (Latch l) e))

  -- and from power-up
  pub built-means : (rows outs : List (List Bool)) → BlifRuns m rows outs ↔ NetRuns (built_of m) rows outs
  built-means rows outs = (
    (λ r. (built-from (λ j l e. start-taken j l e ∙ sym (r.starts l (place-mem m.blocks j (Latch l) e))) rows outs).0 r.runs),
    (λ r.
        let h : Related (held_by m (lookup m) looked acc.formed.closed acc.formed.good (start_bits (built_of m))) (start_bits (built_of m)) =
        held_by-holds m (lookup m) looked acc.formed.closed acc.formed.good (start_bits (built_of m)) in
        record {
          held = held_by m (lookup m) looked acc.formed.closed acc.formed.good (start_bits (built_of m));
          starts = λ l w. let t = mem-place m.blocks (Latch l) w in sym (h t.0 l t.1) ∙ start-taken t.0 l t.1;
          runs = (built-from h rows outs).1 r;
        }),
  )

  -- so for every list of rows the model has just one list of outputs
  pub model-run : (rows outs : List (List Bool)) → BlifRuns m rows outs ↔ (outs ≡ run (built_of m) rows)
  model-run rows outs =
      let a = built-means rows outs in
      let b = one-run-start (built_of m) accepted-valid acc.free rows outs in
      ((λ r. b.0 (a.0 r)), (λ e. a.1 (b.1 e)))

  -- that of the gates sorted
  pub sorted-means : (new : Net) → sorted (built_of m) ≡ some new → (rows outs : List (List Bool)) → BlifRuns m rows outs ↔ (outs ≡ run new rows)
  sorted-means new e rows outs =
      let a = model-run rows outs in
      let s : run new rows ≡ run (built_of m) rows = sorted-run (built_of m) new accepted-valid e rows in
      ((λ r. a.0 r ∙ sym s), (λ q. a.1 (q ∙ s)))
