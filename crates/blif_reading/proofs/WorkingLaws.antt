-- Gates in the working cells: what is written into other records and behind the pins in use leaves them. Assumes nothing.
use mathlib.Core.Path.{◌≡◌, sym, ap, ap₂, ◌∙◌}
use mathlib.Core.List.{List, map}
use mathlib.Core.Logic.{◌⊎◌, inl, ⊎_elim}
use Prim.Native.Nat.{ℕ, ◌+◌, ◌*◌, ◌≤◌}
use native.Mathlib.Omega.{arith}
use lib.ListN.{length, take, drop, length-map}
use Rattle.lists.specs.Between.Lists.{overwrite_at}
use Rattle.lists.proofs.OverAt.{run-before, drop-behind, run-overwrite_at}
use Rattle.signal.specs.Cell.{sig_cell}
use Rattle.gates.specs.Gate.{Gate, pins}
use Rattle.network.specs.Record.{gate_width, record_of, run_at}
use Rattle.network.specs.Between.Record.{RecordIn}
use Rattle.network.proofs.RecordCells.{RecordIs, record_is, length-record_of, record_at-written, record_at-apart, record_in-written}
use Rattle.blif_reading.specs.Between.Working.{GateIn}

-- ---- what the record and the run of a gate tell

module _ {gates pins_in : List ℕ} {used h : ℕ} {x : Gate} (g : GateIn gates pins_in used h x) where
  pub gate-parts : RecordIs gates h g.at x
  gate-parts = record_is g.inside g.is

  pub gate-run : run_at gates pins_in h ≡ map sig_cell (pins x)
  gate-run = ap₂ (λ (k a : ℕ). take k (drop a pins_in)) gate-parts.count gate-parts.first ∙ g.run

-- ---- what leaves it

-- another record is written
pub record-kept : {gates pins_in : List ℕ} {used h : ℕ} {x : Gate} (j : ℕ) (r : List ℕ) → length r ≡ gate_width → (h ≡ j → ⊥) → GateIn gates pins_in used h x
    → GateIn (overwrite_at (j * gate_width) r gates) pins_in used h x
record-kept {gates} {h = h} j r l n g =
    record {
      inside = record_in-written (j * gate_width) r g.inside;
      at = g.at;
      is = record_at-apart gates r h j l n ∙ g.is;
      within = g.within;
      run = g.run;
    }

-- pins are written before the gate's run or behind it
pub run-apart : {gates pins_in : List ℕ} {used h : ℕ} {x : Gate} (at : ℕ) (t : List ℕ) (g : GateIn gates pins_in used h x)
    → (g.at + length (pins x) ≤ at) ⊎ (at + length t ≤ g.at) → GateIn gates (overwrite_at at t pins_in) used h x
run-apart {pins_in = pins_in} {x = x} at t g o =
    let n = length (pins x) in
    let e : take n (drop g.at (overwrite_at at t pins_in)) ≡ take n (drop g.at pins_in) =
    ⊎_elim (λ l. run-before at t pins_in g.at n l) (λ l. ap (take n) (drop-behind at t pins_in g.at l)) o in
    record { inside = g.inside; at = g.at; is = g.is; within = g.within; run = e ∙ g.run }

-- pins are written behind those in use
pub run-kept : {gates pins_in : List ℕ} {used h : ℕ} {x : Gate} (at : ℕ) (t : List ℕ) → used ≤ at → GateIn gates pins_in used h x
    → GateIn gates (overwrite_at at t pins_in) used h x
run-kept at t l g = run-apart at t g (inl (omega (arith, g.within)))

-- more pins are in use
pub used-more : {gates pins_in : List ℕ} {used h : ℕ} {x : Gate} (more : ℕ) → used ≤ more → GateIn gates pins_in used h x → GateIn gates pins_in more h x
used-more more l g = record { inside = g.inside; at = g.at; is = g.is; within = omega (arith, g.within); run = g.run }

-- ---- a gate's record and its run are written

pub gate-written : (gates pins_in : List ℕ) (at h : ℕ) (x : Gate) → RecordIn gates h → at + length (pins x) ≤ length pins_in
    → GateIn (overwrite_at (h * gate_width) (record_of at x) gates) (overwrite_at at (map sig_cell (pins x)) pins_in) (at + length (pins x)) h x
gate-written gates pins_in at h x l r =
    let n : length (map sig_cell (pins x)) ≡ length (pins x) = length-map (pins x) sig_cell in
    record {
      inside = record_in-written (h * gate_width) (record_of at x) l;
      at = at;
      is = record_at-written gates (record_of at x) h l (length-record_of at x);
      within = omega arith;
      run =
          ap (λ (k : ℕ). take k (drop at (overwrite_at at (map sig_cell (pins x)) pins_in))) (sym n)
          ∙ run-overwrite_at at (map sig_cell (pins x)) pins_in (omega (arith, n));
    }
