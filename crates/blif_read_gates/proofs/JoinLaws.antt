-- The signals of a cover's lines, written one after the other. Assumes nothing.
use mathlib.Core.Path.{◌≡◌, refl, sym, ap, ap₂, ◌∙◌}
use mathlib.Core.List.{List, ◌∷◌, map}
use Prim.Native.Nat.{ℕ, zero, suc, ◌+◌, ◌-◌, ◌^◌, ◌≤◌, ◌<◌}
use native.Mathlib.Omega.{arith}
use lib.ListN.{length, set}
use Rattle.lists.specs.Between.Lists.{overwrite_at}
use Rattle.lists.proofs.Laying.{Laying, laying-next, laying-done}
use Rattle.signal.specs.Cell.{sig_cell}
use Rattle.signal.specs.Between.Cell.{gate_cell}
use Rattle.signal.proofs.Cells.{gate-cell}
use Rattle.network.specs.Sizes.{max_gates}
use Rattle.blif_reading.specs.Build.{gate_run}

-- the pins of the gate that joins n lines, whose gates start at number k
abbrev pub join_cells : ℕ → ℕ → List ℕ
join_cells k n = map sig_cell (gate_run k n)

-- i of them are laid
pub record Joining (pins₀ pins_in : List ℕ) (at next count i : ℕ) : Type 0 where
  pub within : i ≤ count
  pub laying : Laying (join_cells next count) pins₀ at (join_cells (next + i) (count - i)) pins_in (at + i)

pub joining-next : {pins₀ pins_in : List ℕ} {at next count i x : ℕ} → next + count ≤ max_gates → i < count → x ≡ gate_cell (next + i) → Joining pins₀ pins_in at next count i
    → Joining pins₀ (set pins_in (at + i) x) at next count (i + 1)
joining-next {next = next} {count} {i} few l q h =
    let m = count - (i + 1) in
    let f : next + (i + 1) ≡ suc (next + i) = omega arith in
    let g : count - i ≡ suc m = omega arith in
    let low : next + i < 2 ^ 30 - 1 = omega arith in
    let e = ap (join_cells (next + i)) g ∙ ap₂ (λ (y k : ℕ). y ∷ join_cells k m) (sym (q ∙ gate-cell (next + i) low)) (sym f) in
    record { within = omega arith; laying = laying-next h.laying e (omega arith) }

pub joining-done : {pins₀ pins_in : List ℕ} {at next count i : ℕ} → count ≤ i → Joining pins₀ pins_in at next count i
    → pins_in ≡ overwrite_at at (join_cells next count) pins₀
joining-done {next = next} {count} {i} l h =
    let g : count - i ≡ 0 = omega arith in
    laying-done h.laying (ap (join_cells (next + i)) g)

-- as many signals as gates
pub run_long : (k n : ℕ) → length (gate_run k n) ≡ n
run_long k zero = refl
run_long k (suc n) = ap suc (run_long (suc k) n)
