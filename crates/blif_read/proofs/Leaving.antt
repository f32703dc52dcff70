-- From the cells in use to every cell: what is left when all others are cleared. Assumes nothing.
use Rattle.std.specs.Prelude.{Result, Ok, Err}
use mathlib.Core.Path.{◌≡◌, sym, ap, ◌∙◌, subst}
use mathlib.Core.List.{List}
use Prim.Native.Nat.{ℕ, ◌*◌, ◌^◌, ◌≤◌, ◌<◌}
use native.Mathlib.Omega.{arith}
use lib.ListN.{length, take, length-take}
use Rattle.lists.specs.Lists.{Bytes, zeros, overwrite}
use Rattle.network.specs.Cells.{counts_of}
use Rattle.network.specs.Record.{gate_width}
use Rattle.network.specs.declared.Counts.{Counts}
use Rattle.network.proofs.Laying.{length-gate_cells}
use Rattle.blif_read.specs.Into.{Lengths, read_outcome, leaving, filled, read_into, answered}
use Rattle.blif_read.specs.Between.Stages.{counts_in, Holds}
use Rattle.network.specs.Net.{Net}
use Rattle.refusals.specs.declared.Refusal.{Refusal}

-- ---- the other cells cleared

-- the result's cells are what the answer keeps
pub kept-filled : (r : Result Net Refusal) (a : Result Counts Refusal) (gs ps os : List ℕ) (n : Lengths) → Holds r a gs ps os
    → leaving a (take ((counts_in a).gates * gate_width) gs) (take (counts_in a).pins ps) (take (counts_in a).outputs os) n ≡ filled r n
kept-filled (Err r) a gs ps os n h =
    ap (λ (x : Result Counts Refusal). leaving x (take ((counts_in x).gates * gate_width) gs) (take (counts_in x).pins ps) (take (counts_in x).outputs os) n) h
kept-filled (Ok net) a gs ps os n h =
    ap (λ (x : Result Counts Refusal). leaving x (take ((counts_in x).gates * gate_width) gs) (take (counts_in x).pins ps) (take (counts_in x).outputs os) n) h.0
    ∙ (λ j. leaving (Ok (counts_of net)) (h.1.gates_laid j) (h.1.pins_laid j) (h.1.outs_laid j) n)

-- the records that an answer counts are within the cells
counts-within : (r : Result Net Refusal) (a : Result Counts Refusal) (gs ps os : List ℕ) → Holds r a gs ps os → (counts_in a).gates * gate_width ≤ length gs
counts-within (Err r) a gs ps os h = subst (λ (x : Result Counts Refusal). (counts_in x).gates * gate_width ≤ length gs) (sym h) (omega arith)
counts-within (Ok net) a gs ps os h =
    let e : length (take (length net.gates * gate_width) gs) ≡ length net.gates * gate_width = ap length h.1.gates_laid ∙ length-gate_cells 0 net.gates in
    subst (λ (x : Result Counts Refusal). (counts_in x).gates * gate_width ≤ length gs) (sym h.0) (omega (arith, e, length-take (length net.gates * gate_width) gs))

-- each slice is cleared behind what the answer counts, the working cells from the start
pub all-cleared : (text : Bytes) (n : Lengths) (a : Result Counts Refusal) (k : Counts) (gs ps os g p o wg wp : List ℕ) → Holds (answered text n) a gs ps os
    → k ≡ counts_in a → length gs ≡ n.gates → length ps ≡ n.pins → length os ≡ n.outputs
    → g ≡ overwrite (take (k.gates * gate_width) gs) (zeros (length gs)) → p ≡ overwrite (take k.pins ps) (zeros (length ps)) → o ≡ overwrite (take k.outputs os) (zeros (length os))
    → wg ≡ zeros n.work_gates → wp ≡ zeros n.work_pins → read_outcome a g p o wg wp ≡ read_into text n
unfolding read_into
all-cleared text n a k gs ps os g p o wg wp h q lg lp lo eg ep eo ew ex =
    (λ j. read_outcome a (eg j) (ep j) (eo j) (ew j) (ex j))
    ∙ (λ j.
    read_outcome a (overwrite (take ((q j).gates * gate_width) gs) (zeros (lg j))) (overwrite (take (q j).pins ps) (zeros (lp j))) (overwrite (take (q j).outputs os) (zeros (lo j)))
    (zeros n.work_gates) (zeros n.work_pins))
    ∙ kept-filled (answered text n) a gs ps os n h

-- so many cells can be counted
pub counts-fit : (text : Bytes) (n : Lengths) (a : Result Counts Refusal) (k : Counts) (gs ps os : List ℕ) (m : ℕ) → Holds (answered text n) a gs ps os → k ≡ counts_in a → length gs ≡ m → m < 2 ^ 64
    → k.gates * gate_width < 2 ^ 64
counts-fit text n a k gs ps os m h q e l = omega (arith, counts-within (answered text n) a gs ps os h, ap (λ (x : Counts). x.gates) q, e, l)
