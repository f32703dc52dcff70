-- What `topo_sort` answers and leaves in the cells that it fills (document 01: "Pins here are the sorted gates' inputs, laid in gate
-- order"). Assumes nothing: these are definitions.
use Rattle.std.specs.Prelude.{Bool, ◌&&◌, cond, List, map, ℕ, ◌*◌, leb, length, Some, None, Result, Err, ok_or}
use Rattle.std.proofs.Math.Option.{Option, none, some}
use Rattle.lists.specs.Lists.{overwrite}
use Rattle.signal.specs.Cell.{sig_cell}
use Rattle.network.specs.Net.{Net}
use Rattle.network.specs.Cells.{Lent, net_of, is_network}
use Rattle.network.specs.Record.{gate_width, gate_cells, pin_cells}
use Rattle.sort.specs.declared.Unsorted.{Unsorted}
use Rattle.sort.specs.declared.Unsorted.TheVariants.{Refused, Loop}
use Rattle.sort_order.specs.Sorted.{sorted}
use Rattle.std.specs.declared.option.Option as std-option

-- an answer, and what the cells hold then
pub record SortOutcome (A : Type 0) : Type 0 where
  -- what was answered
  pub answer : A
  -- the new gate cells
  pub gates : List ℕ
  -- the new pin cells
  pub pins : List ℕ
  -- the outputs
  pub outs : List ℕ

-- the same, from its parts
abbrev pub sort_outcome : {A : Type 0} → A → List ℕ → List ℕ → List ℕ → SortOutcome A
sort_outcome a gs ps os = record { answer = a; gates = gs; pins = ps; outs = os }

-- a sorted network's gates, pins and outputs laid over the cells, with its pin count as the answer; at a loop nothing is written
unfoldable pub sort_into : Option Net → List ℕ → List ℕ → List ℕ → SortOutcome (std-option.Option ℕ)
sort_into none gs ps os = sort_outcome None gs ps os
sort_into (some net) gs ps os =
    sort_outcome (Some (length (pin_cells net.gates))) (overwrite (gate_cells 0 net.gates) gs) (overwrite (pin_cells net.gates) ps)
    (overwrite (map sig_cell net.outputs) os)

-- cells that nothing is known of can be sorted: they are a network, and the new cells have room for it
unfoldable pub can_sort : Lent → ℕ → ℕ → Bool
can_sort l new_gates new_pins = is_network l && leb (l.counts.gates * gate_width) new_gates && leb l.counts.pins new_pins

-- the sort of such cells; where they cannot be sorted they are refused and nothing is written
unfoldable pub sort_lent : Lent → List ℕ → List ℕ → SortOutcome (Result ℕ Unsorted)
sort_lent l gs ps =
    let o = sort_into (sorted (net_of l)) gs ps l.outs_lent in
    cond (can_sort l (length gs) (length ps)) (sort_outcome (ok_or o.answer Loop) o.gates o.pins o.outs) (sort_outcome (Err Refused) gs ps l.outs_lent)
