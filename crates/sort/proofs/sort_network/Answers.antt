-- `sort_network` tests the cells before it sorts them. Assumes nothing.
use mathlib.Core.Path.{sym, ap, ◌∙◌}
use Prim.Native.Nat.{ℕ}
use Rattle.std.specs.Prelude.{Result}
use Rattle.sort.specs.declared.Unsorted.{Unsorted}
use Rattle.sort.specs.Between.Into.{sort_outcome}
use native.Mathlib.Omega.{arith}
use Rattle.network.proofs.Lent.{network-sizes}
use Rattle.sort.proofs.Lending.{network-sortable, no-network, no-gate-room, no-pin-room, sorts}
use Rattle.sort.proofs.sort_network.Goals as goal
use Rattle.sort.proofs.sort_network.Goals.{else-check_layout-via-then-check_layout+then-counts-new_gates+else-counts-new_pins, else-check_layout-via-then-check_layout+else-counts-new_gates, else-check_layout-via-else-check_layout}

pub overflow_mul-counts : goal.overflow_mul-counts
overflow_mul-counts c = omega (arith, (network-sizes _ (sym c.check_layout.ensures ∙ c.if-check_layout.true)).few.gates)

pub topo_sort-requires : goal.topo_sort-requires
topo_sort-requires c = network-sortable _ _ _
    (record { pin_words = λ i. omega (arith, c.type_inv.pins i); out_words = λ i. omega (arith, c.slice_known-1.given i) })
    (sym c.check_layout.ensures ∙ c.if-check_layout.true)
    c.if-counts-new_gates.true c.if-counts-new_pins.true

pub returns-then-counts-new_pins : goal.returns-then-counts-new_pins
returns-then-counts-new_pins c =
    ap (λ (a : Result ℕ Unsorted). sort_outcome a c.topo_sort.new.new_gates c.topo_sort.new.new_pins c.topo_sort.new.outputs) c.ok_or.ensures.value
    ∙ sorts _ _ _ (sym c.check_layout.ensures ∙ c.if-check_layout.true)
    c.if-counts-new_gates.true c.if-counts-new_pins.true _ _ _ _ c.topo_sort.ensures

pub returns-else-check_layout : goal.returns-else-check_layout
returns-else-check_layout c =
    elim c.else-check_layout.branch [
      | else-check_layout-via-then-check_layout+then-counts-new_gates+else-counts-new_pins w ↦ no-pin-room _ _ _ w.if-counts-new_pins.false
      | else-check_layout-via-then-check_layout+else-counts-new_gates w ↦ no-gate-room _ _ _ w.if-counts-new_gates.false
      | else-check_layout-via-else-check_layout w ↦ no-network _ _ _ (sym c.check_layout.ensures ∙ w.if-check_layout.false)
    ]
