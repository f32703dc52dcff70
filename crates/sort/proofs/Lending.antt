-- Cells that nothing is known of: which can be sorted, and what is answered where they cannot. Assumes nothing.
use mathlib.Core.Path.{◌≡◌, sym, ap, ◌∙◌}
use mathlib.Core.Bool.{true, false}
use mathlib.Core.List.{List}
use Prim.Native.Nat.{ℕ, ◌*◌, ◌≤◌, ◌<◌}
use native.Mathlib.Omega.{arith}
use lib.ListN.{length}
use borrow.Author.Tests.{le-leb, lt-leb}
use Rattle.lists.proofs.Tests.{and-false}
use Rattle.network.specs.declared.Counts.{Counts}
use Rattle.network.specs.Cells.{Lent, is_network, net_of, Words}
use Rattle.network.specs.Record.{gate_width, pin_cells}
use Rattle.network.proofs.Lent.{network-laid, network-readable, network-sizes}
use Rattle.std.specs.Prelude.{Err, ok_or}
use Rattle.sort.specs.declared.Unsorted.TheVariants.{Refused, Loop}
use Rattle.sort_order.specs.Sorted.{sorted}
use Rattle.sort.specs.Between.Into.{SortOutcome, sort_outcome, sort_into, can_sort, sort_lent}
use Rattle.sort_order.specs.Between.Sortable.{Sortable}
use Rattle.std.specs.declared.option.Option as std-option

-- a network that is lent can be sorted into cells that have room
pub network-sortable : (l : Lent) (new_gates new_pins : ℕ) → Words l → is_network l ≡ true
    → l.counts.gates * gate_width ≤ new_gates → l.counts.pins ≤ new_pins → Sortable l new_gates new_pins
network-sortable l new_gates new_pins w e g p =
    let laid = network-laid l w e in
    let sizes = network-sizes l e in
    let used : l.counts.pins ≡ length (pin_cells (net_of l).gates) = ap (λ (c : Counts). c.pins) laid.0.counted in
    record {
      few = sizes.few.gates;
      readable = network-readable l w e;
      valid = laid.1;
      outputs = sizes.outs-lent;
      few_pins = omega (arith, used, sizes.few.pins);
      room = g;
      pin_room = omega (arith, used, p);
    }

module _ (l : Lent) (gs ps : List ℕ) where
  unsorted : can_sort l (length gs) (length ps) ≡ false → sort_outcome (Err Refused) gs ps l.outs_lent ≡ sort_lent l gs ps
  unfolding sort_lent
  unsorted e = sym (simp e)

  -- no network
  pub no-network : is_network l ≡ false → sort_outcome (Err Refused) gs ps l.outs_lent ≡ sort_lent l gs ps
  unfolding can_sort
  no-network e = unsorted (simp e)

  -- no room for the gates
  pub no-gate-room : length gs < l.counts.gates * gate_width → sort_outcome (Err Refused) gs ps l.outs_lent ≡ sort_lent l gs ps
  unfolding can_sort
  no-gate-room h = unsorted (simp (lt-leb (l.counts.gates * gate_width) (length gs) h, and-false))

  -- no room for the pins
  pub no-pin-room : length ps < l.counts.pins → sort_outcome (Err Refused) gs ps l.outs_lent ≡ sort_lent l gs ps
  unfolding can_sort
  no-pin-room h = unsorted (simp (lt-leb l.counts.pins (length ps) h, and-false))

  -- the sort's answer and cells
  pub sorts : is_network l ≡ true → l.counts.gates * gate_width ≤ length gs → l.counts.pins ≤ length ps
      → (a : std-option.Option ℕ) (gs' ps' os' : List ℕ) → sort_outcome a gs' ps' os' ≡ sort_into (sorted (net_of l)) gs ps l.outs_lent
      → sort_outcome (ok_or a Loop) gs' ps' os' ≡ sort_lent l gs ps
  unfolding sort_lent can_sort
  sorts e g p a gs' ps' os' q =
      let t : can_sort l (length gs) (length ps) ≡ true =
      simp (e, le-leb (l.counts.gates * gate_width) (length gs) g, le-leb l.counts.pins (length ps) p) in
      ap (λ (o : SortOutcome (std-option.Option ℕ)). sort_outcome (ok_or o.answer Loop) o.gates o.pins o.outs) q ∙ sym (simp t)
