-- `write_blif` refuses by the layout, then by the gates' inputs, then by the length. Assumes nothing.
use native.Mathlib.Omega.{arith}
use mathlib.Core.Path.{sym, ◌∙◌}
use lib.ListN.{length}
use Rattle.network.specs.Cells.{net_of, lent}
use Rattle.network.proofs.Lent.{network-sizes}
use Rattle.blif_write.proofs.Walks.{wide_read}
use Rattle.blif_write.proofs.Whole.{network-read, answers-layout, answers-wide}
use Rattle.blif_write.proofs.write_blif.Goals as goal

pub any_wide-requires : goal.any_wide-requires
any_wide-requires c = (network-sizes ((lent c.args.counts c.args.gates.now c.args.pins.now c.args.outputs.now)) ((sym c.check_layout.ensures ∙ c.if-not-check_layout.false))).gates-lent

pub write_network-requires : goal.write_network-requires
unfolding net_of
write_network-requires c = record { network = (sym c.check_layout.ensures ∙ c.if-not-check_layout.false); narrow = sym (wide_read ((network-read ((lent c.args.counts c.args.gates.now c.args.pins.now c.args.outputs.now)) (λ i. omega (arith, c.type_inv.pins i)) (λ i. omega (arith, c.type_inv.outputs i)) ((sym c.check_layout.ensures ∙ c.if-not-check_layout.false))))) ∙ sym c.any_wide.ensures ∙ c.if-any_wide.false; readable = (network-read ((lent c.args.counts c.args.gates.now c.args.pins.now c.args.outputs.now)) (λ i. omega (arith, c.type_inv.pins i)) (λ i. omega (arith, c.type_inv.outputs i)) ((sym c.check_layout.ensures ∙ c.if-not-check_layout.false))) }

pub returns-then-not-check_layout : goal.returns-then-not-check_layout
returns-then-not-check_layout c = c.refuse.ensures ∙ answers-layout _ (length c.args.out.now) (sym c.check_layout.ensures ∙ c.if-not-check_layout.true)

pub returns-then-any_wide : goal.returns-then-any_wide
unfolding net_of
returns-then-any_wide c = c.refuse-then-any_wide.ensures ∙ answers-wide ((lent c.args.counts c.args.gates.now c.args.pins.now c.args.outputs.now)) (length c.args.out.now) ((sym c.check_layout.ensures ∙ c.if-not-check_layout.false)) (sym (wide_read ((network-read ((lent c.args.counts c.args.gates.now c.args.pins.now c.args.outputs.now)) (λ i. omega (arith, c.type_inv.pins i)) (λ i. omega (arith, c.type_inv.outputs i)) ((sym c.check_layout.ensures ∙ c.if-not-check_layout.false))))) ∙ sym c.any_wide.ensures ∙ c.if-any_wide.true)
