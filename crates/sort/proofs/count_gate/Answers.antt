-- `count_gate` counts the pins of a combinational gate. Assumes nothing.
use mathlib.Core.Path.{sym, ap, ◌∙◌}
use lib.ListN.{length}
use Rattle.sort.specs.Between.Steps.{gate_ins}
use Rattle.sort.proofs.Uses.{run-counted, flop-uses, comb-uses}
use Rattle.sort.proofs.Naming.{raised-none, raised-as, countable-as, rises-none, rises-as}
use Rattle.sort.proofs.count_gate.Goals as goal

pub add_uses-requires : goal.add_uses-requires
add_uses-requires c = let t = sym c.is_comb.ensures ∙ c.if-is_comb.true in
    countable-as (sym (ap gate_ins c.gate_pins.ensures ∙ comb-uses _ _ _ t)) (sym (ap length c.gate_pins.ensures ∙ run-counted c.requires.has_run)) c.requires.countable

pub returns-then-is_comb : goal.returns-then-is_comb
returns-then-is_comb c = let t = sym c.is_comb.ensures ∙ c.if-is_comb.true in
    record { raised = raised-as (ap gate_ins c.gate_pins.ensures ∙ comb-uses _ _ _ t) c.add_uses.ensures.raised; rises = rises-as (ap length c.gate_pins.ensures ∙ run-counted c.requires.has_run) c.add_uses.ensures.rises }

pub returns-else-is_comb : goal.returns-else-is_comb
returns-else-is_comb c = record { raised = raised-none (flop-uses _ _ _ (sym c.is_comb.ensures ∙ c.if-is_comb.false)); rises = rises-none }
