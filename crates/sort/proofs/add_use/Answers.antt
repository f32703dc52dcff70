-- `add_use` raises the count of the gate that a pin names. Assumes nothing.
use mathlib.Core.Path.{sym, ◌∙◌}
use Prim.Native.Nat.{◌+◌, ◌≤◌, ◌<◌}
use native.Mathlib.Omega.{arith}
use lib.ListN.{length, get_or}
use Rattle.network.specs.Sizes.{max_pins}
use Rattle.sort.proofs.Naming.{occ-own, named_none, raised-gate, raised-none, rises-gate, rises-none}
use Rattle.sort.proofs.add_use.Goals as goal

pub bounds-counts-g : goal.bounds-counts-g
bounds-counts-g c = ((let h : (c.var-g.result < length c.args.counts.now)
    × (get_or c.args.counts.now c.var-g.result 0 + 1 ≤ max_pins) = let o = occ-own c.args.s ((sym c.is_var.ensures ∙ c.if-is_var.true)) c.var-g.ensures in
    (c.requires.index c.var-g.result (omega (arith, o)), c.requires.room c.var-g.result) in h)).0

pub bounds-counts-g-then-is_var : goal.bounds-counts-g-then-is_var
bounds-counts-g-then-is_var c = ((let h : (c.var-g.result < length c.args.counts.now)
    × (get_or c.args.counts.now c.var-g.result 0 + 1 ≤ max_pins) = let o = occ-own c.args.s ((sym c.is_var.ensures ∙ c.if-is_var.true)) c.var-g.ensures in
    (c.requires.index c.var-g.result (omega (arith, o)), c.requires.room c.var-g.result) in h)).0

pub returns-then-is_var : goal.returns-then-is_var
returns-then-is_var c = record {
  raised = raised-gate _ ((sym c.is_var.ensures ∙ c.if-is_var.true)) c.var-g.ensures ((let h : (c.var-g.result < length c.args.counts.now)
      × (get_or c.args.counts.now c.var-g.result 0 + 1 ≤ max_pins) = let o = occ-own c.args.s ((sym c.is_var.ensures ∙ c.if-is_var.true)) c.var-g.ensures in
      (c.requires.index c.var-g.result (omega (arith, o)), c.requires.room c.var-g.result) in h)).0;
  rises = rises-gate ((let h : (c.var-g.result < length c.args.counts.now)
      × (get_or c.args.counts.now c.var-g.result 0 + 1 ≤ max_pins) = let o = occ-own c.args.s ((sym c.is_var.ensures ∙ c.if-is_var.true)) c.var-g.ensures in
      (c.requires.index c.var-g.result (omega (arith, o)), c.requires.room c.var-g.result) in h)).0;
}

pub returns-else-is_var : goal.returns-else-is_var
returns-else-is_var c = record { raised = raised-none (named_none _ (sym c.is_var.ensures ∙ c.if-is_var.false)); rises = rises-none }
