-- `lower_use` lowers one count, and pushes its gate at zero. Assumes nothing.
use mathlib.Core.Path.{sym, ◌∙◌}
use Prim.Native.Nat.{◌<◌}
use native.Mathlib.Omega.{arith}
use lib.ListN.{get_or}
use Rattle.network.specs.Sizes.{max_gates}
use Rattle.sort.proofs.Naming.{rises-none, rises-lowered}
use Rattle.sort.proofs.Stack.{lowered_none, lowered-stay, lowered-push, from_top-push}
use Rattle.sort.proofs.lower_use.Goals as goal

pub returns-then-not-is_var : goal.returns-then-not-is_var
returns-then-not-is_var c = record { lowered = lowered_none _ (sym c.is_var.ensures ∙ c.if-not-is_var.true); rises = rises-none }

pub returns-then-counts-d-ne0 : goal.returns-then-counts-d-ne0
returns-then-counts-d-ne0 c = record {
  lowered = lowered-stay _ ((sym c.is_var.ensures ∙ c.if-not-is_var.false)) c.var-d.ensures (omega (
    arith,
    (let fits : (c.var-d.result < max_gates)
        × (0 < get_or c.args.counts.now c.var-d.result 0)
        × (c.args.top < max_gates) = (rw c.var-d.ensures (c.requires.lowers.below ((sym c.is_var.ensures ∙ c.if-not-is_var.false))), rw c.var-d.ensures (c.requires.lowers.used ((sym c.is_var.ensures ∙ c.if-not-is_var.false))), c.requires.lowers.room ((sym c.is_var.ensures ∙ c.if-not-is_var.false))) in fits),
  )) c.if-counts-d-ne0.true;
  rises = rises-lowered _ _;
}

pub returns : goal.returns
returns c = record {
  lowered = lowered-push _ ((sym c.is_var.ensures ∙ c.if-not-is_var.false)) c.var-d.ensures (omega (
    arith,
    (let fits : (c.var-d.result < max_gates)
        × (0 < get_or c.args.counts.now c.var-d.result 0)
        × (c.args.top < max_gates) = (rw c.var-d.ensures (c.requires.lowers.below ((sym c.is_var.ensures ∙ c.if-not-is_var.false))), rw c.var-d.ensures (c.requires.lowers.used ((sym c.is_var.ensures ∙ c.if-not-is_var.false))), c.requires.lowers.room ((sym c.is_var.ensures ∙ c.if-not-is_var.false))) in fits),
  )) c.if-counts-d-ne0.false
      (rw c.narrow.ensures (from_top-push c.args.stack.now c.args.top c.var-d.result (omega (
        arith,
        (let fits : (c.var-d.result < max_gates)
            × (0 < get_or c.args.counts.now c.var-d.result 0)
            × (c.args.top < max_gates) = (rw c.var-d.ensures (c.requires.lowers.below ((sym c.is_var.ensures ∙ c.if-not-is_var.false))), rw c.var-d.ensures (c.requires.lowers.used ((sym c.is_var.ensures ∙ c.if-not-is_var.false))), c.requires.lowers.room ((sym c.is_var.ensures ∙ c.if-not-is_var.false))) in fits),
      ))));
  rises = rises-lowered _ _;
}
