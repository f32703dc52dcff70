-- `remap_order`: what is no gate of the table stays, and a gate of it gets its new number. Assumes nothing.
use Rattle.std.proofs.Common.{ℕ, sym, ap, ◌∙◌, arith}
use Rattle.signal.specs.Signal.{xor_s}
use Rattle.signal.specs.Cell.{sig_cell, sig_of}
use Rattle.signal.specs.Between.Cell.{gate_cell}
use Rattle.signal.proofs.Remap.{remap-other, remap-past, remap-gate}
use Rattle.signal.proofs.Signal.remap_order.Goals as goal

pub returns-then-not-is_var : goal.returns-then-not-is_var
returns-then-not-is_var c = remap-other _ _ (sym c.is_var.ensures ∙ c.if-not-is_var.true)

pub returns-in-Some : goal.returns-in-Some
returns-in-Some c = let found = c.in-Some.ensures.lookup.3 in
    c.xor.ensures
    ∙ ap (λ (x : ℕ). sig_cell (xor_s (sig_of x) c.is_inverted.result)) (c.from_var.ensures ∙ ap gate_cell (c.from.ensures ∙ found.1 0))
    ∙ remap-gate _ _ (sym c.is_var.ensures ∙ c.if-not-is_var.false) c.var.ensures found.0 (omega (arith, c.type_inv.t c.var.result)) c.is_inverted.ensures

pub returns-in-None : goal.returns-in-None
returns-in-None c = remap-past _ _ (rw (sym c.var.ensures) c.in-None.ensures.lookup.3)
