-- `put_columns` writes one column after the other. Assumes nothing.
use native.Mathlib.Omega.{arith}
use mathlib.Core.Path.{◌≡◌, subst}
use Rattle.blif_write_names.specs.Between.Text.{Wrote}
use Rattle.blif_write_names.proofs.Parts.{putting-next, putting-full, putting-done}
use Rattle.blif_write_cubes.specs.Between.Lines.{mask_columns}
use Rattle.blif_write_cubes.proofs.Lines.{columns-next, columns-end}
use Rattle.blif_write_cubes.proofs.put_columns.Goals as goal

pub returns-then-i-out : goal.returns-then-i-out
returns-then-i-out c = putting-full c.loop-i.invariant (columns-next _ _ _ c.loop-i-test.true) c.if-i-out.true

pub loop-i-preserved : goal.loop-i-preserved
loop-i-preserved c = putting-next c.loop-i.invariant (columns-next _ _ _ c.loop-i-test.true) c.if-i-out.false

pub returns : goal.returns
returns c = let e : c.loop-i.i ≡ c.args.num_vars = omega (arith, c.loop-i.auto.i-end, c.loop-i-test.false) in subst (Wrote (mask_columns c.args.num_vars c.args.mask) c.args.out.now c.loop-i.out) e (putting-done c.loop-i.invariant (columns-end c.args.num_vars c.loop-i.i c.loop-i.left c.loop-i-test.false))
