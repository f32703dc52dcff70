-- `write_nary_lines` writes the lines by the type. Assumes nothing.
use mathlib.Core.Bool.{true, false}
use Rattle.blif_meaning.specs.Model.{C0, C1}
use Rattle.blif_write_names.proofs.Laws.{as-wrote}
use Rattle.blif_write_cubes.proofs.FormLines.{lines_at, same_line, xor-lines, xnor-lines}
use Rattle.blif_write_cubes.proofs.write_nary_lines.Goals as goal

pub returns-in-And : goal.returns-in-And
returns-in-And c = as-wrote (lines_at c.args.num_vars c.in-And.is (same_line c.args.num_vars C1 true)) c.write_same_cube.ensures

pub returns-in-Or : goal.returns-in-Or
returns-in-Or c = as-wrote (lines_at c.args.num_vars c.in-Or.is (same_line c.args.num_vars C0 false)) c.write_same_cube-in-Or.ensures

pub returns-in-Nand : goal.returns-in-Nand
returns-in-Nand c = as-wrote (lines_at c.args.num_vars c.in-Nand.is (same_line c.args.num_vars C1 false)) c.write_same_cube-in-Nand.ensures

pub returns-in-Nor : goal.returns-in-Nor
returns-in-Nor c = as-wrote (lines_at c.args.num_vars c.in-Nor.is (same_line c.args.num_vars C0 true)) c.write_same_cube-in-Nor.ensures

pub returns-in-Xor : goal.returns-in-Xor
returns-in-Xor c = as-wrote (lines_at c.args.num_vars c.in-Xor.is (xor-lines c.args.num_vars)) c.write_masks.ensures

pub returns-in-Xnor : goal.returns-in-Xnor
returns-in-Xnor c = as-wrote (lines_at c.args.num_vars c.in-Xnor.is (xnor-lines c.args.num_vars)) c.write_masks-in-Xnor.ensures
