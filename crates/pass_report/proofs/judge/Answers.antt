-- `judge` reads the netlist, and goes on with the network read. Assumes nothing.
use Rattle.std.proofs.lemmas.Result.{err_from_is_err_and}
use mathlib.Core.Path.{◌∙◌}
use Rattle.pass_report.proofs.ReadNetlists.{refused-is, read-ready, read_is}
use Rattle.pass_report.proofs.judge.Goals as goal

pub judge_network-requires : goal.judge_network-requires
judge_network-requires c = read-ready _ _ c.read_blif.ensures _ c.in_ok-counts.was c.requires

pub returns : goal.returns
returns c = c.judge_network.ensures ∙ read_is _ _ c.read_blif.ensures _ c.in_ok-counts.was

pub returns-in_err-counts : goal.returns-in_err-counts
returns-in_err-counts c = let p = err_from_is_err_and c.from_residual.result c.from_residual.ensures.1 in
    rw (p.1, p.2) (refused-is _ _ c.read_blif.ensures _ c.in_err-counts.was)
