-- `report` reads the sheet, and goes on with its commands. Assumes nothing.
use native.Mathlib.Omega.{arith}
use lib.ListN.{length}
use Rattle.blif_read.specs.Into.{lengths, answered}
use Rattle.blif_write_names.proofs.Laws.{as-wrote, from_start}
use Rattle.pass_report.proofs.Reporting.{refused-report, commands-few, part-inside, few-judged, printed-is}
use Rattle.pass_report.proofs.report.Goals as goal

pub overflow_add-end : goal.overflow_add-end
overflow_add-end c = omega (arith, part-inside ((c.args.sheet.now)) c.read_sheet.ensures c.in-Ok.is)

pub judge-judged-requires : goal.judge-judged-requires
judge-judged-requires c = commands-few ((c.args.sheet.now)) c.read_sheet.ensures c.in-Ok.is

pub slice_bounds-put_judged-end : goal.slice_bounds-put_judged-end
slice_bounds-put_judged-end c = part-inside ((c.args.sheet.now)) c.read_sheet.ensures c.in-Ok.is

pub put_judged-requires : goal.put_judged-requires
put_judged-requires c = few-judged ((c.args.sheet.now)) c.read_sheet.ensures c.in-Ok.is ((answered c.args.netlist.now (lengths (length c.args.gates.now) (length c.args.pins.now) (length c.args.outputs.now) (length c.args.work_gates.now) (length c.args.work_pins.now)))) c.judge-judged.ensures

pub returns-in-Ok : goal.returns-in-Ok
returns-in-Ok c = as-wrote (printed-is ((c.args.sheet.now)) c.read_sheet.ensures c.in-Ok.is ((answered c.args.netlist.now (lengths (length c.args.gates.now) (length c.args.pins.now) (length c.args.outputs.now) (length c.args.work_gates.now) (length c.args.work_pins.now)))) c.judge-judged.ensures) c.put_judged.ensures

pub returns-in-Err : goal.returns-in-Err
returns-in-Err c = as-wrote (refused-report c.args.sheet.now ((answered c.args.netlist.now (lengths (length c.args.gates.now) (length c.args.pins.now) (length c.args.outputs.now) (length c.args.work_gates.now) (length c.args.work_pins.now)))) c.read_sheet.ensures c.in-Err.is) (from_start c.append_refused.ensures)
