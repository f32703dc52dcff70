-- `append_unless` writes the field or nothing. Assumes nothing.
use Rattle.signal.specs.Cell.{sig_of}
use Rattle.blif_write_names.proofs.Laws.{as-text}
use Rattle.blif_write_gates.proofs.Texts.{field-none, field-some}
use Rattle.blif_write_gates.proofs.append_unless.Goals as goal

pub returns-then-is_value : goal.returns-then-is_value
returns-then-is_value c = as-text (field-none c.args.value c.args.before.now (sig_of c.args.s.a) c.is_value.ensures c.if-is_value.true) c.append.ensures

pub returns-else-is_value : goal.returns-else-is_value
returns-else-is_value c = as-text (field-some c.args.value c.args.before.now (sig_of c.args.s.a) c.is_value.ensures c.if-is_value.false) c.append_name.ensures
