-- `read_outputs` gives each output its signal. Assumes nothing.
use Rattle.blif_read.proofs.Refusing.{holds-refused}
use Rattle.blif_read.proofs.Naming.{inside-first, outs-fit, output-refused, outputs-found}
use Rattle.blif_read.proofs.read_outputs.Goals as goal

pub resolve_names-requires-clause-inside : goal.resolve_names-requires-clause-inside
resolve_names-requires-clause-inside c = (inside-first _ c.requires.defining.tables.outputs-in, outs-fit c.requires.defining _ c.requires.enough.outputs)

pub returns-else-resolve_names : goal.returns-else-resolve_names
returns-else-resolve_names c = holds-refused _ _ _ _ _ (output-refused c.requires.defining c.resolve_names.ensures (c.if-resolve_names.false))

pub read_blocks-requires-clause-resolving : goal.read_blocks-requires-clause-resolving
read_blocks-requires-clause-resolving c = outputs-found c.requires.defining c.resolve_names.ensures (c.if-resolve_names.true) c.requires.enough.outputs
