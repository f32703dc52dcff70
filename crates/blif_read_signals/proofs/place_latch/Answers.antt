-- `place_latch` finds the input and the start value, and lays a flip-flop. Assumes nothing.
use mathlib.Core.Path.{ap, ◌∙◌}
use native.Mathlib.Omega.{arith}
use lib.ListN.{length}
use Rattle.blif_text.proofs.RowWalk.{part-inside}
use Rattle.name_index.specs.Between.Search.{signal_in}
use Rattle.name_index.specs.Between.Index.{entry_count, entries_of}
use Rattle.blif_read_signals.specs.Between.Steps.{latch_of}
use Rattle.blif_read_signals.proofs.OneGate.{latch-missing, latch-placed, start-told}
use Rattle.blif_read_signals.proofs.place_latch.Goals as goal

pub returns-then-input-eq0 : goal.returns-then-input-eq0
returns-then-input-eq0 c = let l = latch_of c.args.text.now c.args.tokens.now in
    latch-missing (signal_in (entries_of c.args.text.now c.args.index.now (entry_count c.args.index.now))) l.input l.output l.init ((c.find_signal-input.ensures ∙ ap (signal_in (entries_of c.args.text.now c.args.index.now (entry_count c.args.index.now))) c.token.ensures))
    c.args.j c.args.at c.args.gates.now c.args.pins.now c.if-input-eq0.true

pub latch_start-requires : goal.latch_start-requires
latch_start-requires c = part-inside 2 (length c.args.tokens.now) c.requires.index.1.inside (omega arith)

pub returns : goal.returns
returns c = let l = latch_of c.args.text.now c.args.tokens.now in
    latch-placed (signal_in (entries_of c.args.text.now c.args.index.now (entry_count c.args.index.now))) l.input l.output l.init ((c.find_signal-input.ensures ∙ ap (signal_in (entries_of c.args.text.now c.args.index.now (entry_count c.args.index.now))) c.token.ensures))
    c.one.result c.zero.result c.unwrap_or-start.result c.args.j c.args.at c.args.gates.now c.args.pins.now c.requires.gate_room
    c.if-input-eq0.false c.one.ensures c.zero.ensures
    (start-told c.args.text.now c.args.tokens.now c.unwrap_or-start.ensures c.latch_start.ensures) c.lay_gate.ensures
