-- `read_text` tests the text's length and bytes. Assumes nothing.
use mathlib.Core.Path.{sym, ◌∙◌}
use borrow.Author.Tests.{lt-ltb, le-ltb}
use Rattle.blif_text.specs.Lines.{max_text}
use Rattle.blif_read.proofs.Refusing.{holds-refused, too_long_lem, high_byte, readable}
use Rattle.blif_read.proofs.read_text.Goals as goal

pub returns-then-text-gt-MAX_TEXT : goal.returns-then-text-gt-MAX_TEXT
returns-then-text-gt-MAX_TEXT c = holds-refused _ _ _ _ _ (too_long_lem _ (lt-ltb max_text _ c.if-text-gt-MAX_TEXT.true))

pub returns-then-has_high_byte : goal.returns-then-has_high_byte
returns-then-has_high_byte c = holds-refused _ _ _ _ _ (high_byte _ (le-ltb max_text _ c.if-text-gt-MAX_TEXT.false) (sym c.has_high_byte.ensures ∙ c.if-has_high_byte.true))

pub read_tokens-requires-clause-plain_text : goal.read_tokens-requires-clause-plain_text
read_tokens-requires-clause-plain_text c = readable _ (le-ltb max_text _ c.if-text-gt-MAX_TEXT.false) c.if-text-gt-MAX_TEXT.false (sym c.has_high_byte.ensures ∙ c.if-has_high_byte.false)
