-- Refusals in order: of several the first counts (document 01, "Reading refuses, in order"). Assumes nothing: these are definitions.
--   fine           nothing is refused
--   a or_else b    the refusal of a, else that of b
--   refuse_if c r  the refusal r where the test c holds
use Rattle.std.specs.Prelude.{Bool, cond, ⊤, Result, Ok, Err}
use Rattle.refusals.specs.declared.Refusal.{Refusal}

-- nothing is refused
abbrev pub fine : Result ⊤ Refusal
fine = Ok tt

infixr 20 ◌or_else◌
-- the first, or else the second
unfoldable pub ◌or_else◌ : Result ⊤ Refusal → Result ⊤ Refusal → Result ⊤ Refusal
Ok _ or_else b = b
Err r or_else b = Err r

-- the refusal where the test holds
unfoldable pub refuse_if : Bool → Refusal → Result ⊤ Refusal
refuse_if c r = cond c (Err r) fine
