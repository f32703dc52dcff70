-- What refusal 6 leaves of declarations. Assumes nothing.
use mathlib.Core.Path.{◌≡◌}
use mathlib.Core.Bool.{false}
use mathlib.Core.List.{List}
use lib.ListN.{length}
use Rattle.lists.specs.Lists.{sum_of}
use Rattle.network.specs.Between.Sizes.{WithinSizes}
use Rattle.network.proofs.SizeLimits.{not-over}
use Rattle.blif_text.specs.Decls.{Decl, ins, outs, defs}
use Rattle.blif_reading.specs.Read.{gate_count, pin_count, too_large}

-- what refusal 6 leaves
abbrev pub Sized : List Decl → Type 0
Sized ds = WithinSizes (length (ins ds)) (length (outs ds)) (sum_of gate_count (defs ds)) (sum_of pin_count (defs ds))

pub sizes-within : (ds : List Decl) → too_large ds ≡ false → Sized ds
unfolding too_large
sizes-within ds e = not-over (length (ins ds)) (length (outs ds)) (sum_of gate_count (defs ds)) (sum_of pin_count (defs ds)) e
