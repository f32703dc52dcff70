-- What is written, as a reviewer would read it (document 01, src/io/blif.rs and src/io/utils.rs). Assumes nothing.
--   lines-mean      the cover lines of each form mean the form
--   mask-bits       the masks of an Xor stand in rising order
--   names-differ    two signals never share a name
--   written-formed  it is well-formed
--   written-runs    the model written for a network gives the network's outputs
use mathlib.Core.Path.{◌≡◌, sym, ap, ◌∙◌}
use mathlib.Core.Bool.{Bool, true, false}
use mathlib.Core.List.{List, []}
use Prim.Native.Nat.{ℕ, ◌/◌, ◌%◌, ◌^◌, ◌<◌}
use lib.Dec.{eqb}
use lib.ListN.{length, get_or}
use Rattle.signal.specs.Signal.{Signal}
use Rattle.gates.specs.Gate.{Form, form_bit}
use Rattle.gates.specs.Forms.{can_have}
use Rattle.network.specs.Net.{Net, Valid, Formed, Loop}
use Rattle.network.specs.Settle.{run}
use Rattle.blif_meaning.specs.Model.{cover_bit, BlifRuns}
use Rattle.blif_writing.specs.WrittenModel.{masks, lines_of, written}
use Rattle.blif_writing.specs.Names.{name_bytes}
use Rattle.blif_writing.proofs.FormLines as forms
use Rattle.blif_writing.proofs.Masks as order
use Rattle.blif_writing.proofs.NamesDiffer.{unname, unname-name}
use Rattle.blif_writing.proofs.Writing as writing
use Rattle.blif_writing.proofs.WrittenFormed as formed
use Rattle.blif_meaning.specs.WellFormed.{WellFormed}

-- the cover lines of each form, "And 11; Xor 10, 01; ..", mean what the form makes of its inputs' bits, for every pin count that the form
-- can have
pub lines-mean : (f : Form) (bs : List Bool) → can_have f (length bs) ≡ true → cover_bit (lines_of f (length bs)) bs ≡ form_bit f bs
lines-mean = forms.lines-mean

-- "masks in rising order, column i being bit i": of n columns there are 2 ^ n, and column i of mask m is bit i of m
pub mask-bits : (n : ℕ) → (length (masks n) ≡ 2 ^ n)
    × ((m : ℕ) → m < 2 ^ n → (i : ℕ) → i < n → get_or (get_or (masks n) m []) i false ≡ eqb (m / 2 ^ i % 2) 1)
mask-bits n = (order.masks-count n, order.mask-bits n)

-- "Names: `vdd`, `gnd`, otherwise `i` or `x` and the decimal number, with `_n` if inverted": two signals never share a name
pub names-differ : (s t : Signal) → name_bytes s ≡ name_bytes t → s ≡ t
names-differ s t e = sym (unname-name s) ∙ ap unname e ∙ unname-name t

-- the model written for a network gives the network's outputs, whatever enables, resets and start values its flip-flops have; that it gives no
-- others is `written-means` (round_trip)
pub written-runs : (net : Net) → Valid net → (Loop net → ⊥) → Formed net → (rows : List (List Bool)) → BlifRuns (written name_bytes net) rows (run net rows)
written-runs net valid free formed = writing.written-runs name_bytes net formed unname unname-name valid free

-- it is well-formed: each name is defined once, every name that is used is defined, and the lines fit
pub written-formed : (net : Net) → Valid net → Formed net → WellFormed (written name_bytes net)
written-formed net = formed.written-formed name_bytes net names-differ
