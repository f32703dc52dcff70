-- Lines with a key and a value, as the programs print them and a sheet has them (documents 01 and 02). Assumes nothing: these are definitions.
--   key_line key value   the key, the value and LF
--   count_line key n     the key, n in decimal and LF
--   refused_line r       "the line `refused=N`"
use Rattle.std.specs.Prelude.{[], ◌∷◌, ◌++◌, ℕ}
use Rattle.lists.specs.Lists.{Bytes, bytes}
use Rattle.refusals.specs.declared.Refusal.{Refusal}
use Rattle.refusals.specs.Numbers.{number_of}
use Rattle.blif_writing.specs.Names.{decimal}

-- "the lines `part=`, `commands=`, ..": a key and its value, ended by LF
abbrev pub key_line : Bytes → Bytes → Bytes
key_line key value = key ++ value ++ 10 ∷ []

-- "counts in decimal"
abbrev pub count_line : Bytes → ℕ → Bytes
count_line key n = key_line key (decimal n [])

-- "the line `refused=N`"
abbrev pub refused_line : Refusal → Bytes
refused_line r = count_line (bytes "refused=") (number_of r)
