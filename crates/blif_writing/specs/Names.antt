-- Names of signals as bytes (document 01, src/io/utils.rs). Assumes nothing: these are definitions.
use Rattle.std.specs.Prelude.{Bool, true, false, [], ◌∷◌, ℕ, zero, suc, ◌+◌, ◌/◌, ◌%◌, ltb}
use Rattle.lists.specs.Lists.{Bytes, bytes}
use Rattle.signal.specs.Signal.{Node, Const, Input, Var, Signal}

-- n in decimal before s; f is at least the number of its digits
abbrev pub decimal_before : ℕ → ℕ → Bytes → Bytes
decimal_before zero n s = s
decimal_before (suc f) n s = elim (ltb n 10) [ true ↦ (48 + n) ∷ s | false ↦ decimal_before f (n / 10) ((48 + n % 10) ∷ s) ]

-- "the decimal number", before s
abbrev pub decimal : ℕ → Bytes → Bytes
decimal n s = decimal_before (suc n) n s

-- "with `_n` if inverted"
abbrev pub suffix : Bool → Bytes
suffix false = []
suffix true = bytes "_n"

-- "Names: `vdd`, `gnd`, otherwise `i` or `x` and the decimal number"
abbrev pub node_bytes : Node → Bool → Bytes
node_bytes Const true = bytes "vdd"
node_bytes Const false = bytes "gnd"
node_bytes (Input i) v = 105 ∷ decimal i (suffix v)
node_bytes (Var g) v = 120 ∷ decimal g (suffix v)

-- the name of a signal
abbrev pub name_bytes : Signal → Bytes
name_bytes s = node_bytes s.node s.inv
