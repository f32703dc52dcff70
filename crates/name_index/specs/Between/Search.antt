-- "A search through earlier definitions" (document 01, "Rust forms to reshape": `HashMap`). Assumes nothing: these are definitions.
use Rattle.std.specs.Prelude.{cond, List, [], ◌∷◌, ℕ}
use Rattle.lists.specs.Lists.{Bytes, same}

-- a name that is defined, and the cell of its signal
pub record Entry : Type 0 where
  -- the name
  pub name : Bytes
  -- the signal's cell
  pub signal : ℕ

-- the same, from its parts
abbrev pub entry : Bytes → ℕ → Entry
entry x s = record { name = x; signal = s }

-- the signal of the first entry of this name; 0, the constant zero, which is no name's signal, where there is none
abbrev pub signal_in : List Entry → Bytes → ℕ
signal_in [] x = 0
signal_in (e ∷ es) x = cond (same x e.name) e.signal (signal_in es x)
