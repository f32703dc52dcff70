-- A line from the three parts that are written one after the other. Assumes nothing.
use mathlib.Core.List.{[], ◌∷◌}
use Prim.Native.Nat.{ℕ}
use Rattle.lists.specs.Lists.{Bytes}
use Rattle.blif_write_names.specs.Between.Text.{Appended}
use Rattle.blif_write_names.proofs.Laws.{and-append}
use Rattle.printed_lines.specs.Lines.{key_line}

-- a key, a value and LF
pub line-appended : {key value o p q out : Bytes} {a b c r : ℕ} → Appended key o a p b → Appended value p b q c → Appended (10 ∷ []) q c out r
    → Appended (key_line key value) o a out r
line-appended k v l = and-append (and-append k v) l
