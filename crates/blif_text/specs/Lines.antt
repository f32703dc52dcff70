-- Lines, comments, continuations and tokens of a text (document 01, src/io/blif.rs). Assumes nothing: these are definitions.
use Rattle.std.specs.Prelude.{Bool, true, false, ◌&&◌, ◌||◌, not, ℕ, ◌-◌, eqb, leb, length, get_or, take, if◌then◌else◌}
use mathlib.Core.List.{List, [], ◌∷◌, ◌++◌, head_d}
use Rattle.lists.specs.Lists.{Bytes, any, filter}

-- ---- lines

-- "Text at most 32,768 bytes"
abbrev pub max_text : ℕ
max_text = 32768

-- one more byte at the front of the first part
unfoldable pub cons_first : ℕ → List Bytes → List Bytes
cons_first c [] = (c ∷ []) ∷ []
cons_first c (w ∷ ws) = (c ∷ w) ∷ ws

-- the parts that the bytes passing the test end; what stands behind the last of these is a part too, if it is not empty
unfoldable pub split : (ℕ → Bool) → Bytes → List Bytes
split p [] = []
split p (c ∷ s) = if p c then [] ∷ split p s else cons_first c (split p s)

-- "one CR directly before it goes too"
unfoldable pub drop_cr : Bytes → Bytes
drop_cr [] = []
drop_cr (c ∷ s) = if eqb 13 c && eqb 10 (head_d s 0) then drop_cr s else c ∷ drop_cr s

-- "LF ends a line"
unfoldable pub lines : Bytes → List Bytes
lines s = split (eqb 10) (drop_cr s)

-- the last byte is an LF
unfoldable pub ends_in_lf : Bytes → Bool
ends_in_lf t = eqb 10 (get_or t (length t - 1) 0)

-- "`#` cuts the line"
unfoldable pub cut : Bytes → Bytes
cut [] = []
cut (c ∷ s) = if eqb 35 c then [] else c ∷ cut s

-- "A line without `#` that ends in a backslash loses it and continues"
unfoldable pub continues : Bytes → Bool
continues l = not (any (eqb 35) l) && eqb 92 (get_or l (length l - 1) 0)

-- what is pending before what follows: "A line .. continues, at the end of the file too"
unfoldable pub before : {A : Type 0} → List A → List (List A) → List (List A)
before t [] = t ∷ []
before t (u ∷ us) = (t ++ u) ∷ us

-- the statements' texts: "Before each line a blank is added to the pending text"
unfoldable pub joined : List Bytes → List Bytes
joined [] = []
joined (l ∷ ls) = if continues l then before (32 ∷ take (length l - 1) l) (joined ls) else (32 ∷ cut l) ∷ joined ls

-- ---- tokens

-- "Blanks are 9 to 13 and 32"
unfoldable pub is_blank : ℕ → Bool
is_blank c = leb 9 c && leb c 13 || eqb 32 c

-- whether there is an element
unfoldable pub non_empty : {A : Type 0} → List A → Bool
non_empty [] = false
non_empty (c ∷ s) = true

-- the runs of bytes between blanks
unfoldable pub tokens : Bytes → List Bytes
tokens s = filter non_empty (split is_blank s)
