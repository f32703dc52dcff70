-- Lines and tokens come back from a text that ends each line and stands a blank before each word. Assumes nothing.
use mathlib.Core.Path.{◌≡◌, refl, ap, ◌∙◌}
use mathlib.Core.Bool.{true, false≢true}
use mathlib.Core.List.{List, [], ◌∷◌, ◌++◌, flat_map, head_d, append_assoc, append-nil}
use lib.Dec.{eqb}
use Rattle.lists.specs.Lists.{Bytes, any, filter}
use Rattle.lists.proofs.Tests.{or_left, or_right}
use Rattle.lists.proofs.Every.{Every, every-nil, every-cons}
use Rattle.blif_text.specs.Lines.{split, drop_cr, lines, is_blank, non_empty, tokens}
use Rattle.blif_text.proofs.Parts.{Without, split-end, split-last}

-- each line with an LF behind it
abbrev pub ended : List Bytes → Bytes
ended ls = flat_map (λ l. l ++ (10 ∷ [])) ls

-- each word behind a blank
abbrev pub spread : List Bytes → Bytes
spread ws = flat_map (λ w. 32 ∷ w) ws

-- ---- lines

drop_cr-line : (w s : Bytes) → Without (eqb 13) w → drop_cr (w ++ 10 ∷ s) ≡ w ++ 10 ∷ drop_cr s
unfolding drop_cr head_d
drop_cr-line [] s f = refl
drop_cr-line (b ∷ w) s f = rw (or_left (eqb 13 b) (any (eqb 13) w) f, drop_cr-line w s (or_right (eqb 13 b) (any (eqb 13) w) f))

lines-line : (l s : Bytes) → Without (eqb 10) l → Without (eqb 13) l → lines ((l ++ (10 ∷ [])) ++ s) ≡ l ∷ lines s
unfolding lines
lines-line l s f g = rw (append_assoc, drop_cr-line l s g) (split-end (eqb 10) l 10 (drop_cr s) f refl)

-- "LF ends a line": lines without LF and CR come back
pub lines-each : (ls : List Bytes) → Every (λ l. Without (eqb 10) l × Without (eqb 13) l) ls → lines (ended ls) ≡ ls
unfolding flat_map
lines-each [] every-nil = unfold lines drop_cr split in refl
lines-each (l ∷ ls) (every-cons h hs) = lines-line l (ended ls) h.0 h.1 ∙ ap (λ (r : List Bytes). l ∷ r) (lines-each ls hs)

-- ---- tokens

abbrev pub Word : Bytes → Type 0
Word w = Without is_blank w × (non_empty w ≡ true)

words : (ws : List Bytes) (w : Bytes) → Word w → Every Word ws → filter non_empty (split is_blank (w ++ spread ws)) ≡ w ∷ ws
unfolding flat_map non_empty
words [] [] g every-nil = absurd (false≢true g.1)
words [] (b ∷ w) g every-nil = rw (append-nil, split-last is_blank b w g.0)
words (v ∷ ws) [] g (every-cons h hs) = absurd (false≢true g.1)
words (v ∷ ws) (b ∷ w) g (every-cons h hs) = rw (split-end is_blank (b ∷ w) 32 (v ++ spread ws) g.0 (unfold is_blank in refl), words ws v h hs)

-- words without blanks, each behind a blank, come back
pub tokens-spread : (ws : List Bytes) → Every Word ws → tokens (spread ws) ≡ ws
unfolding tokens flat_map split non_empty is_blank
tokens-spread [] every-nil = refl
tokens-spread (w ∷ ws) (every-cons h hs) = words ws w h hs
