-- What the functions that read a sheet ask of the places of its lines. Assumes nothing: these are definitions.
use Rattle.std.specs.Prelude.{◌≡◌, ℕ, ◌-◌, ◌≤◌, ◌<◌, eqb, length, take, drop}
use mathlib.Core.List.{[], ◌∷◌, ◌++◌, flat_map}
use Rattle.lists.specs.Lists.{Bytes}
use Rattle.blif_text.specs.Lines.{split}

-- an LF ends each line; the second line starts at place second and the third at place third
pub record HeadLines (t : Bytes) (second third : ℕ) : Type 0 where
  -- the first line has its LF
  pub first : 0 < second
  -- and so has the second
  pub low : second < third
  -- both are there
  pub high : third ≤ length t
  -- these are the text's lines
  pub cuts : split (eqb 10) t ≡ take (second - 1) t ∷ take (third - 1 - second) (drop second t) ∷ split (eqb 10) (drop third t)
  -- and each line from the third on has its LF
  pub ended : flat_map (λ (l : Bytes). l ++ 10 ∷ []) (split (eqb 10) (drop third t)) ≡ drop third t
