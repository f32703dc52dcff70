-- Small covers and a model to compute the meaning on. Assumes nothing: these are definitions.
use Rattle.std.specs.Prelude.{true, false, List, [], ◌∷◌, ℕ}
use Rattle.blif_meaning.specs.Model.{C0, C1, Dash, Init, Line, Latch, Cover, Model, plain_latch}

-- the Berkeley text's sample of a logic gate: `1--0 1`, `-1-1 1`, `0-11 1`
abbrev pub sample_cover : List Line
sample_cover =
    record { cols = C1 ∷ Dash ∷ Dash ∷ C0 ∷ []; out = true }
    ∷ record { cols = Dash ∷ C1 ∷ Dash ∷ C1 ∷ []; out = true }
    ∷ record { cols = C0 ∷ Dash ∷ C1 ∷ C1 ∷ []; out = true }
    ∷ []

-- an OFF-set: `11 0`
abbrev pub off_cover : List Line
off_cover = record { cols = C1 ∷ C1 ∷ []; out = false } ∷ []

-- a latch with output 0 whose input, 1, is the inverse of its output, the model's only output: `.latch 1 0 v`, `.names 0 1`, `0 1`
abbrev pub toggle : Init → Model ℕ
toggle v = record {
  inputs = [];
  outputs = 0 ∷ [];
  blocks = Latch (plain_latch 1 0 v) ∷ Cover (0 ∷ []) 1 (record { cols = C0 ∷ []; out = true } ∷ []) ∷ [];
}
