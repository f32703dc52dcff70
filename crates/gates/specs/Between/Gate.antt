-- Beside specs/Gate: what contracts between the crates and proofs use, and no promise reaches.
-- Assumes nothing: these are definitions.
use Rattle.std.specs.Prelude.{Bool, true, false, List, [], ◌∷◌, ℕ, suc}

-- ---- what a form makes of its inputs' bits

-- the number of ones, by which document 01 tells Maj, Xor and Xnor
abbrev pub ones : List Bool → ℕ
ones [] = 0
ones (true ∷ bs) = suc (ones bs)
ones (false ∷ bs) = ones bs
