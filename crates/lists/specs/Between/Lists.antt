-- Beside specs/Lists: what contracts between the crates and proofs use, and no promise reaches.
-- Assumes nothing: these are definitions.
use Rattle.std.specs.Prelude.{List, [], ◌∷◌, ℕ, zero, suc}
use Rattle.lists.specs.Lists.{overwrite}

-- the list t laid over o from cell k on, cut where o ends
abbrev pub overwrite_at : ℕ → List ℕ → List ℕ → List ℕ
overwrite_at zero t o = overwrite t o
overwrite_at (suc k) t [] = []
overwrite_at (suc k) t (y ∷ o) = y ∷ overwrite_at k t o
