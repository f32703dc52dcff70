-- The definition that a block's record places, and the first of many records. Assumes nothing.
use mathlib.Core.Path.{◌≡◌, refl}
use mathlib.Core.List.{List}
use Prim.Native.Nat.{ℕ, zero, suc, ◌+◌, ◌<◌}
use native.Mathlib.Omega.{arith}
use Rattle.blif_text.specs.Between.Blocks.{cover_from, def_from, Blocks}

-- a record with names is a cover's
pub cover-from : (text tokens : List ℕ) (n first names lines : ℕ) → (names ≡ 0 → ⊥)
    → def_from text tokens n first names lines ≡ cover_from text tokens n first names lines
cover-from text tokens n first zero lines f = absurd (f refl)
cover-from text tokens n first (suc k) lines f = refl

-- the blocks up to block j
pub blocks_to : {text tokens : List ℕ} {n : ℕ} {blocks : List ℕ} {g j : ℕ} → Blocks text tokens n blocks g → j < g → Blocks text tokens n blocks (j + 1)
blocks_to b h = record { few = b.few; places = b.places; room = omega (arith, b.room); each = λ i l. b.each i (omega arith) }
