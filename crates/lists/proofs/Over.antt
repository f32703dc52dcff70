-- A list laid over the front of another. Assumes nothing.
use mathlib.Core.Path.{◌≡◌, refl, ap, ◌∙◌}
use mathlib.Core.List.{List, [], ◌∷◌, ◌++◌}
use Prim.Native.Nat.{ℕ, suc, ◌≤◌}
use native.Mathlib.Omega.{arith}
use lib.ListN.{length, take, drop}
use lib.Seq.{take-append_seam}
use Rattle.lists.specs.Lists.{overwrite}

pub length-overwrite : (t o : List ℕ) → length (overwrite t o) ≡ length o
length-overwrite [] o = refl
length-overwrite (x ∷ t) [] = refl
length-overwrite (x ∷ t) (y ∷ o) = ap suc (length-overwrite t o)

-- where there is room, what was there before goes on behind it
pub overwrite-is : (t o : List ℕ) → length t ≤ length o → overwrite t o ≡ t ++ drop (length t) o
overwrite-is [] o h = refl
overwrite-is (x ∷ t) [] h = absurd (omega arith)
overwrite-is (x ∷ t) (y ∷ o) h = ap (λ (l : List ℕ). x ∷ l) (overwrite-is t o (omega arith))

-- and it can be read back
pub take-overwrite : (t o : List ℕ) → length t ≤ length o → take (length t) (overwrite t o) ≡ t
take-overwrite t o h = ap (take (length t)) (overwrite-is t o h) ∙ take-append_seam t (drop (length t) o)
