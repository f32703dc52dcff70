-- The parts of a token's cell, and parts of a list. Assumes nothing.
use mathlib.Core.Path.{◌≡◌, sym, ap, ◌∙◌}
use mathlib.Core.Bool.{Bool, true, false}
use mathlib.Core.List.{[], ◌∷◌, ◌++◌}
use Prim.Native.Nat.{ℕ, zero, suc, ◌+◌, ◌-◌, ◌*◌, ◌^◌, ◌≤◌, ◌<◌}
use native.Mathlib.Omega.{arith}
use lib.ListN.{length, get_or, take, drop}
use lib.Seq.{take-nil, take-suc, drop-append-le, length-take-le, slice}
use borrow.Author.Tests.{le-leb, lt-leb}
use Rattle.lists.specs.Lists.{Bytes}
use Rattle.blif_text.specs.Between.Places.{token_cell, is_first, token_start, token_length}

-- ---- the cell of a place

module _ (s l : ℕ) (hs : s < 32768) (hl : l ≤ 32768) where
  pub cell-start : (f : Bool) → token_start (token_cell f s l) ≡ s
  cell-start true = omega arith
  cell-start false = omega arith

  pub cell-length : (f : Bool) → token_length (token_cell f s l) ≡ l
  cell-length true = omega arith
  cell-length false = omega arith

  pub cell-first : (f : Bool) → is_first (token_cell f s l) ≡ f
  cell-first true = le-leb (2 ^ 31) (2 ^ 31 + s * 2 ^ 16 + l) (omega arith)
  cell-first false = lt-leb (2 ^ 31) (0 + s * 2 ^ 16 + l) (omega arith)

-- ---- parts of a list

pub drop-take : (i e : ℕ) (l : Bytes) → drop i (take e l) ≡ take (e - i) (drop i l)
drop-take zero e l = let q : e ≡ e - 0 = omega arith in ap (λ (k : ℕ). take k l) q
drop-take (suc i) zero l = let q : 0 ≡ 0 - suc i = omega arith in ap (λ (k : ℕ). take k (drop (suc i) l)) q
drop-take (suc i) (suc e) [] = sym (take-nil (suc e - suc i))
drop-take (suc i) (suc e) (x ∷ l) =
    let q : e - i ≡ suc e - suc i = omega arith in
    drop-take i e l ∙ ap (λ (k : ℕ). take k (drop i l)) q

pub slice_snoc : (t : Bytes) (a m : ℕ) → a ≤ m → m < length t → slice a (suc m) t ≡ slice a m t ++ get_or t m 0 ∷ []
slice_snoc t a m h k =
    ap (drop a) (take-suc t m 0 k) ∙ drop-append-le a (take m t) (get_or t m 0 ∷ []) (rw (length-take-le m t (omega arith)) h)
