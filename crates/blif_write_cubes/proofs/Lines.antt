-- Cube lines: the columns as the code finds them, and the masks in rising order. Assumes nothing.
use mathlib.Core.Path.{◌≡◌, refl, sym, ◌∙◌, ap}
use mathlib.Core.Bool.{Bool, true, cond}
use mathlib.Core.List.{[], ◌∷◌}
use Prim.Native.Nat.{ℕ, suc, ◌+◌, ◌-◌, ◌*◌, ◌^◌, ◌/◌, ◌%◌, ◌≤◌, ◌<◌}
use native.Mathlib.Omega.{arith}
use lib.Dec.{eqb}
use lib.Count.{ones}
use lib.Pow.{pow_mono}
use lib.ListN.{replicate}
use borrow.Author.Tests.{eq-eqb, ne_eqb}
use Rattle.lists.specs.Lists.{Bytes}
use Rattle.lists.proofs.Tests.{by_order}
use Rattle.blif_writing.specs.WrittenModel.{col_of}
use Rattle.blif_writing.specs.Text.{col_byte}
use Rattle.blif_write_names.specs.Between.Text.{Wrote, Appended}
use Rattle.blif_write_cubes.specs.Between.Lines.{mask_columns, cube_of, minterm_at, minterms_from, mask_lines}
use Rattle.blif_write_names.proofs.Laws.{from_start, as-text}
use Rattle.blif_write_names.proofs.Parts.{Parts}

-- ---- columns of a mask

-- a bit's column
bit_byte : (m : ℕ) → 48 + m % 2 ≡ col_byte (col_of (eqb (m % 2) 1))
bit_byte m =
    by_order 1 (m % 2)
    (λ h. let e : m % 2 ≡ 1 = omega arith in rw e)
    (λ h. let e : m % 2 ≡ 0 = omega arith in rw e)

-- of the columns from column i on, whose bits `left` holds: the first, then the others
pub columns-next : (n i left : ℕ) → i < n → mask_columns (n - i) left ≡ (48 + left % 2) ∷ mask_columns (n - (i + 1)) (left / 2)
unfolding mask_columns
columns-next n i left h =
    let e : n - i ≡ suc (n - (i + 1)) = omega arith in
    ap (λ (j : ℕ). mask_columns j left) e ∙ ap (λ (x : ℕ). x ∷ mask_columns (n - (i + 1)) (left / 2)) (sym (bit_byte left))

pub columns-end : (n i left : ℕ) → n ≤ i → mask_columns (n - i) left ≡ []
unfolding mask_columns
columns-end n i left h = let e : n - i ≡ 0 = omega arith in ap (λ (j : ℕ). mask_columns j left) e

-- ---- one column throughout

pub same_next : (n i x : ℕ) → i < n → replicate (n - i) x ≡ x ∷ replicate (n - (i + 1)) x
same_next n i x h = let e : n - i ≡ suc (n - (i + 1)) = omega arith in ap (λ (j : ℕ). replicate j x) e

pub same_end : (n i x : ℕ) → n ≤ i → replicate (n - i) x ≡ []
same_end n i x h = let e : n - i ≡ 0 = omega arith in ap (λ (j : ℕ). replicate j x) e

-- ---- masks

pub minterm-other : (parity n m : ℕ) → (ones m % 2 ≡ parity → ⊥) → [] ≡ minterm_at parity n m
unfolding minterm_at
minterm-other parity n m h = sym (ap (λ (b : Bool). cond b (cube_of n m true) []) (ne_eqb (ones m % 2) parity h))

pub minterm-is : (parity n m : ℕ) → ones m % 2 ≡ parity → cube_of n m true ≡ minterm_at parity n m
unfolding minterm_at
minterm-is parity n m h = sym (ap (λ (b : Bool). cond b (cube_of n m true) []) (eq-eqb (ones m % 2) parity h))

-- a mask's line is a part of all their lines
pub mask-parts : (parity n count : ℕ) → Parts count (minterms_from parity n) (minterm_at parity n)
mask-parts parity n count = record { more = λ m k h. refl; none = λ m h. refl }

-- all masks, by their number as the code finds it
pub all-masks : (parity n : ℕ) {o p : Bytes} {r : ℕ} → n ≤ 12 → Appended (minterms_from parity n 0 (1 * 2 ^ n % 4294967296)) o 0 p r → Wrote (mask_lines parity n) o p r
all-masks parity n h v =
    let l : 2 ^ n ≤ 2 ^ 12 = pow_mono h in
    let e : 1 * 2 ^ n % 4294967296 ≡ 2 ^ n = omega arith in
    from_start (as-text (ap (minterms_from parity n 0) e) v)
