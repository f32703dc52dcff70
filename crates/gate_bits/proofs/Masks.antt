-- Masks of bits, and the bit of a table at a mask. Assumes nothing.
use mathlib.Core.Path.{◌≡◌, refl, ap}
use mathlib.Core.Bool.{Bool, true, false}
use mathlib.Core.List.{List, []}
use Prim.Native.Nat.{ℕ, suc, ◌+◌, ◌*◌, ◌≤◌, ◌<◌}
use native.Mathlib.Omega.{arith}
use lib.ListN.{length, get_or, drop, drop_of_length-le}
use lib.Seq.{drop-cons}
use mir.Val.{bool_byte}
use Rattle.signal.specs.Cell.{bit_of}
use Rattle.gate_bits.specs.Between.Slots.{bits_in}
use Rattle.gate_bits.specs.Between.Tables.{mask_of}

-- ---- the mask of the bits in six slots

byte-bit : (b : Bool) → bool_byte b ≡ bit_of b
byte-bit false = refl
byte-bit true = refl

bit_le : (b : Bool) → bit_of b ≤ 1
bit_le false = omega arith
bit_le true = omega arith

module _ (bits : List Bool) (slots : List ℕ) where
  -- the bit in slot i, as a number
  abbrev pub byte_at : ℕ → ℕ
  byte_at i = bool_byte (get_or bits (get_or slots i 0) false)

  byte_le : (i : ℕ) → byte_at i ≤ 1
  byte_le i = omega (arith, byte-bit (get_or bits (get_or slots i 0) false), bit_le (get_or bits (get_or slots i 0) false))

  pub bytes_le : (byte_at 0 ≤ 1) × (byte_at 1 ≤ 1) × (byte_at 2 ≤ 1) × (byte_at 3 ≤ 1) × (byte_at 4 ≤ 1) × (byte_at 5 ≤ 1)
  bytes_le = (byte_le 0, byte_le 1, byte_le 2, byte_le 3, byte_le 4, byte_le 5)

  mask_next : (i : ℕ) → i < length slots → mask_of (bits_in bits (drop i slots)) ≡ byte_at i + 2 * mask_of (bits_in bits (drop (suc i) slots))
  mask_next i h = rw (drop-cons slots i 0 h, byte-bit)

  pub mask-six : length slots ≡ 6 → byte_at 0 + 2 * (byte_at 1 + 2 * (byte_at 2 + 2 * (byte_at 3 + 2 * (byte_at 4 + 2 * byte_at 5)))) ≡ mask_of (bits_in bits slots)
  mask-six l =
      let e : drop 6 slots ≡ [] = drop_of_length-le slots {i = 6} (omega arith) in
      omega (
        arith,
        mask_next 0 (omega arith),
        mask_next 1 (omega arith),
        mask_next 2 (omega arith),
        mask_next 3 (omega arith),
        mask_next 4 (omega arith),
        mask_next 5 (omega arith),
        ap (λ (s : List ℕ). mask_of (bits_in bits s)) e,
      )

  pub six_low : length slots ≡ 6 → mask_of (bits_in bits slots) < 64
  six_low l = omega (arith, mask-six l, bytes_le)

-- ---- the bit of a table
