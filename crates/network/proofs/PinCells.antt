-- The cells of the pins of all gates, gate by gate. Assumes nothing.
use mathlib.Core.Path.{◌≡◌, refl}
use mathlib.Core.List.Memᴰ
use mathlib.Core.List.{List, [], ◌∷◌, map, Memᴰ}
use mathlib.Core.Logic.{⊎_elim}
use Prim.Native.Nat.{ℕ, ◌+◌}
use native.Mathlib.Omega.{arith}
use lib.ListN.{length, length-map, length-append}
use Rattle.signal.specs.Signal.{Signal}
use Rattle.signal.specs.Cell.{sig_cell}
use Rattle.gates.specs.Gate.{Gate, pins}
use Rattle.network.specs.Record.{pin_cells}

-- the first gate's pins and those of the others
pub pins-next : (x : Gate) (xs : List Gate) → length (pin_cells (x ∷ xs)) ≡ length (pins x) + length (pin_cells xs)
unfolding pin_cells
pins-next x xs = omega (arith, length-append (map sig_cell (pins x)) (pin_cells xs), length-map (pins x) sig_cell)

-- a cell of the gates' pins is that of an input of one of them
pub record PinOf (gs : List Gate) (n : ℕ) : Type 0 where
  pub gate : Gate
  pub input : Signal
  pub among : Memᴰ gate gs
  pub pin : Memᴰ input (pins gate)
  pub cell : sig_cell input ≡ n

pub pin-mem : (gs : List Gate) (n : ℕ) → Memᴰ n (pin_cells gs) → PinOf gs n
unfolding pin_cells
pin-mem [] n m = absurd (Memᴰ.not-nil m)
pin-mem (x ∷ xs) n m = ⊎_elim here-case (λ w. there-case (pin-mem xs n w)) (Memᴰ.append_cases (map sig_cell (pins x)) m)
  where
    here-case : Memᴰ n (map sig_cell (pins x)) → PinOf (x ∷ xs) n
    here-case w =
        let t = Memᴰ.of_map sig_cell (pins x) w in
        record { gate = x; input = t.0; among = Memᴰ.head refl; pin = t.1; cell = t.2 }

    there-case : PinOf xs n → PinOf (x ∷ xs) n
    there-case r = record { gate = r.gate; input = r.input; among = Memᴰ.tail r.among; pin = r.pin; cell = r.cell }
