-- Laws for a step of the flip-flops: their next bits are taken one after the other, then put one after the other. Assumes nothing.
use mathlib.Core.Path.{◌≡◌, sym, ap, ◌∙◌, subst}
use mathlib.Core.Bool.{Bool, false}
use mathlib.Core.List.{List}
use Prim.Native.Nat.{ℕ, ◌+◌, ◌*◌, ◌≤◌, ◌<◌}
use native.Mathlib.Omega.{arith}
use native.Mathlib.Decide.{ℕ_discrete}
use lib.ListN.{length, get_or}
use Rattle.lists.proofs.Tests.{by_order}
use Rattle.signal.specs.Signal.{Const, Var}
use Rattle.gate_bits.specs.Between.Slots.{slot_count, Shows}
use Rattle.run_rows.specs.Between.Steps.{data_bit, DataTaken, HeldPut, Stepped}
use Rattle.run_rows.specs.Between.Asks.{PutRoom}
use Rattle.run_rows.proofs.Showing.{put, length-put, put-gate, gate-keeps-const, gate-keeps-gate}

-- ---- taking

-- the next bits of the first i flip-flops are taken
pub record Taking (flops slots : List ℕ) (bits next₀ next : List Bool) (i : ℕ) : Type 0 where
  -- as many places
  pub long : length next ≡ length next₀
  -- each bit
  pub each : (j : ℕ) → j < i → get_or next j false ≡ data_bit slots bits (get_or flops j 0)

-- ---- putting

-- the bits of the first i flip-flops are put: whatever bits these are, the table has them
pub record Putting (flops : List ℕ) (next bits₀ bits : List Bool) (i : ℕ) : Type 0 where
  -- as many slots as a table has
  pub size : length bits ≡ slot_count
  -- the constant's bit
  pub const : Shows bits₀ Const false → Shows bits Const false
  -- each flip-flop's
  pub each : (val : ℕ → Bool) → ((j : ℕ) → j < length flops → get_or next j false ≡ val (get_or flops j 0))
      → (j : ℕ) → j < i → Shows bits (Var (get_or flops j 0)) (val (get_or flops j 0))

module _ {flops : List ℕ} {next bits₀ : List Bool} (h : PutRoom flops next bits₀) where
  pub putting-start : Putting flops next bits₀ bits₀ 0
  putting-start = record { size = h.size; const = λ s. s; each = λ val e j l. absurd (omega arith) }

  module _ {bits : List Bool} {i : ℕ} (p : Putting flops next bits₀ bits i) (l : i < length flops) where
    abbrev flop : ℕ
    flop = get_or flops i 0

    pub putting-next : {slot : ℕ} → slot ≡ 2 * (flop + 1) → Putting flops next bits₀ (put bits slot (get_or next i false)) (i + 1)
    putting-next {slot} at = record {
      size = length-put bits slot (get_or next i false) ∙ p.size;
      const = λ s. gate-keeps-const bits (get_or next i false) flop (h.low i l) at (p.const s);
      each = λ val e j m. one val e j m (ℕ_discrete (get_or flops j 0) flop);
    }
      where
        after : List Bool
        after = put bits slot (get_or next i false)

        one : (val : ℕ → Bool) → ((j : ℕ) → j < length flops → get_or next j false ≡ val (get_or flops j 0))
            → (j : ℕ) → j < i + 1 → Dec (get_or flops j 0 ≡ flop) → Shows after (Var (get_or flops j 0)) (val (get_or flops j 0))
        one val e j m (yes q) =
            subst (λ (g : ℕ). Shows after (Var g) (val g)) (sym q) (subst (Shows after (Var flop)) (e i l) (put-gate bits (get_or next i false) flop (h.low i l) at p.size))
        one val e j m (no d) =
            by_order i j (λ o. let q : j ≡ i = omega arith in absurd (d (ap (λ (k : ℕ). get_or flops k 0) q)))
            (λ o. gate-keeps-gate bits (get_or next i false) flop (h.low i l) at (get_or flops j 0) (h.low j (omega arith)) d (p.each val e j o))

  pub putting-done : {bits : List Bool} {i : ℕ} → length flops ≤ i → Putting flops next bits₀ bits i → HeldPut flops next bits₀ bits
  putting-done {bits} le p = record {
    each = λ cells n val few fs const e.
        record {
          size = p.size;
          const = p.const const;
          few_inputs = omega arith;
          inputs = λ i l. absurd (omega arith);
          few_gates = λ g k. omega (arith, k.below);
          gates = λ g k.
              let w = fs.listed g k in
              subst (λ (x : ℕ). Shows bits (Var x) (val x)) w.2 (p.each val e w.0 (omega (arith, w.1)));
        };
  }

-- ---- both

pub steps-together : {flops slots : List ℕ} {next bits bits' : List Bool} → DataTaken flops slots bits next → HeldPut flops next bits bits' → Stepped flops slots bits bits'
steps-together {flops} t p = record {
  each = λ cells n val few fs const e. p.each cells n val few fs const (λ i l. t.each i l ∙ e (get_or flops i 0) (fs.flop i l));
}
