-- A table of bits: a known signal's bit, and what the table shows once a bit is put. Assumes nothing.
use mathlib.Core.Path.{◌≡◌, refl, sym, ap, ◌∙◌, subst}
use mathlib.Core.Bool.{Bool, true, not, true≢false, false≢true}
use mathlib.Core.List.{List, map, Memᴰ}
use mathlib.Core.Logic.{◌⊎◌, inl, inr, ⊎_elim}
use Prim.Native.Nat.{ℕ, ◌+◌, ◌-◌, ◌*◌, ◌^◌, ◌<◌}
use native.Mathlib.Omega.{arith}
use native.Mathlib.Decide.{ℕ_discrete}
use lib.ListN.{length, set, length-set}
use borrow.Author.Tests.{ltb-true}
use Rattle.lists.proofs.Places.{map_on, map-map}
use Rattle.signal.specs.Signal.{Node, Const, Input, Var}
use Rattle.signal.specs.Between.Signal.{input_node, gate_node}
use Rattle.signal.specs.Cell.{node_of, sig_of}
use Rattle.network.specs.Clock.{node_bit, sig_bit}
use Rattle.network.specs.Cells.{valid_node}
use Rattle.gate_bits.specs.Between.Slots.{slot_count, bit_at, pin_bits, HasSlot, Shows}
use Rattle.gate_bits.proofs.SlotBits.{shows-bit, put-here, put_other}
use Rattle.run_rows.specs.Between.Steps.{Shown}

-- ---- known signals

-- a node whose bit the table has
abbrev pub Known : List Bool → (ℕ → Type 0) → Node → Type 0
Known row K Const = Unit {0}
Known row K (Input i) = i < length row
Known row K (Var g) = K g

module _ {row : List Bool} {val : ℕ → Bool} {K : ℕ → Type 0} {bits : List Bool} (s : Shown row val K bits) where
  known_slot : (m : Node) → Known row K m → HasSlot m
  known_slot Const k = tt
  known_slot (Input i) k = omega (arith, s.few_inputs)
  known_slot (Var g) k = s.few_gates g k

  known-shows : (m : Node) → Known row K m → Shows bits m (node_bit row val m)
  known-shows Const k = s.const
  known-shows (Input i) k = s.inputs i k
  known-shows (Var g) k = s.gates g k

  pub known-bit : (c : ℕ) → c < 2 ^ 32 → Known row K (node_of c) → bit_at bits c ≡ sig_bit row val (sig_of c)
  known-bit c w k = shows-bit w (known_slot (node_of c) k) (known-shows (node_of c) k)

  pub known-bits : (cs : List ℕ) → ((c : ℕ) → Memᴰ c cs → c < 2 ^ 32) → ((c : ℕ) → Memᴰ c cs → Known row K (node_of c))
      → pin_bits bits cs ≡ map (sig_bit row val) (map sig_of cs)
  known-bits cs w k = map_on (bit_at bits) (λ c. sig_bit row val (sig_of c)) cs (λ c m. known-bit c (w c m) (k c m)) ∙ sym (map-map (sig_bit row val) sig_of cs)

-- a valid node is known where all gates are
pub valid-known : (row : List Bool) (K : ℕ → Type 0) (n : ℕ) (m : Node) → ((g : ℕ) → g < n → K g) → valid_node (length row) n m ≡ true → Known row K m
valid-known row K n Const h t = tt
valid-known row K n (Input i) h t = ltb-true i (length row) t
valid-known row K n (Var g) h t = h g (ltb-true g n t)

-- ---- a bit that is put

-- the table with the bit of a node, and the other for the node inverted
abbrev pub put : List Bool → ℕ → Bool → List Bool
put bits slot b = set (set bits slot b) (slot + 1) (not b)

pub length-put : (bits : List Bool) (slot : ℕ) (b : Bool) → length (put bits slot b) ≡ length bits
length-put bits slot b = length-set (set bits slot b) (slot + 1) (not b) ∙ length-set bits slot b

abbrev number_in : Node → ℕ
number_in Const = 0
number_in (Input i) = i
number_in (Var g) = g

module _ (bits : List Bool) {slot : ℕ} (b : Bool) where
  -- a gate's bit
  module _ (g : ℕ) (few : g < 1024) (at : slot ≡ 2 * (g + 1)) where
    pub put-gate : length bits ≡ slot_count → Shows (put bits slot b) (Var g) b
    put-gate l = rw at (put-here bits (Var g) b few l)

    pub gate-keeps : (m : Node) {v : Bool} → HasSlot m → (m ≡ Var g → ⊥) → Shows bits m v → Shows (put bits slot b) m v
    gate-keeps m h d s = rw at (put_other bits (Var g) m b few h d s)

    pub gate-keeps-const : {v : Bool} → Shows bits Const v → Shows (put bits slot b) Const v
    gate-keeps-const = gate-keeps Const tt (λ e. false≢true (ap gate_node e))

    pub gate-keeps-input : (i : ℕ) {v : Bool} → i < 256 → Shows bits (Input i) v → Shows (put bits slot b) (Input i) v
    gate-keeps-input i h = gate-keeps (Input i) h (λ e. true≢false (ap input_node e))

    pub gate-keeps-gate : (k : ℕ) {v : Bool} → k < 1024 → (k ≡ g → ⊥) → Shows bits (Var k) v → Shows (put bits slot b) (Var k) v
    gate-keeps-gate k h d = gate-keeps (Var k) h (λ e. d (ap number_in e))

  -- an input's bit
  module _ (i : ℕ) (few : i < 256) (at : slot ≡ 4096 - 2 * (i + 1)) where
    pub put-input : length bits ≡ slot_count → Shows (put bits slot b) (Input i) b
    put-input l = rw at (put-here bits (Input i) b few l)

    input-keeps : (m : Node) {v : Bool} → HasSlot m → (m ≡ Input i → ⊥) → Shows bits m v → Shows (put bits slot b) m v
    input-keeps m h d s = rw at (put_other bits (Input i) m b few h d s)

    pub input-keeps-const : {v : Bool} → Shows bits Const v → Shows (put bits slot b) Const v
    input-keeps-const = input-keeps Const tt (λ e. false≢true (ap input_node e))

    pub input-keeps-gate : (g : ℕ) {v : Bool} → g < 1024 → Shows bits (Var g) v → Shows (put bits slot b) (Var g) v
    input-keeps-gate g h = input-keeps (Var g) h (λ e. true≢false (ap gate_node e))

    pub input-keeps-input : (k : ℕ) {v : Bool} → k < 256 → (k ≡ i → ⊥) → Shows bits (Input k) v → Shows (put bits slot b) (Input k) v
    input-keeps-input k h d = input-keeps (Input k) h (λ e. d (ap number_in e))

-- one more gate is shown
pub shown-more : {row : List Bool} {val : ℕ → Bool} {K J : ℕ → Type 0} {bits : List Bool} {slot : ℕ} {b : Bool} → Shown row val K bits
    → (g : ℕ) → g < 1024 → slot ≡ 2 * (g + 1) → b ≡ val g → ((h : ℕ) → J h → K h ⊎ (h ≡ g)) → Shown row val J (put bits slot b)
shown-more {row} {val} {K} {J} {bits} {slot} {b} s g few at e more =
    record {
      size = length-put bits slot b ∙ s.size;
      const = gate-keeps-const bits b g few at s.const;
      few_inputs = s.few_inputs;
      inputs = λ i l. gate-keeps-input bits b g few at i (omega (arith, s.few_inputs)) (s.inputs i l);
      few_gates = λ h j. ⊎_elim (λ k. s.few_gates h k) (λ q. omega arith) (more h j);
      gates = λ h j. one h (ℕ_discrete h g) (more h j);
    }
  where
    here : Shows (put bits slot b) (Var g) (val g)
    here = subst (Shows (put bits slot b) (Var g)) e (put-gate bits b g few at s.size)

    one : (h : ℕ) → Dec (h ≡ g) → K h ⊎ (h ≡ g) → Shows (put bits slot b) (Var h) (val h)
    one h (yes q) w = subst (λ (k : ℕ). Shows (put bits slot b) (Var k) (val k)) (sym q) here
    one h (no d) (inl k) = gate-keeps-gate bits b g few at h (s.few_gates h k) d (s.gates h k)
    one h (no d) (inr q) = absurd (d q)

-- fewer gates are asked for, and their bits are told otherwise
pub shown-as : {row : List Bool} {val val' : ℕ → Bool} {K J : ℕ → Type 0} {bits : List Bool} → Shown row val K bits → ((h : ℕ) → J h → K h)
    → ((h : ℕ) → J h → val h ≡ val' h) → Shown row val' J bits
shown-as {bits = bits} s f e =
    record {
      size = s.size;
      const = s.const;
      few_inputs = s.few_inputs;
      inputs = s.inputs;
      few_gates = λ h j. s.few_gates h (f h j);
      gates = λ h j. subst (Shows bits (Var h)) (e h j) (s.gates h (f h j));
    }

-- fewer gates are asked for
pub shown-fewer : {row : List Bool} {val : ℕ → Bool} {K J : ℕ → Type 0} {bits : List Bool} → Shown row val K bits → ((h : ℕ) → J h → K h) → Shown row val J bits
shown-fewer s f = shown-as s f (λ h j. refl)
