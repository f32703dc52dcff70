-- Cells and signals, there and back: every 32-bit number is the cell of exactly one signal. Assumes nothing.
use Rattle.std.proofs.Common.{◌≡◌, ℕ, ◌+◌, ◌-◌, ◌*◌, ◌/◌, ◌%◌, ◌^◌, ◌<◌, ◌≤◌, Bool, true, false, not, eqb, List, [], ◌∷◌, map, sym, refl, ap, ◌∙◌, subst, ap₂, arith, le-ltb, lt-ltb, eq-eqb, ne_eqb}
use mathlib.Core.Bool.{false≢true}
use mathlib.Core.List.{Memᴰ}
use Rattle.lists.proofs.Tests.{by_order}
use Rattle.signal.specs.Signal.{Node, Const, Input, Var, Signal, plain, const_node}
use Rattle.signal.specs.Between.Signal.{input_node, gate_node}
use Rattle.signal.specs.Cell.{bit_of, node_cell, sig_cell, node_of, sig_of}
use Rattle.signal.specs.Between.Cell.{gate_cell, input_cell, gate_number, input_number}

-- the numbers that a cell has room for: 2^30 − 1 gates and 2^30 inputs
abbrev pub Small : Node → Type 0
Small Const = Unit {0}
Small (Var v) = v < 2 ^ 30 - 1
Small (Input v) = v < 2 ^ 30

-- ---- the three kinds of cells

-- which kind a cell is of, with its node
pub data Kind (c : ℕ) : Type 0 where
  const : c < 2 → node_of c ≡ Const → Kind c
  gate : 2 ≤ c → c < 2 ^ 31 → node_of c ≡ Var (c / 2 - 1) → Kind c
  input : 2 ^ 31 ≤ c → node_of c ≡ Input (2 ^ 31 - 1 - c / 2) → Kind c

pub kind : (c : ℕ) → Kind c
kind c =
    by_order 2 c
    (λ h. by_order (2 ^ 31) c (λ k. input k (rw (le-ltb c 2 h, le-ltb c (2 ^ 31) k))) (λ k. gate h k (rw (le-ltb c 2 h, lt-ltb c (2 ^ 31) k))))
    (λ h. const h (rw (lt-ltb c 2 h)))

-- ---- from a number to its signal and back

node-cell : (c : ℕ) → c < 2 ^ 32 → node_cell (node_of c) ≡ c / 2 * 2
node-cell c l = go (kind c)
  where
    go : Kind c → node_cell (node_of c) ≡ c / 2 * 2
    go (const h e) = ap node_cell e ∙ omega arith
    go (gate h k e) = ap node_cell e ∙ omega arith
    go (input h e) = ap node_cell e ∙ omega arith

inv-bit : (c : ℕ) → bit_of (eqb (c % 2) 1) ≡ c % 2
inv-bit c =
    by_order (c % 2) 0
    (λ h. ap bit_of (ne_eqb (c % 2) 1 (λ e. omega arith)) ∙ omega arith)
    (λ h. ap bit_of (eq-eqb (c % 2) 1 (omega arith)) ∙ omega arith)

-- every 32-bit number is the cell of its signal
pub cell-again : (c : ℕ) → c < 2 ^ 32 → sig_cell (sig_of c) ≡ c
cell-again c l = omega (arith, node-cell c l, inv-bit c)

-- the numbers of a 32-bit number's signal have room in a cell
pub small-node : (c : ℕ) → c < 2 ^ 32 → Small (node_of c)
small-node c l = go (kind c)
  where
    go : Kind c → Small (node_of c)
    go (const h e) = subst Small (sym e) tt
    go (gate h k e) = subst Small (sym e) (omega arith)
    go (input h e) = subst Small (sym e) (omega arith)

-- ---- from a signal to its number and back

bit_le : (v : Bool) → bit_of v ≤ 1
bit_le false = omega arith
bit_le true = omega arith

odd_even : (h : ℕ) (v : Bool) → eqb ((2 * h + bit_of v) % 2) 1 ≡ v
odd_even h false = ne_eqb ((2 * h + 0) % 2) 1 (λ e. omega arith)
odd_even h true = eq-eqb ((2 * h + 1) % 2) 1 (omega arith)

half-gate : (g b : ℕ) → b ≤ 1 → (2 * (g + 1) + b) / 2 - 1 ≡ g
half-gate g b u = omega arith

half-input : (i b : ℕ) → b ≤ 1 → i < 2 ^ 30 → 2 ^ 31 - 1 - (2 ^ 32 - 2 * (i + 1) + b) / 2 ≡ i
half-input i b u w = omega arith

node-again : (n : Node) (v : Bool) → Small n → node_of (node_cell n + bit_of v) ≡ n
node-again Const false s = refl
node-again Const true s = refl
node-again (Var g) v s = go (kind (2 * (g + 1) + bit_of v))
  where
    u : bit_of v ≤ 1
    u = bit_le v

    go : Kind (2 * (g + 1) + bit_of v) → node_of (2 * (g + 1) + bit_of v) ≡ Var g
    go (const h e) = absurd (omega arith)
    go (gate h k e) = e ∙ ap Var (half-gate g (bit_of v) u)
    go (input h e) = absurd (omega (arith, u))
node-again (Input i) v s = go (kind (2 ^ 32 - 2 * (i + 1) + bit_of v))
  where
    u : bit_of v ≤ 1
    u = bit_le v

    go : Kind (2 ^ 32 - 2 * (i + 1) + bit_of v) → node_of (2 ^ 32 - 2 * (i + 1) + bit_of v) ≡ Input i
    go (const h e) = absurd (omega arith)
    go (gate h k e) = absurd (omega arith)
    go (input h e) = e ∙ ap Input (half-input i (bit_of v) u s)

inv-again : (n : Node) (v : Bool) → Small n → eqb ((node_cell n + bit_of v) % 2) 1 ≡ v
inv-again Const false s = refl
inv-again Const true s = refl
inv-again (Var g) v s = odd_even (g + 1) v
inv-again (Input i) v s = ap (λ (c : ℕ). eqb ((c + bit_of v) % 2) 1) (input-even i s) ∙ odd_even (2 ^ 31 - (i + 1)) v
  where
    input-even : (j : ℕ) → j < 2 ^ 30 → 2 ^ 32 - 2 * (j + 1) ≡ 2 * (2 ^ 31 - (j + 1))
    input-even j u = omega arith

-- every signal whose number has room is the signal of its cell
pub signal-again : (s : Signal) → Small s.node → sig_of (sig_cell s) ≡ s
signal-again s h = λ i. record { node = node-again s.node s.inv h i; inv = inv-again s.node s.inv h i }

pub cell-fits : (s : Signal) → Small s.node → sig_cell s < 2 ^ 32
cell-fits s h = go s.node h
  where
    u : bit_of s.inv ≤ 1
    u = bit_le s.inv

    go : (n : Node) → Small n → node_cell n + bit_of s.inv < 2 ^ 32
    go Const k = omega (arith, u)
    go (Var g) k = omega (arith, u)
    go (Input i) k = omega (arith, u)

-- so two 32-bit numbers with one signal are one number
pub one_cell : (c d : ℕ) → c < 2 ^ 32 → d < 2 ^ 32 → sig_of c ≡ sig_of d → c ≡ d
one_cell c d h k e = sym (cell-again c h) ∙ ap sig_cell e ∙ cell-again d k

-- ---- lists of them

pub cells-again : (l : List ℕ) → ((c : ℕ) → Memᴰ c l → c < 2 ^ 32) → map sig_cell (map sig_of l) ≡ l
cells-again [] h = refl
cells-again (c ∷ l) h =
    ap₂ (λ (x : ℕ) (m : List ℕ). x ∷ m) (cell-again c (h c (Memᴰ.head refl))) (cells-again l (λ x m. h x (Memᴰ.tail m)))

pub signals-again : (l : List Signal) → ((s : Signal) → Memᴰ s l → Small s.node) → map sig_of (map sig_cell l) ≡ l
signals-again [] h = refl
signals-again (s ∷ l) h =
    ap₂ (λ (x : Signal) (m : List Signal). x ∷ m) (signal-again s (h s (Memᴰ.head refl))) (signals-again l (λ x m. h x (Memᴰ.tail m)))

-- ---- the tests

pub const-test : (c : ℕ) → eqb (c / 2) 0 ≡ const_node (node_of c)
const-test c = go (kind c)
  where
    go : Kind c → eqb (c / 2) 0 ≡ const_node (node_of c)
    go (const h e) = eq-eqb (c / 2) 0 (omega arith) ∙ sym (ap const_node e)
    go (gate h k e) = ne_eqb (c / 2) 0 (λ z. omega arith) ∙ sym (ap const_node e)
    go (input h e) = ne_eqb (c / 2) 0 (λ z. omega arith) ∙ sym (ap const_node e)

-- ---- numbers

-- the number of a gate's cell is its gate's
pub gate-number : (c : ℕ) → gate_node (node_of c) ≡ true → node_of c ≡ Var (gate_number c)
gate-number c t = go (kind c)
  where
    go : Kind c → node_of c ≡ Var (gate_number c)
    go (const h e) = absurd (false≢true (sym (ap gate_node e) ∙ t))
    go (gate h k e) = e ∙ ap Var (omega arith)
    go (input h e) = absurd (false≢true (sym (ap gate_node e) ∙ t))

pub input-number : (c : ℕ) → input_node (node_of c) ≡ true → node_of c ≡ Input (input_number c)
input-number c t = go (kind c)
  where
    go : Kind c → node_of c ≡ Input (input_number c)
    go (const h e) = absurd (false≢true (sym (ap input_node e) ∙ t))
    go (gate h k e) = absurd (false≢true (sym (ap input_node e) ∙ t))
    go (input h e) = e

-- what `from_var` and `from_input` build, where the number has room, is document 01's number
pub gate-cell : (v : ℕ) → v < 2 ^ 30 - 1 → gate_cell v ≡ sig_cell (plain (Var v))
gate-cell v h = omega arith

pub input-cell : (v : ℕ) → v < 2 ^ 30 → input_cell v ≡ sig_cell (plain (Input v))
input-cell v h = omega arith

-- ---- inversion

turn-bit : (c : ℕ) → bit_of (not (eqb (c % 2) 1)) ≡ 1 - c % 2
turn-bit c =
    by_order (c % 2) 0
    (λ h. ap (λ (b : Bool). bit_of (not b)) (ne_eqb (c % 2) 1 (λ e. omega arith)) ∙ omega arith)
    (λ h. ap (λ (b : Bool). bit_of (not b)) (eq-eqb (c % 2) 1 (omega arith)) ∙ omega arith)
