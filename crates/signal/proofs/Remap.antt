-- Renumbering a cell is renumbering its signal. Assumes nothing.
use Rattle.std.proofs.Common.{◌≡◌, ℕ, ◌-◌, ◌^◌, ◌<◌, ◌≤◌, Bool, true, false, List, length, get_or, sym, refl, ap, ◌∙◌, true≢false, le-ltb, lt-ltb}
use Rattle.lists.proofs.Tests.{and-false}
use Rattle.signal.specs.Signal.{Node, Const, Input, Var, Signal, plain, invert_if, xor_s, remap_node, remap}
use Rattle.signal.specs.Between.Signal.{gate_node}
use Rattle.signal.specs.Cell.{sig_cell, node_of, sig_of}
use Rattle.signal.specs.Between.Cell.{gate_cell, gate_number, remap_cell}
use Rattle.signal.proofs.Cells.{gate-number, gate-cell, signal-again, cell-again}

invert_if-false : (b : Bool) → invert_if b false ≡ b
invert_if-false false = refl
invert_if-false true = refl

-- the signal of the cell of gate n
gate-signal : (n : ℕ) → n < 2 ^ 30 - 1 → sig_of (gate_cell n) ≡ plain (Var n)
gate-signal n l = ap sig_of (gate-cell n l) ∙ signal-again (plain (Var n)) l

module _ (t : List ℕ) (c : ℕ) where
  -- what is no gate stays
  pub remap-other : gate_node (node_of c) ≡ false → c ≡ remap_cell t c
  unfolding remap_cell
  remap-other e = rw e

  -- what is no gate of t stays
  pub remap-past : length t ≤ gate_number c → c ≡ remap_cell t c
  unfolding remap_cell
  remap-past h = rw (le-ltb (gate_number c) (length t) h, and-false (gate_node (node_of c)))

  -- a gate of t is renumbered
  remap-found : gate_node (node_of c) ≡ true → gate_number c < length t → remap_cell t c ≡ sig_cell (remap (λ v. get_or t v 0) (sig_of c))
  unfolding remap_cell
  remap-found e l = rw (e, lt-ltb (gate_number c) (length t) l)

  -- it gets the signal of its new number, inverted as it was
  pub remap-gate : {v : ℕ} {b : Bool} → gate_node (node_of c) ≡ true → v ≡ gate_number c → v < length t → get_or t v 0 < 2 ^ 30 - 1 → b ≡ (sig_of c).inv
      → sig_cell (xor_s (sig_of (gate_cell (get_or t v 0))) b) ≡ remap_cell t c
  remap-gate {v} {b} e n l r i =
      let node : Var (get_or t v 0) ≡ remap_node (λ w. get_or t w 0) (node_of c) =
      ap (λ (w : ℕ). Var (get_or t w 0)) n ∙ ap (remap_node (λ w. get_or t w 0)) (sym (gate-number c e)) in
      let s : xor_s (plain (Var (get_or t v 0))) b ≡ remap (λ w. get_or t w 0) (sig_of c) = λ j. record { node = node j; inv = (invert_if-false b ∙ i) j } in
      ap (λ (x : Signal). sig_cell (xor_s x b)) (gate-signal (get_or t v 0) r) ∙ ap sig_cell s ∙ sym (remap-found e (rw n at l))

-- a table of numbers: gate g's is π g, for each gate that the signal may name
module _ (t : List ℕ) (π : ℕ → ℕ) where
  -- the node is no gate, or a gate g of t whose new number there is π g
  abbrev pub Renames : Node → Type 0
  Renames Const = Unit {0}
  Renames (Input i) = Unit {0}
  Renames (Var g) = (g < length t) × (get_or t g 0 ≡ π g)

  -- a signal of no gate is kept
  remap-kept : (s : Signal) → gate_node s.node ≡ false → s ≡ remap π s
  remap-kept s h = λ i. record { node = go s.node h i; inv = s.inv }
    where
      go : (n : Node) → gate_node n ≡ false → n ≡ remap_node π n
      go Const k = refl
      go (Input i) k = refl
      go (Var g) k = absurd (true≢false k)

  -- the renumbered cell is the cell of the signal renumbered
  pub remap-cell : (c : ℕ) → c < 2 ^ 32 → Renames (node_of c) → remap_cell t c ≡ sig_cell (remap π (sig_of c))
  remap-cell c l r = go (node_of c) refl r
    where
      kept : gate_node (node_of c) ≡ false → remap_cell t c ≡ sig_cell (remap π (sig_of c))
      kept h = sym (remap-other t c h) ∙ sym (cell-again c l) ∙ ap sig_cell (remap-kept (sig_of c) h)

      go : (n : Node) → node_of c ≡ n → Renames n → remap_cell t c ≡ sig_cell (remap π (sig_of c))
      go Const e k = kept (ap gate_node e)
      go (Input j) e k = kept (ap gate_node e)
      go (Var g) e k =
          let q : Var (gate_number c) ≡ Var g = sym (gate-number c (ap gate_node e)) ∙ e in
          let n : gate_number c ≡ g = cc in
          let node : remap_node (λ v. get_or t v 0) (node_of c) ≡ remap_node π (node_of c) = rw e (ap Var k.1) in
          remap-found t c (ap gate_node e) (rw n k.0) ∙ (λ i. sig_cell (record { node = node i; inv = (sig_of c).inv }))
