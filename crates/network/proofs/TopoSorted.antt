-- Sorted networks: the test gate by gate, what it says of each input, and that there is no loop. Assumes nothing.
use mathlib.Core.Path.{◌≡◌, refl, sym, ap, ap₂, ◌∙◌, subst}
use mathlib.Core.Bool.{Bool, true, ◌&&◌}
use mathlib.Core.List.{List, [], ◌∷◌, map, Memᴰ}
use mathlib.Core.Option.{some, none-ne-some}
use Prim.Native.Nat.{ℕ, zero, suc, ◌+◌, ◌<◌}
use native.Mathlib.Omega.{arith}
use lib.ListN.{get_elem?}
use borrow.Author.Tests.{lt-ltb, ltb-true}
use Rattle.lists.specs.Lists.{all, range}
use Rattle.lists.proofs.Tests.{and_left, and_right, and_both}
use Rattle.lists.proofs.Range.{all-mem, mem-all}
use Rattle.signal.specs.Signal.{Node, Const, Input, Var, Signal}
use Rattle.signal.specs.Cell.{node_of, sig_of}
use Rattle.gates.specs.Gate.{Gate, Comb, Dff, pins}
use Rattle.gates.specs.Forms.{form_cell, flop_number}
use Rattle.network.specs.Net.{Net, lower_than, inputs_lower, sorted_from, topo_sorted}
use Rattle.network.specs.Cells.{valid_node, all_valid, or_buf}
use Rattle.network.specs.Record.{form_at, run_at, gate_at}
use Rattle.network.specs.Between.Cells.{GateCells}
use Rattle.network.proofs.OneChoice.{RisesBy}

-- ---- what the test says

node-lower : (g h : ℕ) (n : Node) → lower_than g n ≡ true → n ≡ Var h → h < g
node-lower g h n t e = ltb-true h g (sym (ap (lower_than g) e) ∙ t)

lower-node : (g : ℕ) (n : Node) → ((h : ℕ) → n ≡ Var h → h < g) → lower_than g n ≡ true
lower-node g Const f = refl
lower-node g (Input i) f = refl
lower-node g (Var h) f = lt-ltb h g (f h refl)

from_place : (k : ℕ) (xs : List Gate) → sorted_from k xs ≡ true → (i : ℕ) (x : Gate) → get_elem? xs i ≡ some x → inputs_lower (k + i) x ≡ true
unfolding sorted_from
from_place k [] t i x e = absurd (none-ne-some x e)
from_place k (y ∷ ys) t zero x e =
    let z : k ≡ k + 0 = omega arith in
    let q : y ≡ x = cc in
    subst (λ (j : ℕ). inputs_lower j x ≡ true) z (subst (λ (w : Gate). inputs_lower k w ≡ true) q (and_left (inputs_lower k y) (sorted_from (suc k) ys) t))
from_place k (y ∷ ys) t (suc i) x e =
    let z : suc k + i ≡ k + suc i = omega arith in
    subst (λ (j : ℕ). inputs_lower j x ≡ true) z (from_place (suc k) ys (and_right (inputs_lower k y) (sorted_from (suc k) ys) t) i x e)

place-from : (k : ℕ) (xs : List Gate) → ((i : ℕ) (x : Gate) → get_elem? xs i ≡ some x → inputs_lower (k + i) x ≡ true) → sorted_from k xs ≡ true
unfolding sorted_from
place-from k [] f = refl
place-from k (y ∷ ys) f =
    let z : k + 0 ≡ k = omega arith in
    and_both (inputs_lower k y) (sorted_from (suc k) ys) (subst (λ (j : ℕ). inputs_lower j y ≡ true) z (f 0 y refl))
    (place-from (suc k) ys (λ i x e. let w : k + suc i ≡ suc k + i = omega arith in subst (λ (j : ℕ). inputs_lower j x ≡ true) w (f (suc i) x e)))

-- "every gate input of a combinational gate has a lower number"
pub sorted_rises : (net : Net) → topo_sorted net ≡ true → RisesBy net (λ g. g)
sorted_rises net t g h f ps s is m q =
    let z : 0 + g ≡ g = omega arith in
    let low : inputs_lower g (Comb f ps) ≡ true = subst (λ (j : ℕ). inputs_lower j (Comb f ps) ≡ true) z (from_place 0 net.gates t g (Comb f ps) is) in
    node-lower g h s.node (all-mem (λ (u : Signal). lower_than g u.node) ps low s m) q

pub rises_sorted : (net : Net) → RisesBy net (λ g. g) → topo_sorted net ≡ true
rises_sorted net r = place-from 0 net.gates gate
  where
    gate : (i : ℕ) (x : Gate) → get_elem? net.gates i ≡ some x → inputs_lower (0 + i) x ≡ true
    gate i (Dff ff) e = refl
    gate i (Comb f ps) e =
        mem-all (λ (u : Signal). lower_than (0 + i) u.node) ps
        (λ s m. lower-node (0 + i) s.node (λ h q. let l : h < i = r i h f ps s e m q in omega arith))

-- ---- the test, gate by gate of the cells

pub sorted-range : (F : ℕ → Gate) (g k : ℕ) → sorted_from g (map F (range g k)) ≡ all (λ i. inputs_lower i (F i)) (range g k)
unfolding sorted_from
sorted-range F g zero = refl
sorted-range F g (suc k) = ap (λ (b : Bool). inputs_lower g (F g) && b) (sorted-range F (suc g) k)

-- inputs that are valid among n gates are valid among the gates before g exactly where they are lower
lower-valid : (inputs n g : ℕ) (m : Node) → valid_node inputs n m ≡ true → valid_node inputs g m ≡ lower_than g m
lower-valid inputs n g Const t = refl
lower-valid inputs n g (Input i) t = t
lower-valid inputs n g (Var h) t = refl

lower-run : (inputs n g : ℕ) (cs : List ℕ) → ((c : ℕ) → Memᴰ c cs → valid_node inputs n (node_of c) ≡ true)
    → all_valid inputs g cs ≡ all (λ (s : Signal). lower_than g s.node) (map sig_of cs)
unfolding all_valid
lower-run inputs n g [] v = refl
lower-run inputs n g (c ∷ cs) v =
    ap₂ (λ (a b : Bool). a && b) (lower-valid inputs n g (node_of c) (v c (Memᴰ.head refl))) (lower-run inputs n g cs (λ d m. v d (Memᴰ.tail m)))

module _ {inputs n g : ℕ} {cells ps : List ℕ} (c : GateCells inputs n cells ps g) where
  abbrev held : Gate
  held = or_buf (gate_at cells ps g)

  held-gate : held ≡ c.gate
  held-gate = ap or_buf c.is

  pub comb-lower : {b : Bool} → (form_at cells g ≡ flop_number → ⊥) → b ≡ all_valid inputs g (run_at cells ps g) → b ≡ inputs_lower g held
  comb-lower f e = e ∙ lower-run inputs n g (run_at cells ps g) c.valid ∙ by c.gate c.run (λ q. f (c.form ∙ q)) ∙ ap (inputs_lower g) (sym held-gate)
    where
      by : (x : Gate) → pins x ≡ map sig_of (run_at cells ps g) → (form_cell x ≡ flop_number → ⊥)
          → all (λ (s : Signal). lower_than g s.node) (map sig_of (run_at cells ps g)) ≡ inputs_lower g x
      by (Dff ff) r q = absurd (q refl)
      by (Comb k qs) r q = ap (all (λ (s : Signal). lower_than g s.node)) (sym r)
