-- A renumbered network has the clocks of the old one. Assumes nothing.
use mathlib.Core.Path.{◌≡◌, refl, sym, ap, ap₂, ◌∙◌, subst}
use mathlib.Core.List.Memᴰ
use mathlib.Core.List.{List, map, Memᴰ}
use mathlib.Core.Bool.{Bool, false}
use mathlib.Core.Option.{some}
use Prim.Native.Nat.{ℕ, ◌<◌}
use native.Mathlib.Omega.{arith}
use lib.ListN.{length}
use Rattle.lists.specs.Lists.{optional}
use Rattle.signal.specs.Signal.{Node, Const, Input, Var, Signal, invert_if, remap_node, remap}
use Rattle.gates.specs.Gate.{Form, Gate, Comb, Dff, pins, start_bit, form_bit}
use Rattle.network.specs.Net.{Net, GateIs, ValidNode, Valid, Loop}
use Rattle.network.specs.Clock.{Clock, node_bit, sig_bit, gate_bit, next_bit, start_bits}
use Rattle.network.specs.Settle.{next_of, run_from}
use Rattle.network.specs.Renumber.{remap_gate, NodeKept, From, Renumbered}
use Rattle.lists.proofs.Places.{map_on, map-map}
use Rattle.network.proofs.OneChoice.{Ranked, ranked, rises-free, run_is, runs-unique}
use Rattle.network.proofs.Runs.{Simulates, runs-along, next_of-is}

-- the inputs of a renumbered gate
pub pins-remap : (π : ℕ → ℕ) (y : Gate) → pins (remap_gate π y) ≡ map (remap π) (pins y)
pins-remap π (Comb f ps) = refl
pins-remap π (Dff s) = refl

-- and its start value
start-remap : (π : ℕ → ℕ) (y : Gate) → start_bit (remap_gate π y) ≡ start_bit y
start-remap π (Comb f ps) = refl
start-remap π (Dff s) = refl

-- what a renumbered node and a renumbered combinational gate were
pub node-from : (π : ℕ → ℕ) (n : Node) (d : ℕ) → remap_node π n ≡ Var d → (v : ℕ) × (n ≡ Var v) × (π v ≡ d)
node-from π Const d e = absurd (let z : ◌≡◌ {A = ℕ} 0 1 = cc in omega arith)
node-from π (Input i) d e = absurd (let z : ◌≡◌ {A = ℕ} 0 1 = cc in omega arith)
node-from π (Var g) d e = (g, refl, cc)

pub comb-from : (π : ℕ → ℕ) (y : Gate) (f : Form) (ps : List Signal) → Comb f ps ≡ remap_gate π y → (qs : List Signal) × (y ≡ Comb f qs) × (ps ≡ map (remap π) qs)
comb-from π (Comb h qs) f ps e = (qs, (let q : h ≡ f = cc in ap (λ (x : Form). Comb x qs) q), cc)
comb-from π (Dff s) f ps e = absurd (let z : ◌≡◌ {A = ℕ} 0 1 = cc in omega arith)

module _ (old new : Net) (π order : ℕ → ℕ) (ren : Renumbered old new π order) where
  abbrev pub HoldsAt : (ℕ → Bool) → (ℕ → Bool) → Type 0
  HoldsAt held held' = (i : ℕ) (x : Gate) → GateIs new i x → held' i ≡ held (order i)

  -- each gate starts at the bit at which it started under its old number
  pub starts-kept : HoldsAt (start_bits old) (start_bits new)
  starts-kept i x e =
      let f : From old (length new.gates) π order i x = ren.gates_from i x e in
      ap (optional start_bit false) e ∙ ap start_bit f.renamed ∙ start-remap π f.was ∙ sym (ap (optional start_bit false) f.was_at)

  module _ (row : List Bool) (bits : ℕ → Bool) where
    abbrev bits' : ℕ → Bool
    bits' i = bits (order i)

    node-same : (n : Node) → NodeKept (length new.gates) π order n → node_bit row bits' (remap_node π n) ≡ node_bit row bits n
    node-same Const k = refl
    node-same (Input i) k = refl
    node-same (Var g) k = ap bits k.1

    sig_same : (s : Signal) → NodeKept (length new.gates) π order s.node → sig_bit row bits' (remap π s) ≡ sig_bit row bits s
    sig_same s k = ap (invert_if s.inv) (node-same s.node k)

    sigs-same : (ss : List Signal) → ((s : Signal) → Memᴰ s ss → NodeKept (length new.gates) π order s.node) → map (sig_bit row bits') (map (remap π) ss) ≡ map (sig_bit row bits) ss
    sigs-same ss k = map-map (sig_bit row bits') (remap π) ss ∙ map_on (λ (s : Signal). sig_bit row bits' (remap π s)) (sig_bit row bits) ss (λ s w. sig_same s (k s w))

    gate_same : (h : Bool) (y : Gate) → ((s : Signal) → Memᴰ s (pins y) → NodeKept (length new.gates) π order s.node) → gate_bit (sig_bit row bits') h (remap_gate π y) ≡ gate_bit (sig_bit row bits) h y
    gate_same h (Comb f ps) k = ap (form_bit f) (sigs-same ps k)
    gate_same h (Dff s) k = refl

    next-same : (h : Bool) (y : Gate) → ((s : Signal) → Memᴰ s (pins y) → NodeKept (length new.gates) π order s.node) → next_bit (sig_bit row bits') h (remap_gate π y) ≡ next_bit (sig_bit row bits) h y
    next-same h (Comb f ps) k = refl
    next-same h (Dff s) k =
        cc (
          sig_same s.data_in (k s.data_in (Memᴰ.head refl)),
          sig_same s.enable (k s.enable (Memᴰ.tail (Memᴰ.head refl))),
          sig_same s.reset (k s.reset (Memᴰ.tail (Memᴰ.tail (Memᴰ.head refl)))),
        )

  renumbered-clock : (held next held' : ℕ → Bool) (row out : List Bool) → HoldsAt held held' → Clock old held row out next → (t : ℕ → Bool) × Clock new held' row out t × HoldsAt next t
  renumbered-clock held next held' row out h c =
      let b : ℕ → Bool = c.bits in
      let b' : ℕ → Bool = λ i. b (order i) in (
        next_of new (sig_bit row b') held',
        record {
          bits = b';
          fits = λ i x e.
              let f : From old (length new.gates) π order i x = ren.gates_from i x e in
              c.fits (order i) f.was f.was_at ∙ sym (gate_same row b (held (order i)) f.was f.kept)
              ∙ ap₂ (λ (v : Bool) (y : Gate). gate_bit (sig_bit row b') v y) (sym (h i x e)) (sym f.renamed);
          answers = c.answers ∙ sym (ap (map (sig_bit row b')) ren.same_outputs ∙ sigs-same row b old.outputs ren.outputs_kept);
          steps = λ i x e. next_of-is new (sig_bit row b') held' i x e;
        },
        λ i x e.
            let f : From old (length new.gates) π order i x = ren.gates_from i x e in
            next_of-is new (sig_bit row b') held' i x e ∙ ap₂ (λ (v : Bool) (y : Gate). next_bit (sig_bit row b') v y) (h i x e) f.renamed
            ∙ next-same row b (held (order i)) f.was f.kept ∙ sym (c.steps (order i) f.was f.was_at),
      )

  pub renumbered-simulates : Simulates HoldsAt (Clock old) (Clock new)
  renumbered-simulates held next held' row out h c = renumbered-clock held next held' row out h c

  module _ (valid : Valid old) where
    kept-valid : (n : Node) → NodeKept (length new.gates) π order n → ValidNode old n → ValidNode new (remap_node π n)
    kept-valid Const k v = tt
    kept-valid (Input i) k v = subst (λ (c : ℕ). i < c) (sym ren.same_inputs) v
    kept-valid (Var g) k v = k.0

    sigs-valid : (ss : List Signal) → ((s : Signal) → Memᴰ s ss → NodeKept (length new.gates) π order s.node) → ((s : Signal) → Memᴰ s ss → ValidNode old s.node)
        → (s : Signal) → Memᴰ s (map (remap π) ss) → ValidNode new s.node
    sigs-valid ss k v s m = let t = Memᴰ.of_map (remap π) ss m in subst (λ (u : Signal). ValidNode new u.node) t.2 (kept-valid t.0.node (k t.0 t.1) (v t.0 t.1))

    pub renumbered-valid : Valid new
    renumbered-valid = record {
      pins_valid = λ g x s p m.
          let f : From old (length new.gates) π order g x = ren.gates_from g x p in
          sigs-valid (pins f.was) f.kept (λ t w. valid.pins_valid (order g) f.was t f.was_at w) s
          (subst (Memᴰ s) (ap pins f.renamed ∙ pins-remap π f.was) m);
      outs_valid = λ s m. sigs-valid old.outputs ren.outputs_kept (λ t w. valid.outs_valid t w) s (subst (Memᴰ s) ren.same_outputs m);
    }

  node-was : (n : Node) (h : ℕ) → NodeKept (length new.gates) π order n → remap_node π n ≡ Var h → n ≡ Var (order h)
  node-was n h k e =
      let t = node-from π n h e in
      t.1 ∙ ap Var (sym (subst (NodeKept (length new.gates) π order) t.1 k).1 ∙ ap order t.2)

  pub renumbered-free : (Loop old → ⊥) → Loop new → ⊥
  renumbered-free free =
      let rk : Ranked old = ranked old free in
      rises-free new (λ i. rk.rank (order i)) (λ i h f ps s p m q.
      let fr : From old (length new.gates) π order i (Comb f ps) = ren.gates_from i (Comb f ps) p in
      let c = comb-from π fr.was f ps fr.renamed in
      let t = Memᴰ.of_map (remap π) c.0 (subst (Memᴰ s) c.2 m) in
      let k : NodeKept (length new.gates) π order t.0.node = fr.kept t.0 (subst (λ (y : Gate). Memᴰ t.0 (pins y)) (sym c.1) t.1) in
      rk.rises (order i) (order h) f c.0 t.0 (fr.was_at ∙ ap some c.1) t.1 (node-was t.0.node h k (ap (λ (u : Signal). u.node) t.2 ∙ q)))

  -- equal outputs at every clock: the sort's case, and that of gates left out
  pub renumbered-same : Valid old → (Loop old → ⊥) → (held held' : ℕ → Bool) → HoldsAt held held' → (rows : List (List Bool)) → run_from new held' rows ≡ run_from old held rows
  renumbered-same valid free held held' h rows =
      let v : Valid new = renumbered-valid valid in
      let rk : Ranked new = ranked new (renumbered-free free) in
      runs-unique new v rk held' held' rows (run_from new held' rows) (run_from old held rows) (λ g u. refl) (run_is new v rk rows held')
      (runs-along HoldsAt (Clock old) (Clock new) renumbered-simulates held held' rows (run_from old held rows) h (run_is old valid (ranked old free) rows held))
