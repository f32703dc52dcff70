-- How many combinational gates stand in a row up to a gate, counted to a bound, and that below the bound the count rests. Assumes nothing.
use mathlib.Core.Path.{◌≡◌, refl, sym, ap, ap₂, ◌∙◌}
use mathlib.Core.List.{List, [], ◌∷◌, Memᴰ}
use mathlib.Core.Option.{Option, none, some}
use Prim.Native.Nat.{ℕ, zero, suc, ◌≤◌, ◌<◌, max, zero-le}
use native.Mathlib.Omega.{arith}
use native.Mathlib.Nat.{le-max_left, le-max_right, max-le}
use native.Mathlib.Decide.{ℕ_discrete}
use lib.ListN.{get_elem?}
use Rattle.signal.specs.Signal.{Node, Const, Input, Var, Signal}
use Rattle.gates.specs.Gate.{Gate, Comb, Dff}
use Rattle.network.specs.Net.{Net}

abbrev pub node_depth : (ℕ → ℕ) → Node → ℕ
node_depth D Const = 0
node_depth D (Input i) = 0
node_depth D (Var g) = D g

abbrev pub deepest : (ℕ → ℕ) → List Signal → ℕ
deepest D [] = 0
deepest D (s ∷ ss) = max (node_depth D s.node) (deepest D ss)

abbrev pub depth_of : (ℕ → ℕ) → Option Gate → ℕ
depth_of D none = 0
depth_of D (some (Comb f ps)) = suc (deepest D ps)
depth_of D (some (Dff s)) = 0

-- how many combinational gates stand in a row up to gate g, k at most
unfoldable pub depth : Net → ℕ → ℕ → ℕ
depth net zero g = 0
depth net (suc k) g = depth_of (depth net k) (get_elem? net.gates g)

deeper : (D : ℕ → ℕ) (s : Signal) (h : ℕ) (ss : List Signal) → Memᴰ s ss → s.node ≡ Var h → D h ≤ deepest D ss
deeper D s h _ (Memᴰ.head {x = t} {xs = ss} e) p =
    let q : node_depth D t.node ≡ D h = ap (λ (u : Signal). node_depth D u.node) (sym e) ∙ ap (node_depth D) p in
    omega (arith, le-max_left (node_depth D t.node) (deepest D ss))
deeper D s h _ (Memᴰ.tail {x = t} {xs = ss} m) p =
    let i : D h ≤ deepest D ss = deeper D s h ss m p in
    omega (arith, le-max_right (node_depth D t.node) (deepest D ss))

pub deepest-ge : (D : ℕ → ℕ) (ss : List Signal) (s : Signal) (h : ℕ) → Memᴰ s ss → s.node ≡ Var h → D h ≤ deepest D ss
deepest-ge D ss s h m p = deeper D s h ss m p

node-le : (D : ℕ → ℕ) (k : ℕ) → ((g : ℕ) → D g ≤ k) → (n : Node) → node_depth D n ≤ k
node-le D k h Const = zero-le
node-le D k h (Input i) = zero-le
node-le D k h (Var g) = h g

deepest-le : (D : ℕ → ℕ) (k : ℕ) → ((g : ℕ) → D g ≤ k) → (ss : List Signal) → deepest D ss ≤ k
deepest-le D k h [] = zero-le
deepest-le D k h (s ∷ ss) = max-le (node-le D k h s.node) (deepest-le D k h ss)

pub depth_le : (net : Net) (k g : ℕ) → depth net k g ≤ k
unfolding depth
depth_le net zero g = zero-le
depth_le net (suc k) g = go (get_elem? net.gates g) (depth_le net k)
  where
    go : (o : Option Gate) → ((h : ℕ) → depth net k h ≤ k) → depth_of (depth net k) o ≤ suc k
    go none ih = zero-le
    go (some (Comb f ps)) ih = let u : deepest (depth net k) ps ≤ k = deepest-le (depth net k) k ih ps in omega arith
    go (some (Dff s)) ih = zero-le

-- a signal of the greatest depth
pub deepest-at : (D : ℕ → ℕ) (ss : List Signal) (k : ℕ) → deepest D ss ≡ suc k → (s : Signal) × (h : ℕ) × Memᴰ s ss × (s.node ≡ Var h) × (D h ≡ suc k)
deepest-at D [] k e = absurd (omega arith)
deepest-at D (s ∷ ss) k e = go s.node refl (ℕ_discrete (deepest D ss) (suc k)) (deepest-at D ss k)
  where
    go : (n : Node) → s.node ≡ n → Dec (deepest D ss ≡ suc k) → (deepest D ss ≡ suc k → (t : Signal) × (h : ℕ) × Memᴰ t ss × (t.node ≡ Var h) × (D h ≡ suc k))
        → (t : Signal) × (h : ℕ) × Memᴰ t (s ∷ ss) × (t.node ≡ Var h) × (D h ≡ suc k)
    go n p (yes q) ih = let r = ih q in (r.0, r.1, Memᴰ.tail r.2, r.3, r.4)
    go Const p (no q) ih = absurd (q (let z : node_depth D s.node ≡ 0 = ap (node_depth D) p in omega arith))
    go (Input i) p (no q) ih = absurd (q (let z : node_depth D s.node ≡ 0 = ap (node_depth D) p in omega arith))
    go (Var h) p (no q) ih = let z : node_depth D s.node ≡ D h = ap (node_depth D) p in (s, h, Memᴰ.head refl, p, omega arith)

-- ---- depth comes to rest

deepest-same : (D E : ℕ → ℕ) (k : ℕ) → ((g : ℕ) → D g < k → E g ≡ D g) → (ss : List Signal) → deepest D ss < k → deepest E ss ≡ deepest D ss
deepest-same D E k h [] u = refl
deepest-same D E k h (s ∷ ss) u =
    ap₂ max (node s.node (omega (arith, le-max_left (node_depth D s.node) (deepest D ss)))) (deepest-same D E k h ss (omega (arith, le-max_right (node_depth D s.node) (deepest D ss))))
  where
    node : (n : Node) → node_depth D n < k → node_depth E n ≡ node_depth D n
    node Const v = refl
    node (Input i) v = refl
    node (Var g) v = h g v

pub depth-rest : (net : Net) (k g : ℕ) → depth net k g < k → depth net (suc k) g ≡ depth net k g
unfolding depth
depth-rest net zero g u = absurd (omega arith)
depth-rest net (suc k) g u = go (get_elem? net.gates g) u (depth-rest net k)
  where
    go : (o : Option Gate) → depth_of (depth net k) o < suc k → ((h : ℕ) → depth net k h < k → depth net (suc k) h ≡ depth net k h) → depth_of (depth net (suc k)) o ≡ depth_of (depth net k) o
    go none v ih = refl
    go (some (Comb f ps)) v ih = ap suc (deepest-same (depth net k) (depth net (suc k)) k ih ps (omega arith))
    go (some (Dff s)) v ih = refl
