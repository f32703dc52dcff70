-- Without a loop the sort gives an order of all gates, which renumbers; at a loop it gives none. Assumes nothing.
use mathlib.Core.Path.{◌≡◌, refl, sym, ap, ◌∙◌, subst}
use mathlib.Core.List.{List, [], ◌∷◌, Memᴰ}
use mathlib.Core.Bool.{true, false≢true, false}
use mathlib.Core.Option.{Option, none, some, none-ne-some}
use mathlib.Core.Logic.{◌↔◌, ⊎_elim}
use Prim.Native.Nat.{ℕ, ◌<◌}
use native.Mathlib.Omega.{arith}
use lib.ListN.{length, get_or, get_elem?}
use Rattle.lists.specs.Lists.{occ, optional}
use Rattle.lists.proofs.Counting.{occ-mem, mem-occ}
use Rattle.lists.proofs.Places.{place-lt}
use Rattle.signal.specs.Signal.{Node, Const, Input, Var, Signal}
use Rattle.gates.specs.Gate.{Form, Gate, Comb, Dff, pins, is_comb}
use Rattle.network.specs.Net.{Net, Valid, ValidNode, Feeds, Path, last, Loop}
use Rattle.network.specs.Renumber.{permuted, place_of, Renumbered}
use Rattle.network.proofs.OneChoice.{path-snoc}
use Rattle.network.proofs.Permuting.{Orders, permuted-renumbers}
use Rattle.sort_order.specs.Order.{sort_order}
use Rattle.sort_order.specs.Sorted.{node_gate, gate_nums, graph, sorted_by, sorted}
use Rattle.sort_order.specs.Between.Walk.{ValidGraph}
use Rattle.sort_order.proofs.Ordering.{some-full, order_below, sort-permutes}
use Rattle.sort_order.proofs.Rings as rings
use Rattle.sort_order.proofs.Rings.{one, more, sort-none}

-- a gate among the signals' gates is what a signal points at
nums-point : (d : ℕ) (ss : List Signal) → Memᴰ d (gate_nums ss) → (s : Signal) × Memᴰ s ss × (s.node ≡ Var d)
nums-point d [] m = absurd (mathlib.Core.List.Memᴰ.not-nil m)
nums-point d (s ∷ ss) m = go s.node refl m (nums-point d ss)
  where
    go : (n : Node) → s.node ≡ n → Memᴰ d (node_gate n (gate_nums ss)) → (Memᴰ d (gate_nums ss) → (t : Signal) × Memᴰ t ss × (t.node ≡ Var d))
        → (t : Signal) × Memᴰ t (s ∷ ss) × (t.node ≡ Var d)
    go Const e w ih = let r = ih w in (r.0, mathlib.Core.List.Memᴰ.tail r.1, r.2)
    go (Input i) e w ih = let r = ih w in (r.0, mathlib.Core.List.Memᴰ.tail r.1, r.2)
    go (Var g) e w ih =
        ⊎_elim (λ (q : d ≡ g). (s, mathlib.Core.List.Memᴰ.head refl, e ∙ ap Var (sym q)))
        (λ (v : Memᴰ d (gate_nums ss)). let r = ih v in (r.0, mathlib.Core.List.Memᴰ.tail r.1, r.2)) (mathlib.Core.List.Memᴰ.cases_cons w)

named : (d : ℕ) (s : Signal) (ss : List Signal) → Memᴰ s ss → s.node ≡ Var d → Memᴰ d (gate_nums ss)
named d s _ (mathlib.Core.List.Memᴰ.head {x = t} {xs = ss} e) q =
    subst (λ (n : Node). Memᴰ d (node_gate n (gate_nums ss))) (sym (ap (λ (u : Signal). u.node) (sym e) ∙ q)) (mathlib.Core.List.Memᴰ.head refl)
named d s _ (mathlib.Core.List.Memᴰ.tail {x = t} {xs = ss} m) q = go t.node (named d s ss m q)
  where
    go : (n : Node) → Memᴰ d (gate_nums ss) → Memᴰ d (node_gate n (gate_nums ss))
    go Const w = w
    go (Input i) w = w
    go (Var g) w = mathlib.Core.List.Memᴰ.tail w

pub point-nums : (d : ℕ) (ss : List Signal) (s : Signal) → Memᴰ s ss → s.node ≡ Var d → Memᴰ d (gate_nums ss)
point-nums d ss s m q = named d s ss m q

ins-point : (d : ℕ) (o : Option Gate) → 0 < occ d (optional (λ (x : Gate). gate_nums (pins x)) [] o) → (x : Gate) × (o ≡ some x) × ((s : Signal) × Memᴰ s (pins x) × (s.node ≡ Var d))
ins-point d none u = absurd (omega arith)
ins-point d (some x) u = (x, refl, nums-point d (pins x) (occ-mem d (gate_nums (pins x)) u))

comb-is : (o : Option Gate) → optional is_comb false o ≡ true → (f : Form) × (ps : List Signal) × (o ≡ some (Comb f ps))
comb-is none e = absurd (false≢true e)
comb-is (some (Comb f ps)) e = (f, ps, refl)
comb-is (some (Dff s)) e = absurd (false≢true e)

module _ (net : Net) (valid : Valid net) where
  pub graph-valid : ValidGraph (graph net)
  graph-valid g d l u =
      let t = ins-point d (get_elem? net.gates g) u in
      subst (ValidNode net) t.2.2 (valid.pins_valid g t.0 t.2.0 t.1 t.2.1)

  feeds-back : (d g : ℕ) → rings.Feeds (graph net) d g → Feeds net d g
  feeds-back d g f =
      let a = comb-is (get_elem? net.gates d) f.from in
      let b = comb-is (get_elem? net.gates g) f.to in
      let t = ins-point d (get_elem? net.gates g) f.input in
      let q : some t.0 ≡ some (Comb b.0 b.1) = sym t.1 ∙ b.2 in
      let e : t.0 ≡ Comb b.0 b.1 = cc in
      record { form_a = a.0; pins_a = a.1; is_a = a.2; form_b = b.0; pins_b = b.1; is_b = b.2; by = t.2.0; among = subst (λ (x : Gate). Memᴰ t.2.0 (pins x)) e t.2.1; points = t.2.2 }

  chain_back : {a b : ℕ} → rings.Chain (graph net) a b → Path net a b
  chain_back {a} {b} (one f) = last (feeds-back a b f)
  chain_back {a} {b = c} (more {b = b} w f) = path-snoc (chain_back w) (feeds-back b c f)

  loop-back : rings.Ring (graph net) → Loop net
  loop-back l = (l.at, chain_back l.ring)

  feeds-to : (d g : ℕ) → Feeds net d g → rings.Feeds (graph net) d g
  feeds-to d g f = record {
    below = place-lt net.gates g (Comb f.form_b f.pins_b) f.is_b;
    from = ap (optional is_comb false) f.is_a;
    to = ap (optional is_comb false) f.is_b;
    input = subst (λ (o : Option Gate). 0 < occ d (optional (λ (x : Gate). gate_nums (pins x)) [] o)) (sym f.is_b) (mem-occ d (gate_nums f.pins_b) (point-nums d f.pins_b f.by f.among f.points));
  }

  chain-cons : {a b c : ℕ} → rings.Feeds (graph net) a b → rings.Chain (graph net) b c → rings.Chain (graph net) a c
  chain-cons f (one g) = more (one f) g
  chain-cons f (more w g) = more (chain-cons f w) g

  chain-to : {a b : ℕ} → Path net a b → rings.Chain (graph net) a b
  chain-to {a} {b} (last f) = one (feeds-to a b f)
  chain-to {a} {b = c} (Path.more {b = b} f w) = chain-cons (feeds-to a b f) (chain-to w)

  -- ---- the network sorted

  sorted-as : {o : Option (List ℕ)} → sort_order (graph net) ≡ o → sorted net ≡ sorted_by o net
  unfolding sorted
  sorted-as p = ap (λ (r : Option (List ℕ)). sorted_by r net) p

  -- an order, where the network is sorted
  pub sorted-order : (new : Net) → sorted net ≡ some new → (l : List ℕ) × (sort_order (graph net) ≡ some l) × (permuted l net ≡ new)
  sorted-order new e = go (sort_order (graph net)) refl
    where
      go : (o : Option (List ℕ)) → sort_order (graph net) ≡ o → (l : List ℕ) × (sort_order (graph net) ≡ some l) × (permuted l net ≡ new)
      go none p = absurd (none-ne-some new (sym (sorted-as p) ∙ e))
      go (some l) p = (l, p, (let q : some (permuted l net) ≡ some new = sym (sorted-as p) ∙ e in cc))

  pub order-sorted : (l : List ℕ) → sort_order (graph net) ≡ some l → sorted net ≡ some (permuted l net)
  order-sorted l p = sorted-as p

  pub none-sorted : sort_order (graph net) ≡ none → sorted net ≡ none
  none-sorted p = sorted-as p

  pub sorted_none : sorted net ≡ none → sort_order (graph net) ≡ none
  sorted_none e = go (sort_order (graph net)) refl
    where
      go : (o : Option (List ℕ)) → sort_order (graph net) ≡ o → sort_order (graph net) ≡ none
      go none p = p
      go (some l) p = absurd (none-ne-some (permuted l net) (sym e ∙ sorted-as p))

  pub none-loop : (sorted net ≡ none) ↔ Loop net
  none-loop = (
    λ e. loop-back ((sort-none (graph net) graph-valid).0 (sorted_none e)),
    λ r. none-sorted ((sort-none (graph net) graph-valid).1 (record { at = r.0; ring = chain-to r.1 })),
  )

  pub sorted-free : (new : Net) → sorted net ≡ some new → Loop net → ⊥
  sorted-free new e r = none-ne-some new (sym (none-loop.1 r) ∙ e)

  module _ (l : List ℕ) (e : sort_order (graph net) ≡ some l) where
    pub order-has : (g : ℕ) → 0 < occ g l → g < length net.gates
    order-has g p = let f = some-full (graph net) graph-valid l e in order_below (graph net) graph-valid g (rw f.0 p)

    -- the order holds every gate's number, and no other
    pub order-orders : Orders (length net.gates) l
    order-orders =
        record {
          every = λ g u. occ-mem g l (let h : occ g l ≡ 1 = sort-permutes (graph net) graph-valid l e g u in omega arith);
          only = λ g m. order-has g (mem-occ g l m);
        }

    pub order-renumbers : Renumbered net (permuted l net) (place_of l) (λ (i : ℕ). get_or l i 0)
    order-renumbers = permuted-renumbers net valid l order-orders
