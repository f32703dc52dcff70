-- A list that holds every gate's number, and no other, renumbers a network. Assumes nothing.
use mathlib.Core.Path.{◌≡◌, refl, sym, ap, ◌∙◌, subst}
use mathlib.Core.List.{List, [], Memᴰ}
use mathlib.Core.Option
use mathlib.Core.Option.{Option, none, some}
use Prim.Native.Nat.{ℕ, ◌<◌}
use lib.Dec.{eqb}
use lib.ListN.{length, get_or, get_elem?, length-map}
use borrow.Author.Tests.{eq-eqb, eqb-true}
use Rattle.lists.specs.Lists.{find}
use Rattle.signal.specs.Signal.{Node, Const, Input, Var}
use Rattle.gates.specs.Gate.{Comb, Buf}
use Rattle.network.specs.Net.{Net, GateIs, ValidNode, Valid}
use Rattle.network.specs.Renumber.{remap_gate, NodeKept, Renumbered, place_of, gate_or, permuted}
use Rattle.lists.proofs.Places.{place-lt, place-mem, get_or-place, place-get_or, map_at}
use Rattle.lists.proofs.Find.{find-some, find_none}

-- the list holds every gate's number, and no other
pub record Orders (n : ℕ) (l : List ℕ) : Type 0 where
  pub every : (g : ℕ) → g < n → Memᴰ g l
  pub only : (g : ℕ) → Memᴰ g l → g < n

pub gate-at : (net : Net) (g : ℕ) → g < length net.gates → GateIs net g (gate_or net g)
gate-at net g u = place-get_or (Comb Buf []) net.gates g u

pub place-of : (l : List ℕ) (g : ℕ) → Memᴰ g l → get_elem? l (place_of l g) ≡ some g
place-of l g m = go (find (eqb g) l) refl
  where
    go : (r : Option ℕ) → find (eqb g) l ≡ r → get_elem? l (Option.get_or (find (eqb g) l) 0) ≡ some g
    go none p = absurd (find_none (eqb g) l p g m (eq-eqb g g refl))
    go (some i) p =
        let f = find-some (eqb g) l i p in
        ap (λ (r : Option ℕ). get_elem? l (Option.get_or r 0)) p ∙ f.1 ∙ ap some (sym (eqb-true g f.0 f.2))

module _ (net : Net) (valid : Valid net) (l : List ℕ) (o : Orders (length net.gates) l) where
  abbrev back : ℕ → ℕ
  back i = get_or l i 0

  kept-node : (n : Node) → ValidNode net n → NodeKept (length (permuted l net).gates) (place_of l) back n
  kept-node Const v = tt
  kept-node (Input i) v = tt
  kept-node (Var g) v =
      let p : get_elem? l (place_of l g) ≡ some g = place-of l g (o.every g v) in (
        subst (λ (n : ℕ). place_of l g < n) (sym (length-map l (λ (k : ℕ). remap_gate (place_of l) (gate_or net k)))) (place-lt l (place_of l g) g p),
        get_or-place 0 l (place_of l g) g p,
      )

  pub permuted-renumbers : Renumbered net (permuted l net) (place_of l) back
  permuted-renumbers = record {
    same_inputs = refl;
    gates_from = λ i x e.
        let t = map_at (λ (k : ℕ). remap_gate (place_of l) (gate_or net k)) l i x e in
        let q : back i ≡ t.0 = get_or-place 0 l i t.0 t.1 in
        let w : GateIs net t.0 (gate_or net t.0) = gate-at net t.0 (o.only t.0 (place-mem l i t.0 t.1)) in
        record {
          was = gate_or net t.0;
          was_at = ap (get_elem? net.gates) q ∙ w;
          renamed = sym t.2;
          kept = λ s m. kept-node s.node (valid.pins_valid t.0 (gate_or net t.0) s w m);
        };
    same_outputs = refl;
    outputs_kept = λ s m. kept-node s.node (valid.outs_valid s m);
  }
