-- Rings of combinational gates: a full order has none, one that is not full leaves one. Assumes nothing.
use mathlib.Core.Bool.{true}
use mathlib.Core.Logic.{◌↔◌, ⊎_elim}
use mathlib.Core.List.{List, [], ◌∷◌}
use mathlib.Core.Option.{none, none-ne-some}
use mathlib.Core.Path.{◌≡◌, refl, sym, ap, ◌∙◌}
use Prim.Native.Nat.{ℕ, zero, suc, ◌+◌, ◌≤◌, ◌<◌}
use native.Mathlib.Omega.{arith}
use lib.ListN.{length, get_or}
use Rattle.lists.specs.Lists.{occ}
use Rattle.lists.proofs.Tests.{by-test}
use Rattle.lists.proofs.Counting.{hit-or, zero_or, is-over, once-short, some-zero, part_of}
use Rattle.lists.proofs.FirstPlace.{place}
use Rattle.sort_order.specs.Order.{Graph, uses, recorded, order, sort_order}
use Rattle.sort_order.specs.Between.Walk.{ValidGraph, uses_left, left}
use Rattle.sort_order.proofs.Walk.{uses-ins}
use Rattle.sort_order.proofs.WalkEnds.{flop-has, recorded-ended}
use Rattle.sort_order.proofs.Ordering.{order-occ, order-sum, inputs-first, full-or, sort-full, sort-short}

-- d and g are combinational gates and d is an input of g
pub record Feeds (G : Graph) (d g : ℕ) : Type 0 where
  pub below : g < G.size
  pub from : G.comb d ≡ true
  pub to : G.comb g ≡ true
  pub input : 0 < occ d (G.ins g)

-- a chain of one or more such steps
pub data Chain (G : Graph) : ℕ → ℕ → Type 0 where
  one : {a b : ℕ} → Feeds G a b → Chain G a b
  more : {a b c : ℕ} → Chain G a b → Feeds G b c → Chain G a c

-- a ring of one or more combinational gates, each an input of the next
pub record Ring (G : Graph) : Type 0 where
  pub at : ℕ
  pub ring : Chain G at at

module _ (G : Graph) (valid : ValidGraph G) where
  -- ---- a full order has no ring

  chain-place : length (order G) ≡ G.size → {a b : ℕ} → Chain G a b → place a (order G) < place b (order G)
  chain-place full (one f) = inputs-first G valid full _ _ f.below f.to f.input
  chain-place full (more r f) = omega (arith, chain-place full r, inputs-first G valid full _ _ f.below f.to f.input)

  pub no_loop : length (order G) ≡ G.size → Ring G → ⊥
  no_loop full r = omega (arith, chain-place full r.ring)

  -- ---- an order that is not full leaves one

  -- a combinational gate that is not recorded
  pub record Undone (v : ℕ) : Type 0 where
    pub below : v < G.size
    pub is-comb : G.comb v ≡ true
    pub not_done : occ v (recorded G) ≡ 0

  -- a user of it that is not recorded either
  pub record Next (v : ℕ) : Type 0 where
    pub user : ℕ
    pub undone : Undone user
    pub feeds : Feeds G v user

  left-some : (r k : ℕ) → 0 < left r k → (r ≡ 0) × (0 < k)
  left-some zero k p = (refl, p)
  left-some (suc r) k p = absurd (omega arith)

  next : (v : ℕ) → Undone v → Next v
  next v h =
      let c : 0 < get_or (recorded-ended G valid).counts v 0 = is-over (λ z. omega (arith, (recorded-ended G valid).good.covered v h.below h.is-comb z, h.not_done)) in
      let p : 0 < uses_left G (recorded G) v = omega (arith, (recorded-ended G valid).good.counted v h.below) in
      let f = part_of G.size (λ g. left (occ g (recorded G)) (occ v (uses G g))) p in
      let s = left-some (occ f.0 (recorded G)) (occ v (uses G f.0)) f.2 in
      let i = uses-ins G f.0 v s.1 in
      record {
        user = f.0;
        undone = record { below = f.1; is-comb = i.0; not_done = s.0 };
        feeds = record { below = f.1; from = h.is-comb; to = i.0; input = i.1 };
      }

  -- walk from gate to user until a gate comes again
  seek : (k : ℕ) (path : List ℕ) (w : ℕ) → Undone w → ((v : ℕ) → occ v path ≤ 1) → ((v : ℕ) → 0 < occ v path → (v < G.size) × Chain G v w) → G.size < length path + k → Ring G
  seek zero path w h once all l = absurd (omega (arith, once-short G.size path (λ v p. (all v p).0) once))
  seek (suc k) path w h once all l =
      ⊎_elim
      (λ z.
      let n = next w h in
      seek k (w ∷ path) n.user n.undone
      (λ v. ⊎_elim (λ e. omega (arith, e.1, z, ap (λ (x : ℕ). occ x path) e.0)) (λ e. omega (arith, e.1, once v)) (hit-or v w))
      (λ v p.
      ⊎_elim
      (λ e. (rw e.0 h.below, rw e.0 (one n.feeds)))
      (λ e. let a = all v (omega (arith, e.1)) in (a.0, more a.1 n.feeds))
      (hit-or v w))
      (omega arith))
      (λ p. record { at = w; ring = (all w p).1 })
      (zero_or (occ w path))

  pub has-loop : length (order G) < G.size → Ring G
  has-loop l =
      let z = some-zero G.size (λ v. occ v (order G)) (omega (arith, order-sum G valid)) in
      let o = order-occ G valid z.0 in
      let c : G.comb z.0 ≡ true = by-test (G.comb z.0) (λ e. e) (λ e. absurd (omega (arith, z.2, flop-has G z.0 G.size z.1 e))) in
      seek (suc G.size) [] z.0 (record { below = z.1; is-comb = c; not_done = omega (arith, z.2) })
      (λ v. omega arith)
      (λ v p. absurd (omega arith))
      (omega arith)

  -- no order exactly at a loop
  pub sort-none : (sort_order G ≡ none) ↔ Ring G
  sort-none = (
    λ e.
        ⊎_elim
        (λ f. absurd (none-ne-some (order G) (sym e ∙ sort-full G valid f)))
        (λ s. has-loop s)
        (full-or G valid),
    λ r. ⊎_elim (λ f. absurd (no_loop f r)) (λ s. sort-short G valid s) (full-or G valid),
  )
