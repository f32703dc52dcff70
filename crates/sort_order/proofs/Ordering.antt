-- The order of the sort: each gate once, inputs first. Assumes nothing.
use mathlib.Core.Bool.{true, true≢false}
use mathlib.Core.Logic.{◌⊎◌, ⊎_elim}
use mathlib.Core.List.{List, [], ◌∷◌, ◌++◌}
use mathlib.Core.Option.{none, some, none-ne-some}
use mathlib.Core.Path.{◌≡◌, sym, ◌∙◌}
use Prim.Native.Nat.{ℕ, ◌+◌, ◌≤◌, ◌<◌}
use native.Mathlib.Omega.{arith}
use native.Mathlib.Nat.{eq-or-lt_of_le}
use lib.ListN.{length}
use borrow.Author.Tests.{eq-eqb, ne_eqb}
use Rattle.lists.specs.Lists.{occ, sum_to}
use Rattle.lists.proofs.Tests.{by-test}
use Rattle.lists.proofs.Counting.{hit-or, zero_or, is_zero, sum-occ, once-short, all_one, occ-append}
use Rattle.lists.proofs.FirstPlace.{place, place_here, place-there, place-below, place-left, place-right}
use Rattle.sort_order.specs.Order.{Graph, uses, flops_to, recorded, order, sort_order}
use Rattle.sort_order.specs.Between.Walk.{ValidGraph, Before, WalkState}
use Rattle.sort_order.proofs.Walk.{Ended, uses-comb}
use Rattle.sort_order.proofs.WalkEnds.{flop-only, flop-has, recorded-ended}

-- the users of a recorded gate are recorded, and stand behind it
topo-in : (G : Graph) (l : List ℕ) → Before G l → (d g : ℕ) → g < G.size → 0 < occ d (uses G g) → 0 < occ d l → 0 < occ g l
topo-in G [] t d g b u p = absurd (omega arith)
topo-in G (x ∷ l) t d g b u p =
    ⊎_elim
    (λ w. omega (arith, t.0 g b (rw w.0 at u)))
    (λ w. omega (arith, topo-in G l t.1 d g b u (omega (arith, w.1))))
    (hit-or d x)

topo-place : (G : Graph) (l : List ℕ) → Before G l → ((v : ℕ) → occ v l ≤ 1) → (d g : ℕ) → g < G.size → 0 < occ d (uses G g) → 0 < occ d l → place d l < place g l
topo-place G [] t h d g b u p = absurd (omega arith)
topo-place G (x ∷ l) t h d g b u p =
    ⊎_elim
    (λ w.
    let q : 0 < occ g l = t.0 g b (rw w.0 at u) in
    omega (arith, place_here d x l w.1, place-there g x l (omega (arith, h g))))
    (λ w.
    let m : 0 < occ d l = omega (arith, w.1) in
    let q : 0 < occ g l = topo-in G l t.1 d g b u m in
    omega (
      arith,
      place-there d x l w.1,
      place-there g x l (omega (arith, h g)),
      topo-place G l t.1 (λ v. omega (arith, h v)) d g b u m,
    ))
    (hit-or d x)

module _ (G : Graph) (valid : ValidGraph G) where
  abbrev done : List ℕ
  done = recorded G

  abbrev flops : List ℕ
  flops = flops_to G.comb G.size

  abbrev ended : Ended G done
  ended = recorded-ended G valid

  abbrev good : WalkState G ended.counts [] done []
  good = ended.good

  pub order-occ : (v : ℕ) → occ v (order G) ≡ occ v flops + occ v done
  unfolding order
  order-occ v = occ-append v flops done

  -- a combinational gate is no flip-flop
  no-flop : (v : ℕ) → G.comb v ≡ true → occ v flops ≡ 0
  no-flop v e = is_zero (λ p. true≢false (sym e ∙ ((flop-only G v G.size).1 p).1))

  pub order-once : (v : ℕ) → occ v (order G) ≤ 1
  order-once v =
      by-test (G.comb v)
      (λ e. omega (arith, order-occ v, good.once v, no-flop v e))
      (λ e. omega (arith, order-occ v, (flop-only G v G.size).0, is_zero (λ (p : 0 < occ v done). true≢false (sym (good.combs v p) ∙ e))))

  pub order_below : (v : ℕ) → 0 < occ v (order G) → v < G.size
  order_below v p =
      ⊎_elim
      (λ z. (good.low v (omega (arith, order-occ v))).0)
      (λ q. ((flop-only G v G.size).1 q).0)
      (zero_or (occ v flops))

  pub order-sum : sum_to G.size (λ v. occ v (order G)) ≡ length (order G)
  order-sum = sum-occ G.size (order G) order_below

  pub order-short : length (order G) ≤ G.size
  order-short = once-short G.size (order G) order_below order-once

  -- a full order has each gate once
  module _ (full : length (order G) ≡ G.size) where
    pub order-each : (v : ℕ) → v < G.size → occ v (order G) ≡ 1
    order-each v l = all_one G.size (λ w. occ w (order G)) (λ w m. order-once w) (order-sum ∙ full) v l

    comb-done : (v : ℕ) → v < G.size → G.comb v ≡ true → (occ v flops ≡ 0) × (occ v done ≡ 1)
    comb-done v l e = (no-flop v e, omega (arith, no-flop v e, order-occ v, order-each v l))

    -- every gate input of a combinational gate comes first
    pub inputs-first : (d g : ℕ) → g < G.size → G.comb g ≡ true → 0 < occ d (G.ins g) → place d (order G) < place g (order G)
    unfolding order
    inputs-first d g l e p =
        let q : place g (flops ++ done) ≡ length flops + place g done = place-right g flops done (comb-done g l e).0 in
        let b : d < G.size = valid g d l p in
        let u : 0 < occ d (uses G g) = rw (uses-comb G g e) p in
        by-test (G.comb d)
        (λ f.
        let m = comb-done d b f in
        omega (
          arith,
          q,
          place-right d flops done m.0,
          topo-place G done good.top (λ v. omega (arith, good.once v)) d g l u (omega arith),
        ))
        (λ f.
        let m : 0 < occ d flops = flop-has G d G.size b f in
        omega (arith, q, place-left d flops done m, place-below d flops m))

  -- ---- as laws of sort_order

  pub full-or : (length (order G) ≡ G.size) ⊎ (length (order G) < G.size)
  full-or = eq-or-lt_of_le order-short

  pub sort-full : length (order G) ≡ G.size → sort_order G ≡ some (order G)
  unfolding sort_order
  sort-full e = rw (eq-eqb _ _ e)

  pub sort-short : length (order G) < G.size → sort_order G ≡ none
  unfolding sort_order
  sort-short l = rw (ne_eqb (length (order G)) G.size (λ e. omega arith))

  pub some-full : (l : List ℕ) → sort_order G ≡ some l → (order G ≡ l) × (length (order G) ≡ G.size)
  some-full l e =
      ⊎_elim
      (λ f. let q = sort-full f in let r : order G ≡ l = cc in (r, f))
      (λ s. absurd (none-ne-some l (sym (sort-short s) ∙ e)))
      full-or

  -- (a) the order is a permutation of the gates
  pub sort-permutes : (l : List ℕ) → sort_order G ≡ some l → (v : ℕ) → v < G.size → occ v l ≡ 1
  sort-permutes l e v b = let q = some-full l e in rw q.0 at (order-each q.1 v b)

  pub sort-length : (l : List ℕ) → sort_order G ≡ some l → length l ≡ G.size
  sort-length l e = let q = some-full l e in rw q.0 at q.1

  -- (b) each gate input of a combinational gate gets a lower number
  pub sort-inputs : (l : List ℕ) → sort_order G ≡ some l → (d g : ℕ) → g < G.size → G.comb g ≡ true → 0 < occ d (G.ins g) → place d l < place g l
  sort-inputs l e d g b c p = let q = some-full l e in rw q.0 at (inputs-first q.1 d g b c p)
