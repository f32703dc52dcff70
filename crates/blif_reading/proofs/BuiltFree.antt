-- The network built for a model with ranks has no loop. Assumes nothing.
use mathlib.Core.Path.{◌≡◌, refl, sym, ap, ◌∙◌, subst}
use mathlib.Core.List.{List, [], ◌∷◌, ◌++◌, map, Memᴰ}
use mathlib.Core.Option.{some}
use mathlib.Core.Logic.{inl, inr}
use Prim.Native.Nat.{ℕ, zero, suc, ◌+◌, ◌*◌, ◌≤◌, ◌<◌}
use native.Mathlib.Omega.{arith}
use native.Mathlib.Nat.{zero-add, add-zero}
use lib.ListN.{length, get_or, get_elem?, length-map, replicate, length-replicate}
use lib.Seq.{get_or-append-add}
use Rattle.lists.proofs.Places.{place-mem, map-place}
use Rattle.signal.specs.Signal.{Node, Const, Input, Var, Signal}
use Rattle.gates.specs.Gate.{Gate, Comb, Dff, pins}
use Rattle.network.specs.Net.{Net, GateIs, Loop}
use Rattle.network.proofs.OneChoice.{rises-free}
use Rattle.blif_meaning.specs.Model.{Line, Block, Latch, Cover, Model, target}
use Rattle.blif_reading.specs.Build.{literals, line_gate, cover_gate, block_gate, new_gates, block_gates, all_new_gates, build}
use Rattle.blif_meaning.specs.WellFormed.{sources, Defined, Closed}
use Rattle.blif_reading.proofs.Lookups.{Looks}
use Rattle.blif_reading.proofs.Along.{Seg, seg-append, seg-of, Each, each_of, each_append, each_at, place-front}
use Rattle.blif_reading.proofs.CoverPins.{lit_names, literals-all, line-all, cover_all, lit-source}
use Rattle.blif_reading.proofs.ModelToBuilt.{block_gates-length}

-- a number for each name that rises from each literal of a cover to its output
pub record RankedModel {Name : Type 0} (m : Model Name) : Type 0 where
  pub rank_of : Name → ℕ
  pub above : (xs : List Name) (y : Name) (ls : List Line) (l : Line) (x : Name) → Memᴰ (Cover xs y ls) m.blocks → Memᴰ l ls → Memᴰ x (lit_names l.cols xs) → rank_of x < rank_of y

module _ {Name : Type 0} (signal_of : Name → Signal) (rank : Name → ℕ) where
  -- the ranks of a block's new gates: below the rank of its own gate, above those of its sources
  abbrev block_ranks : Block Name → List ℕ
  block_ranks b = replicate (length (new_gates signal_of b)) (2 * rank (target b))

  abbrev extra_ranks : List (Block Name) → List ℕ
  extra_ranks [] = []
  extra_ranks (b ∷ bs) = block_ranks b ++ extra_ranks bs

  module _ (ρ : ℕ → ℕ) where
    -- a node below B
    abbrev Under : ℕ → Node → Type 0
    Under B Const = Unit {0}
    Under B (Input i) = Unit {0}
    Under B (Var h) = ρ h < B

    -- what the gate at j is to have: the inputs of a combinational gate are below ρ j
    abbrev Right : ℕ → Gate → Type 0
    Right j (Comb f ps) = (s : Signal) → Memᴰ s ps → Under (ρ j) s.node
    Right j (Dff s) = Unit {0}

    right-comb : (j : ℕ) (x : Gate) → ((s : Signal) → Memᴰ s (pins x) → Under (ρ j) s.node) → Right j x
    right-comb j (Comb f ps) h = h
    right-comb j (Dff s) h = tt

    abbrev Above : Block Name → Type 0
    Above (Latch l) = Unit {0}
    Above (Cover xs y ls) = (l : Line) (x : Name) → Memᴰ l ls → Memᴰ x (lit_names l.cols xs) → rank x < rank y

    record Okay (j : ℕ) (b : Block Name) : Type 0 where
      names : (x : Name) → Memᴰ x (sources b) → (B : ℕ) → 2 * rank x + 2 ≤ B → Under B (signal_of x).node
      above : Above b
      at : ρ j ≡ suc (2 * rank (target b))

    main-right : (k j : ℕ) (b : Block Name) → Okay j b → ((i : ℕ) → i < length (new_gates signal_of b) → ρ (k + i) ≡ 2 * rank (target b)) → Right j (block_gate signal_of k b)
    main-right k j (Latch l) o r = tt
    main-right k j (Cover xs y ls) o r =
        let v : ρ j ≡ suc (2 * rank y) = o.at in
        right-comb j (cover_gate k (map signal_of xs) ls)
        (cover_all (Under (ρ j)) tt k (map signal_of xs) ls
        (λ l w. literals-all (Under (ρ j)) tt signal_of l.cols xs (λ x m. o.names x (lit-source l.cols xs x m) (ρ j) (omega (arith, o.above l x w m))))
        (λ i u. omega (arith, r i u)))

    seg-replicate : (k n a : ℕ) → Seg ρ k (replicate n a) → (i : ℕ) → i < n → ρ (k + i) ≡ a
    seg-replicate k zero a s i u = absurd (omega arith)
    seg-replicate k (suc n) a s zero u = ap ρ (add-zero k) ∙ s.0
    seg-replicate k (suc n) a s (suc i) u = ap ρ (omega arith) ∙ seg-replicate (suc k) n a s.1 i (omega arith)

    block_gates-right : (k j : ℕ) (bs : List (Block Name)) → Each Okay j bs → Seg ρ k (extra_ranks bs) → Each Right j (block_gates signal_of k bs)
    block_gates-right k j [] o s = tt
    block_gates-right k j (b ∷ bs) o s =
        let n : ℕ = length (new_gates signal_of b) in
        let r : Seg ρ k (block_ranks b) × Seg ρ (k + length (block_ranks b)) (extra_ranks bs) = seg-append ρ k (block_ranks b) (extra_ranks bs) s in (
          main-right k j b o.0 (seg-replicate k n (2 * rank (target b)) r.0),
          block_gates-right (k + n) (suc j) bs o.1 (subst (λ (c : ℕ). Seg ρ (k + c) (extra_ranks bs)) (length-replicate n (2 * rank (target b))) r.1),
        )

    lines-right : (j : ℕ) (ss : List Signal) (ls : List Line) (c : ℕ) → ((l : Line) → Memᴰ l ls → (s : Signal) → Memᴰ s (literals l.cols ss) → Under c s.node) → ((i : ℕ) → i < length ls → ρ (j + i) ≡ c) → Each Right j (map (line_gate ss) ls)
    lines-right j ss [] c h r = tt
    lines-right j ss (l ∷ ls) c h r = (
      right-comb j (line_gate ss l) (subst (λ (B : ℕ). (s : Signal) → Memᴰ s (pins (line_gate ss l)) → Under B s.node) (sym (ap ρ (sym (add-zero j)) ∙ r 0 (omega arith))) (line-all (Under c) tt ss l (h l (mathlib.Core.List.Memᴰ.head refl)))),
      lines-right (suc j) ss ls c (λ k w. h k (mathlib.Core.List.Memᴰ.tail w)) (λ i u. ap ρ (omega arith) ∙ r (suc i) (omega arith)),
    )

    more-right : (j i : ℕ) (b : Block Name) → Okay i b → ((n : ℕ) → n < length (new_gates signal_of b) → ρ (j + n) ≡ 2 * rank (target b)) → Each Right j (new_gates signal_of b)
    more-right j i (Latch l) o r = tt
    more-right j i (Cover xs y []) o r = tt
    more-right j i (Cover xs y (l ∷ [])) o r = tt
    more-right j i (Cover xs y (l ∷ m ∷ ls)) o r =
        lines-right j (map signal_of xs) (l ∷ m ∷ ls) (2 * rank y)
        (λ k v. literals-all (Under (2 * rank y)) tt signal_of k.cols xs (λ x w. o.names x (lit-source k.cols xs x w) (2 * rank y) (omega (arith, o.above k x v w))))
        (λ n u. r n (omega (arith, length-map ls (line_gate (map signal_of xs)))))

    new_gates-right : (j i : ℕ) (bs : List (Block Name)) → Each Okay i bs → Seg ρ j (extra_ranks bs) → Each Right j (all_new_gates signal_of bs)
    new_gates-right j i [] o s = tt
    new_gates-right j i (b ∷ bs) o s =
        let n : ℕ = length (new_gates signal_of b) in
        let r : Seg ρ j (block_ranks b) × Seg ρ (j + length (block_ranks b)) (extra_ranks bs) = seg-append ρ j (block_ranks b) (extra_ranks bs) s in
        each_append Right j (new_gates signal_of b) (all_new_gates signal_of bs)
        (more-right j i b o.0 (seg-replicate j n (2 * rank (target b)) r.0))
        (new_gates-right (j + n) (suc i) bs o.1 (subst (λ (c : ℕ). Seg ρ (j + c) (extra_ranks bs)) (length-replicate n (2 * rank (target b))) r.1))

module _ {Name : Type 0} (m : Model Name) (signal_of : Name → Signal) (ok : Looks m signal_of) (closed : Closed m) (rm : RankedModel m) where
  abbrev net : Net
  net = build signal_of m

  abbrev nb : ℕ
  nb = length m.blocks

  abbrev main_rank : Block Name → ℕ
  main_rank b = suc (2 * rm.rank_of (target b))

  abbrev mr : List ℕ
  mr = map main_rank m.blocks

  abbrev er : List ℕ
  er = extra_ranks signal_of rm.rank_of m.blocks

  abbrev ρ : ℕ → ℕ
  ρ g = get_or (mr ++ er) g 0

  abbrev RightAt : ℕ → Gate → Type 0
  RightAt = Right signal_of rm.rank_of ρ

  rank-at : (j : ℕ) (b : Block Name) → get_elem? m.blocks j ≡ some b → ρ j ≡ main_rank b
  rank-at j b e = place-front 0 mr er j (main_rank b) (map-place main_rank m.blocks j b e)

  name-under : (x : Name) → Defined m x → (B : ℕ) → 2 * rm.rank_of x + 2 ≤ B → Under signal_of rm.rank_of ρ B (signal_of x).node
  name-under x (inl (i, e)) B u = subst (λ (s : Signal). Under signal_of rm.rank_of ρ B s.node) (sym (ok.input_at i x e)) tt
  name-under x (inr (j, b, e, t)) B u =
      let w : ρ j ≡ main_rank b = rank-at j b e in
      let v : rm.rank_of (target b) ≡ rm.rank_of x = ap rm.rank_of t in
      subst (λ (y : Name). Under signal_of rm.rank_of ρ B (signal_of y).node) t (subst (λ (s : Signal). Under signal_of rm.rank_of ρ B s.node) (sym (ok.block_at j b e)) (omega arith))

  above_of : (b : Block Name) → Memᴰ b m.blocks → Above signal_of rm.rank_of ρ b
  above_of (Latch l) w = tt
  above_of (Cover xs y ls) w = λ l x v u. rm.above xs y ls l x w v u

  okays : Each (Okay signal_of rm.rank_of ρ) 0 m.blocks
  okays = each_of (Okay signal_of rm.rank_of ρ) 0 m.blocks (λ i b e.
      let w : Memᴰ b m.blocks = place-mem m.blocks i b e in
      record {
        names = λ x v B u. name-under x (closed.sources_defined b x w v) B u;
        above = above_of b w;
        at = ap ρ (zero-add i) ∙ rank-at i b e;
      })

  er-seg : Seg ρ nb er
  er-seg = seg-of 0 ρ nb er (λ i. ap (λ (n : ℕ). ρ (n + i)) (sym (length-map m.blocks main_rank)) ∙ get_or-append-add mr er i 0)

  all_right : Each RightAt 0 net.gates
  all_right =
      let ms : List Gate = block_gates signal_of nb m.blocks in
      each_append RightAt 0 ms (all_new_gates signal_of m.blocks) (block_gates-right signal_of rm.rank_of ρ nb 0 m.blocks okays er-seg)
      (new_gates-right signal_of rm.rank_of ρ (0 + length ms) 0 m.blocks okays (subst (λ (n : ℕ). Seg ρ n er) (sym (zero-add (length ms) ∙ block_gates-length signal_of nb m.blocks)) er-seg))

  right-at : (g : ℕ) (x : Gate) → GateIs net g x → RightAt g x
  right-at g x e = subst (λ (n : ℕ). RightAt n x) (zero-add g) (each_at RightAt 0 net.gates all_right g x e)

  -- no loop among the gates as built
  pub built-free : Loop net → ⊥
  built-free = rises-free net ρ (λ g h f ps s e w q. subst (Under signal_of rm.rank_of ρ (ρ g)) q (right-at g (Comb f ps) e s w))
