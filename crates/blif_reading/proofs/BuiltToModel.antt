-- Every clock of the network built for a model is one of the model. Assumes nothing.
use mathlib.Core.Path.{◌≡◌, refl, sym, ap, ap₂, ◌∙◌}
use mathlib.Core.List.{List, [], ◌∷◌, ◌++◌, map, Memᴰ}
use mathlib.Core.Bool.{Bool, true, false, cond}
use mathlib.Core.Option.{Option, none, some}
use Prim.Native.Nat.{ℕ, zero, suc, ◌+◌}
use native.Mathlib.Omega.{arith}
use native.Mathlib.Nat.{zero-add, add-zero}
use lib.ListN.{length, get_elem?}
use Rattle.lists.specs.Lists.{optional}
use Rattle.signal.specs.Signal.{Signal, one_s, zero_s}
use Rattle.gates.specs.Gate.{Gate}
use Rattle.network.specs.Net.{GateIs}
use Rattle.network.specs.Clock.{Clock, node_bit, sig_bit}
use Rattle.blif_meaning.specs.Model.{Line, Block, Latch, Cover, Model, target, block_bit, cover_bit, BlifClock}
use Rattle.blif_reading.specs.Build.{line_gate, line_gates, block_gate, new_gates, block_gates, all_new_gates, build}
use Rattle.blif_meaning.specs.WellFormed.{Closed, GoodBlock}
use Rattle.blif_reading.proofs.Lookups.{Looks}
use Rattle.lists.proofs.Places.{place-mem, mem-place, place-left, place-right, map-map}
use Rattle.blif_reading.proofs.Covers.{line_bit, lines_bits, line-bit, cover-bit}
use Rattle.blif_reading.proofs.Along.{Seg}
use Rattle.blif_reading.proofs.ModelToBuilt.{block_gates-length, Holds}
use Rattle.network.proofs.Runs.{Simulates}

-- block j's gate stands at j, and the gates of its lines from k + d on
module _ {Name : Type 0} (signal_of : Name → Signal) where
  pub record Placed (k : ℕ) (bs : List (Block Name)) (j : ℕ) (b : Block Name) : Type 0 where
    pub d : ℕ
    pub main : get_elem? (block_gates signal_of k bs) j ≡ some (block_gate signal_of (k + d) b)
    pub lines : (i : ℕ) (x : Gate) → get_elem? (new_gates signal_of b) i ≡ some x → get_elem? (all_new_gates signal_of bs) (d + i) ≡ some x

  pub placed : (k : ℕ) (bs : List (Block Name)) (j : ℕ) (b : Block Name) → get_elem? bs j ≡ some b → Placed k bs j b
  placed k [] j b e = absurd (let z : ◌≡◌ {A = ℕ} 0 1 = cc in omega arith)
  placed k (a ∷ bs) zero b e =
      let q : a ≡ b = cc in
      record {
        d = 0;
        main = ap some (ap₂ (block_gate signal_of) (sym (add-zero k)) q);
        lines = λ i x w. ap (get_elem? (new_gates signal_of a ++ all_new_gates signal_of bs)) (zero-add i) ∙ place-left (new_gates signal_of a) (all_new_gates signal_of bs) i x (ap (λ (y : Block Name). get_elem? (new_gates signal_of y) i) q ∙ w);
      }
  placed k (a ∷ bs) (suc j) b e =
      let p : Placed (k + length (new_gates signal_of a)) bs j b = placed (k + length (new_gates signal_of a)) bs j b e in
      record {
        d = length (new_gates signal_of a) + p.d;
        main = p.main ∙ ap (λ (n : ℕ). some (block_gate signal_of n b)) (omega arith);
        lines = λ i x w. ap (get_elem? (new_gates signal_of a ++ all_new_gates signal_of bs)) (omega arith) ∙ place-right (new_gates signal_of a) (all_new_gates signal_of bs) (p.d + i) ∙ p.lines i x w;
      }

module _ {Name : Type 0} (m : Model Name) (signal_of : Name → Signal) where
  abbrev PlacedIn : ℕ → Block Name → Type 0
  PlacedIn j b = Placed signal_of (length m.blocks) m.blocks j b

  pub at_place : (j : ℕ) (b : Block Name) → get_elem? m.blocks j ≡ some b → PlacedIn j b
  at_place j b e = placed signal_of (length m.blocks) m.blocks j b e

  pub main-is : (j : ℕ) (b : Block Name) (p : PlacedIn j b) → GateIs (build signal_of m) j (block_gate signal_of (length m.blocks + p.d) b)
  main-is j b p = place-left (block_gates signal_of (length m.blocks) m.blocks) (all_new_gates signal_of m.blocks) j (block_gate signal_of (length m.blocks + p.d) b) p.main

  pub line-is : (j : ℕ) (b : Block Name) (p : PlacedIn j b) (i : ℕ) (x : Gate) → get_elem? (new_gates signal_of b) i ≡ some x → GateIs (build signal_of m) (length m.blocks + p.d + i) x
  line-is j b p i x w =
      let ms : List Gate = block_gates signal_of (length m.blocks) m.blocks in
      ap (get_elem? (ms ++ all_new_gates signal_of m.blocks)) (let e : length ms ≡ length m.blocks = block_gates-length signal_of (length m.blocks) m.blocks in omega arith)
      ∙ place-right ms (all_new_gates signal_of m.blocks) (p.d + i) ∙ p.lines i x w

module _ {Name : Type 0} (m : Model Name) (signal_of : Name → Signal) (ok : Looks m signal_of) (closed : Closed m)
    (good : (b : Block Name) → Memᴰ b m.blocks → GoodBlock b) where
  -- a flip-flop built for a latch and the latch hold the same
  abbrev pub HoldsBack : (ℕ → Bool) → (Name → Bool) → Type 0
  HoldsBack held_n held_b = Holds m signal_of ok closed good held_b held_n

  -- what the flip-flops hold, by the names of their latches
  abbrev pub held_by : (ℕ → Bool) → Name → Bool
  held_by held_n y = node_bit [] held_n (signal_of y).node

  pub held_by-holds : (held_n : ℕ → Bool) → HoldsBack held_n (held_by held_n)
  held_by-holds held_n j l e = sym (ap (λ (s : Signal). node_bit [] held_n s.node) (ok.block_at j (Latch l) e))

  module _ (held_n next_n : ℕ → Bool) (held_b : Name → Bool) (row out : List Bool) (h : HoldsBack held_n held_b) (c : Clock (build signal_of m) held_n row out next_n) where
    abbrev σ : Signal → Bool
    σ = sig_bit row c.bits

    abbrev env : Name → Bool
    env x = σ (signal_of x)

    abbrev ms : List Gate
    ms = block_gates signal_of (length m.blocks) m.blocks

    env-map : (xs : List Name) → map σ (map signal_of xs) ≡ map env xs
    env-map xs = map-map σ signal_of xs

    lines-seg : (k : ℕ) (ss : List Signal) (ls : List Line) → ((i : ℕ) (x : Gate) → get_elem? (map (line_gate ss) ls) i ≡ some x → GateIs (build signal_of m) (k + i) x) → Seg c.bits k (map (line_bit (map σ ss)) ls)
    lines-seg k ss [] p = tt
    lines-seg k ss (l ∷ ls) p = (
      c.fits k (line_gate ss l) (ap (get_elem? (build signal_of m).gates) (sym (add-zero k)) ∙ p 0 (line_gate ss l) refl) ∙ line-bit row c.bits (held_n k) ss l,
      lines-seg (suc k) ss ls (λ i x w. ap (get_elem? (build signal_of m).gates) (omega arith) ∙ p (suc i) x w),
    )

    cover-seg : (k : ℕ) (ss : List Signal) (ls : List Line) → ((i : ℕ) (x : Gate) → get_elem? (line_gates ss ls) i ≡ some x → GateIs (build signal_of m) (k + i) x) → Seg c.bits k (lines_bits (map σ ss) ls)
    cover-seg k ss [] p = tt
    cover-seg k ss (l ∷ []) p = tt
    cover-seg k ss (l ∷ n ∷ ls) p = lines-seg k ss (l ∷ n ∷ ls) p

    block_back : (j : ℕ) (b : Block Name) → get_elem? m.blocks j ≡ some b → env (target b) ≡ block_bit env (held_b (target b)) b
    block_back j (Latch l) e =
        let p : Placed signal_of (length m.blocks) m.blocks j (Latch l) = at_place m signal_of j (Latch l) e in
        ap σ (ok.block_at j (Latch l) e) ∙ c.fits j (block_gate signal_of (length m.blocks + p.d) (Latch l)) (main-is m signal_of j (Latch l) p) ∙ h j l e
    block_back j (Cover xs y ls) e =
        let b : Block Name = Cover xs y ls in
        let p : Placed signal_of (length m.blocks) m.blocks j b = at_place m signal_of j b e in
        let k : ℕ = length m.blocks + p.d in
        let g : GoodBlock b = good b (place-mem m.blocks j b e) in
        ap σ (ok.block_at j b e) ∙ c.fits j (block_gate signal_of k b) (main-is m signal_of j b p)
        ∙ cover-bit row c.bits (held_n j) k (map signal_of xs) ls (length xs) g.0 g.1 (cover-seg k (map signal_of xs) ls (line-is m signal_of j b p)) ∙ ap (cover_bit ls) (env-map xs)

    opt_same : (o : Option Name) (s : Signal) (v : Bool) → σ s ≡ v → σ (optional signal_of s o) ≡ optional env v o
    opt_same none s v e = e
    opt_same (some x) s v e = refl

    back-clock : (t : Name → Bool) × BlifClock m held_b row out t × HoldsBack next_n t
    back-clock = (
      held_by next_n,
      record {
        env = env;
        fits = record { ins = λ i x e. ap σ (ok.input_at i x e); blocks = λ b w. let t = mem-place m.blocks b w in block_back t.0 b t.1 };
        answers = c.answers ∙ env-map m.outputs;
        steps = λ l w.
            let t = mem-place m.blocks (Latch l) w in
            let p : Placed signal_of (length m.blocks) m.blocks t.0 (Latch l) = at_place m signal_of t.0 (Latch l) t.1 in
            sym (held_by-holds next_n t.0 l t.1) ∙ c.steps t.0 (block_gate signal_of (length m.blocks + p.d) (Latch l)) (main-is m signal_of t.0 (Latch l) p)
            ∙ (λ i. cond (opt_same l.reset zero_s false refl i) false (cond (opt_same l.enable one_s true refl i) (env l.input) (h t.0 l t.1 i)));
      },
      held_by-holds next_n,
    )

  pub read-back-simulates : Simulates HoldsBack (Clock (build signal_of m)) (BlifClock m)
  read-back-simulates held_n next_n held_b row out h c = back-clock held_n next_n held_b row out h c
