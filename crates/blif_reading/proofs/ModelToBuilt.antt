-- Every clock of a model is one of the network built for it. Assumes nothing.
use mathlib.Core.Path.{◌≡◌, refl, sym, ap, ◌∙◌, subst}
use mathlib.Core.List.{List, [], ◌∷◌, ◌++◌, map, Memᴰ}
use mathlib.Core.Bool.{Bool, true, false, cond}
use mathlib.Core.Option.{Option, none, some}
use mathlib.Core.Logic.{inl, inr}
use Prim.Native.Nat.{ℕ, zero, suc, ◌+◌}
use native.Mathlib.Omega.{arith}
use native.Mathlib.Nat.{zero-add, add-zero}
use lib.ListN.{length, get_or, get_elem?, length-map}
use lib.Seq.{get_or-append-add}
use Rattle.lists.specs.Lists.{optional}
use Rattle.network.specs.Settle.{next_of}
use Rattle.network.proofs.Runs.{Simulates, next_of-is}
use Rattle.signal.specs.Signal.{Signal, one_s, zero_s}
use Rattle.gates.specs.Gate.{Gate}
use Rattle.network.specs.Net.{Net}
use Rattle.network.specs.Clock.{Fits, Clock, sig_bit, gate_bit}
use Rattle.blif_meaning.specs.Model.{Line, LatchDef, Block, Latch, Cover, Model, target, block_bit, cover_bit, BlifClock}
use Rattle.blif_reading.specs.Build.{line_gate, block_gate, new_gates, block_gates, all_new_gates, build}
use Rattle.blif_meaning.specs.WellFormed.{opt_name, sources, Defined, Closed, GoodBlock}
use Rattle.blif_reading.proofs.Lookups.{Looks}
use Rattle.lists.proofs.Places.{place-mem, place-left, map_on, map-map, map-place}
use Rattle.blif_reading.proofs.Covers.{line_bit, lines_bits, line-bit, cover-bit}
use Rattle.blif_reading.proofs.Along.{Seg, seg-append, seg-of, Each, each_of, place-front}

-- ---- bits by place

-- b is what the gate at k is to have, and so on along both lists
abbrev Match : (Signal → Bool) → (ℕ → Bool) → ℕ → List Gate → List Bool → Type 0
Match σ held k [] [] = Unit {0}
Match σ held k [] (b ∷ bs) = ⊥
Match σ held k (x ∷ xs) [] = ⊥
Match σ held k (x ∷ xs) (b ∷ bs) = (b ≡ gate_bit σ (held k) x) × Match σ held (suc k) xs bs

module _ (σ : Signal → Bool) (held : ℕ → Bool) where
  match-append : (k : ℕ) (xs : List Gate) (bs : List Bool) (ys : List Gate) (cs : List Bool)
      → Match σ held k xs bs → Match σ held (k + length xs) ys cs → Match σ held k (xs ++ ys) (bs ++ cs)
  match-append k [] [] ys cs m n = subst (λ (j : ℕ). Match σ held j ys cs) (add-zero k) n
  match-append k [] (b ∷ bs) ys cs m n = absurd m
  match-append k (x ∷ xs) [] ys cs m n = absurd m
  match-append k (x ∷ xs) (b ∷ bs) ys cs m n =
      (m.0, match-append (suc k) xs bs ys cs m.1 (subst (λ (j : ℕ). Match σ held j ys cs) (omega arith) n))

  match-at : (k : ℕ) (xs : List Gate) (bs : List Bool) → Match σ held k xs bs
      → (g : ℕ) (x : Gate) → get_elem? xs g ≡ some x → get_or bs g false ≡ gate_bit σ (held (k + g)) x
  match-at k [] [] m g x e = absurd (let z : ◌≡◌ {A = ℕ} 0 1 = cc in omega arith)
  match-at k [] (b ∷ bs) m g x e = absurd m
  match-at k (y ∷ xs) [] m g x e = absurd m
  match-at k (y ∷ xs) (b ∷ bs) m zero x e = m.0 ∙ cc (add-zero k)
  match-at k (y ∷ xs) (b ∷ bs) m (suc g) x e = match-at (suc k) xs bs m.1 g x e ∙ ap (λ (j : ℕ). gate_bit σ (held j) x) (omega arith)

module _ {Name : Type 0} (signal_of : Name → Signal) (row : List Bool) (env : Name → Bool) (held : ℕ → Bool) where
  -- the bits of the gates of a block's lines
  abbrev block_bits : Block Name → List Bool
  block_bits (Latch l) = []
  block_bits (Cover xs y ls) = lines_bits (map env xs) ls

  abbrev extra_bits : List (Block Name) → List Bool
  extra_bits [] = []
  extra_bits (b ∷ bs) = block_bits b ++ extra_bits bs

  abbrev main_bits : List (Block Name) → List Bool
  main_bits bs = map (λ (b : Block Name). env (target b)) bs

  block-length : (b : Block Name) → length (block_bits b) ≡ length (new_gates signal_of b)
  block-length (Latch l) = refl
  block-length (Cover xs y []) = refl
  block-length (Cover xs y (l ∷ [])) = refl
  block-length (Cover xs y (l ∷ m ∷ ls)) = length-map (l ∷ m ∷ ls) (line_bit (map env xs)) ∙ sym (length-map (l ∷ m ∷ ls) (line_gate (map signal_of xs)))

  module _ (β : ℕ → Bool) where
    -- what is known of block j: its sources' signals have the names' values, its lines are good, and it has its value
    record Okay (j : ℕ) (b : Block Name) : Type 0 where
      known : (x : Name) → Memᴰ x (sources b) → sig_bit row β (signal_of x) ≡ env x
      good : GoodBlock b
      fit : env (target b) ≡ block_bit env (held j) b

    known_map : (xs : List Name) → ((x : Name) → Memᴰ x xs → sig_bit row β (signal_of x) ≡ env x) → map (sig_bit row β) (map signal_of xs) ≡ map env xs
    known_map xs h = map-map (sig_bit row β) signal_of xs ∙ map_on (λ (x : Name). sig_bit row β (signal_of x)) env xs h

    block_fit : (k j : ℕ) (b : Block Name) → Okay j b → Seg β k (block_bits b) → env (target b) ≡ gate_bit (sig_bit row β) (held j) (block_gate signal_of k b)
    block_fit k j (Latch l) o s = o.fit
    block_fit k j (Cover xs y ls) o s =
        let e : map (sig_bit row β) (map signal_of xs) ≡ map env xs = known_map xs o.known in
        o.fit ∙ ap (cover_bit ls) (sym e)
        ∙ sym (cover-bit row β (held j) k (map signal_of xs) ls (length xs) o.good.0 o.good.1 (subst (λ (v : List Bool). Seg β k (lines_bits v ls)) (sym e) s))

    block_gates-match : (k j : ℕ) (bs : List (Block Name)) → Each Okay j bs → Seg β k (extra_bits bs)
        → Match (sig_bit row β) held j (block_gates signal_of k bs) (main_bits bs)
    block_gates-match k j [] o s = tt
    block_gates-match k j (b ∷ bs) o s =
        let r : Seg β k (block_bits b) × Seg β (k + length (block_bits b)) (extra_bits bs) = seg-append β k (block_bits b) (extra_bits bs) s in
        (block_fit k j b o.0 r.0, block_gates-match (k + length (new_gates signal_of b)) (suc j) bs o.1 (subst (λ (n : ℕ). Seg β (k + n) (extra_bits bs)) (block-length b) r.1))

    lines-match : (j : ℕ) (ss : List Signal) (ls : List Line) → Match (sig_bit row β) held j (map (line_gate ss) ls) (map (line_bit (map (sig_bit row β) ss)) ls)
    lines-match j ss [] = tt
    lines-match j ss (l ∷ ls) = (sym (line-bit row β (held j) ss l), lines-match (suc j) ss ls)

    more-match : (j i : ℕ) (b : Block Name) → Okay i b → Match (sig_bit row β) held j (new_gates signal_of b) (block_bits b)
    more-match j i (Latch l) o = tt
    more-match j i (Cover xs y []) o = tt
    more-match j i (Cover xs y (l ∷ [])) o = tt
    more-match j i (Cover xs y (l ∷ m ∷ ls)) o =
        subst (λ (v : List Bool). Match (sig_bit row β) held j (map (line_gate (map signal_of xs)) (l ∷ m ∷ ls)) (map (line_bit v) (l ∷ m ∷ ls)))
        (known_map xs o.known) (lines-match j (map signal_of xs) (l ∷ m ∷ ls))

    new_gates-match : (j i : ℕ) (bs : List (Block Name)) → Each Okay i bs → Match (sig_bit row β) held j (all_new_gates signal_of bs) (extra_bits bs)
    new_gates-match j i [] o = tt
    new_gates-match j i (b ∷ bs) o =
        match-append (sig_bit row β) held j (new_gates signal_of b) (block_bits b) (all_new_gates signal_of bs) (extra_bits bs)
        (more-match j i b o.0) (new_gates-match (j + length (new_gates signal_of b)) (suc i) bs o.1)

pub block_gates-length : {Name : Type 0} (signal_of : Name → Signal) (k : ℕ) (bs : List (Block Name)) → length (block_gates signal_of k bs) ≡ length bs
block_gates-length signal_of k [] = refl
block_gates-length signal_of k (b ∷ bs) = ap suc (block_gates-length signal_of (k + length (new_gates signal_of b)) bs)

block_gates-place : {Name : Type 0} (signal_of : Name → Signal) (k : ℕ) (bs : List (Block Name)) (j : ℕ) (b : Block Name) → get_elem? bs j ≡ some b
    → (c : ℕ) × (get_elem? (block_gates signal_of k bs) j ≡ some (block_gate signal_of c b))
block_gates-place signal_of k [] j b e = absurd (let z : ◌≡◌ {A = ℕ} 0 1 = cc in omega arith)
block_gates-place signal_of k (a ∷ bs) zero b e = (k, let q : a ≡ b = cc in ap (λ (y : Block _). some (block_gate signal_of k y)) q)
block_gates-place signal_of k (a ∷ bs) (suc j) b e = block_gates-place signal_of (k + length (new_gates signal_of a)) bs j b e

module _ {Name : Type 0} (m : Model Name) (signal_of : Name → Signal) (ok : Looks m signal_of) (closed : Closed m)
    (good : (b : Block Name) → Memᴰ b m.blocks → GoodBlock b) where
  -- the flip-flop built for a latch holds what the latch holds
  abbrev pub Holds : (Name → Bool) → (ℕ → Bool) → Type 0
  Holds held_b held_n = (j : ℕ) (l : LatchDef Name) → get_elem? m.blocks j ≡ some (Latch l) → held_n j ≡ held_b l.output

  held_same : (held_b : Name → Bool) (held_n : ℕ → Bool) → Holds held_b held_n → (env : Name → Bool) (j : ℕ) (b : Block Name) → get_elem? m.blocks j ≡ some b
      → block_bit env (held_b (target b)) b ≡ block_bit env (held_n j) b
  held_same held_b held_n h env j (Latch l) e = sym (h j l e)
  held_same held_b held_n h env j (Cover xs y ls) e = refl

  module _ (held_b next_b : Name → Bool) (held_n : ℕ → Bool) (row out : List Bool) (h : Holds held_b held_n) (c : BlifClock m held_b row out next_b) where
    abbrev env : Name → Bool
    env = c.env

    abbrev main : List Bool
    main = main_bits signal_of row env held_n m.blocks

    abbrev extra : List Bool
    extra = extra_bits signal_of row env held_n m.blocks

    abbrev β : ℕ → Bool
    β g = get_or (main ++ extra) g false

    abbrev net : Net
    net = build signal_of m

    main-length : length main ≡ length m.blocks
    main-length = length-map m.blocks (λ (b : Block Name). env (target b))

    block-value : (j : ℕ) (b : Block Name) → get_elem? m.blocks j ≡ some b → β j ≡ env (target b)
    block-value j b e = place-front false main extra j (env (target b)) (map-place (λ (x : Block Name). env (target x)) m.blocks j b e)

    known-name : (x : Name) → Defined m x → sig_bit row β (signal_of x) ≡ env x
    known-name x (inl (i, e)) = ap (sig_bit row β) (ok.input_at i x e) ∙ sym (c.fits.ins i x e)
    known-name x (inr (j, b, e, t)) =
        ap (λ (y : Name). sig_bit row β (signal_of y)) (sym t) ∙ ap (sig_bit row β) (ok.block_at j b e) ∙ block-value j b e ∙ ap env t

    okays : Each (Okay signal_of row env held_n β) 0 m.blocks
    okays = each_of (Okay signal_of row env held_n β) 0 m.blocks (λ i b e.
        let mem : Memᴰ b m.blocks = place-mem m.blocks i b e in
        record {
          known = λ x w. known-name x (closed.sources_defined b x mem w);
          good = good b mem;
          fit = c.fits.blocks b mem ∙ held_same held_b held_n h env i b e ∙ ap (λ (n : ℕ). block_bit env (held_n n) b) (sym (zero-add i));
        })

    extra-seg : Seg β (length m.blocks) extra
    extra-seg = seg-of false β (length m.blocks) extra (λ i. ap (λ (n : ℕ). β (n + i)) (sym main-length) ∙ get_or-append-add main extra i false)

    all-match : Match (sig_bit row β) held_n 0 net.gates (main ++ extra)
    all-match =
        match-append (sig_bit row β) held_n 0 (block_gates signal_of (length m.blocks) m.blocks) main (all_new_gates signal_of m.blocks) extra
        (block_gates-match signal_of row env held_n β (length m.blocks) 0 m.blocks okays extra-seg)
        (new_gates-match signal_of row env held_n β (0 + length (block_gates signal_of (length m.blocks) m.blocks)) 0 m.blocks okays)

    read_fits : Fits net row held_n β
    read_fits g x e = match-at (sig_bit row β) held_n 0 net.gates (main ++ extra) all-match g x e ∙ ap (λ (n : ℕ). gate_bit (sig_bit row β) (held_n n) x) (zero-add g)

    next : ℕ → Bool
    next = next_of net (sig_bit row β) held_n

    opt-known : (o : Option Name) (s : Signal) (v : Bool) → sig_bit row β s ≡ v → ((x : Name) → Memᴰ x (opt_name o) → Defined m x) → sig_bit row β (optional signal_of s o) ≡ optional env v o
    opt-known none s v e h = e
    opt-known (some x) s v e h = known-name x (h x (mathlib.Core.List.Memᴰ.head refl))

    next-holds : Holds next_b next
    unfolding next
    next-holds j l e =
        let b : Block Name = Latch l in
        let p : (k : ℕ) × (get_elem? (block_gates signal_of (length m.blocks) m.blocks) j ≡ some (block_gate signal_of k b)) = block_gates-place signal_of (length m.blocks) m.blocks j b e in
        let w : Memᴰ b m.blocks = place-mem m.blocks j b e in
        next_of-is net (sig_bit row β) held_n j (block_gate signal_of p.0 b) (place-left (block_gates signal_of (length m.blocks) m.blocks) (all_new_gates signal_of m.blocks) j (block_gate signal_of p.0 b) p.1)
        ∙ (λ i. cond (opt-known l.reset zero_s false refl (λ x v. closed.sources_defined b x w (mathlib.Core.List.Memᴰ.tail (mathlib.Core.List.Memᴰ.append_right (opt_name l.enable) v))) i) false
        (cond (opt-known l.enable one_s true refl (λ x v. closed.sources_defined b x w (mathlib.Core.List.Memᴰ.tail (mathlib.Core.List.Memᴰ.append_left (opt_name l.reset) v))) i) (known-name l.input (closed.sources_defined b l.input w (mathlib.Core.List.Memᴰ.head refl)) i) (h j l e i)))
        ∙ sym (c.steps l w)

    read-clock : (t : ℕ → Bool) × Clock net held_n row out t × Holds next_b t
    unfolding next
    read-clock = (
      next,
      record {
        bits = β;
        fits = read_fits;
        answers = c.answers ∙ sym (map-map (sig_bit row β) signal_of m.outputs ∙ map_on (λ (x : Name). sig_bit row β (signal_of x)) env m.outputs (λ x w. known-name x (closed.outputs_defined x w)));
        steps = λ g x e. next_of-is net (sig_bit row β) held_n g x e;
      },
      next-holds,
    )

  -- every clock of the model is one of the network built for it
  pub read-simulates : Simulates Holds (BlifClock m) (Clock (build signal_of m))
  read-simulates held_b next_b held_n row out h c = read-clock held_b next_b held_n row out h c
