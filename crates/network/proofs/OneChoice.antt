-- Without a loop just one choice of bits fits a clock, and a run has just one list of outputs: `settle` and `run`. Assumes nothing.
use mathlib.Core.Path.{◌≡◌, refl, sym, ap, ap₂, ◌∙◌, subst}
use mathlib.Core.List.Memᴰ
use mathlib.Core.List.{List, [], ◌∷◌, Memᴰ}
use mathlib.Core.Bool.{Bool, false}
use mathlib.Core.Option.{Option, none, some}
use mathlib.Core.Logic.{⊎_elim}
use Prim.Native.Nat.{ℕ, zero, suc, ◌≤◌, ◌<◌}
use native.Mathlib.Omega.{arith}
use native.Mathlib.Decide.{ℕ_discrete}
use lib.ListN.{length, get_elem?}
use Rattle.lists.specs.Lists.{Dup, here, there, optional}
use Rattle.signal.specs.Signal.{Node, Const, Input, Var, Signal, invert_if}
use Rattle.gates.specs.Gate.{Form, Gate, Comb, Dff, pins, form_bit}
use Rattle.network.specs.Net.{Net, GateIs, ValidNode, Valid, Feeds, Path, last, more, Loop}
use Rattle.network.specs.Clock.{Fits, Clock, node_bit, sig_bit, gate_bit, next_bit, Runs, done, tick}
use Rattle.network.specs.Settle.{round, settle, next_of, run_from}
use Rattle.lists.proofs.Places.{place-lt, lt-place, map_on}
use Rattle.lists.proofs.Twice.{Below, pigeons}
use Rattle.network.proofs.Runs.{next_of-is, runs-nil, runs-cons}
use Rattle.network.proofs.Depth.{deepest, depth_of, depth, deepest-ge, depth_le, deepest-at, depth-rest}

-- ---- ranks

-- the number rises from each gate input to a combinational gate
abbrev pub RisesBy : Net → (ℕ → ℕ) → Type 0
RisesBy net rank = (g h : ℕ) (f : Form) (ps : List Signal) (s : Signal) → GateIs net g (Comb f ps) → Memᴰ s ps → s.node ≡ Var h → rank h < rank g

-- such a number for each gate, none above the number of gates
pub record Ranked (net : Net) : Type 0 where
  pub rank : ℕ → ℕ
  pub rises : RisesBy net rank
  pub most : (g : ℕ) → rank g ≤ length net.gates

-- ---- chains

abbrev CombAt : Net → ℕ → Type 0
CombAt net g = (f : Form) × (ps : List Signal) × GateIs net g (Comb f ps)

-- gates in a row, each fed by the one after it
abbrev Chain : Net → List ℕ → Type 0
Chain net [] = Unit {0}
Chain net (g ∷ []) = CombAt net g
Chain net (g ∷ h ∷ l) = Feeds net h g × Chain net (h ∷ l)

pub path-snoc : {net : Net} {a b c : ℕ} → Path net a b → Feeds net b c → Path net a c
path-snoc (last f) g = more f (last g)
path-snoc (more f w) g = more f (path-snoc w g)

chain-path : (net : Net) (x : ℕ) (l : List ℕ) (y : ℕ) → Chain net (x ∷ l) → Memᴰ y l → Path net y x
chain-path net x [] y c m = absurd (Memᴰ.not-nil m)
chain-path net x (h ∷ l) y c m =
    ⊎_elim (λ (e : y ≡ h). subst (λ (z : ℕ). Path net z x) (sym e) (last c.0))
    (λ (w : Memᴰ y l). path-snoc (chain-path net h l y c.1 w) c.0) (Memᴰ.cases_cons m)

chain-tail : (net : Net) (x : ℕ) (l : List ℕ) → Chain net (x ∷ l) → Chain net l
chain-tail net x [] c = tt
chain-tail net x (y ∷ l) c = c.1

chain-loop : (net : Net) (l : List ℕ) → Chain net l → Dup l → Loop net
chain-loop net _ c (here {x = x} {l = l} m) = (x, chain-path net x l x c m)
chain-loop net _ c (there {x = x} {l = l} d) = chain-loop net l (chain-tail net x l c) d

chain_head : (net : Net) (x : ℕ) (l : List ℕ) → Chain net (x ∷ l) → CombAt net x
chain_head net x [] c = c
chain_head net x (y ∷ l) c = (c.0.form_b, c.0.pins_b, c.0.is_b)

comb-lt : (net : Net) (g : ℕ) → CombAt net g → g < length net.gates
comb-lt net g c = place-lt net.gates g (Comb c.0 c.1) c.2

chain-below : (net : Net) (l : List ℕ) → Chain net l → Below (length net.gates) l
chain-below net [] c x m = absurd (Memᴰ.not-nil m)
chain-below net (y ∷ l) c x m =
    ⊎_elim (λ (e : x ≡ y). comb-lt net x (subst (CombAt net) (sym e) (chain_head net y l c)))
    (λ (w : Memᴰ x l). chain-below net l (chain-tail net y l c) x w) (Memᴰ.cases_cons m)

-- ---- a gate of full depth ends a chain

full-chain : (net : Net) (k g : ℕ) → depth net (suc k) g ≡ suc k → (l : List ℕ) × Chain net (g ∷ l) × (length l ≡ k)
unfolding depth
full-chain net zero g e = go (get_elem? net.gates g) refl e
  where
    go : (o : Option Gate) → get_elem? net.gates g ≡ o → depth_of (depth net 0) o ≡ 1 → (l : List ℕ) × Chain net (g ∷ l) × (length l ≡ 0)
    go none p q = absurd (omega arith)
    go (some (Comb f ps)) p q = ([], (f, ps, p), refl)
    go (some (Dff s)) p q = absurd (omega arith)
full-chain net (suc k) g e = go (get_elem? net.gates g) refl e (full-chain net k)
  where
    go : (o : Option Gate) → get_elem? net.gates g ≡ o → depth_of (depth net (suc k)) o ≡ suc (suc k)
        → ((h : ℕ) → depth net (suc k) h ≡ suc k → (l : List ℕ) × Chain net (h ∷ l) × (length l ≡ k)) → (l : List ℕ) × Chain net (g ∷ l) × (length l ≡ suc k)
    go none p q ih = absurd (omega arith)
    go (some (Comb f ps)) p q ih =
        let d : deepest (depth net (suc k)) ps ≡ suc k = omega arith in
        let r : (s : Signal) × (h : ℕ) × Memᴰ s ps × (s.node ≡ Var h) × (depth net (suc k) h ≡ suc k) = deepest-at (depth net (suc k)) ps k d in
        let i : (l : List ℕ) × Chain net (r.1 ∷ l) × (length l ≡ k) = ih r.1 r.4 in
        let c : CombAt net r.1 = chain_head net r.1 i.0 i.1 in (
          r.1 ∷ i.0,
          (record { form_a = c.0; pins_a = c.1; is_a = c.2; form_b = f; pins_b = ps; is_b = p; by = r.0; among = r.2; points = r.3 }, i.1),
          ap suc i.2,
        )
    go (some (Dff s)) p q ih = absurd (omega arith)

-- a network without a loop has ranks
pub ranked : (net : Net) → (Loop net → ⊥) → Ranked net
unfolding depth
ranked net free =
    let n : ℕ = length net.gates in
    let under : (g : ℕ) → depth net (suc n) g < suc n = λ g. go g (ℕ_discrete (depth net (suc n) g) (suc n)) in
    record {
      rank = depth net (suc n);
      rises = λ g h f ps s p m q.
          let e : depth net (suc (suc n)) g ≡ suc (deepest (depth net (suc n)) ps) = ap (depth_of (depth net (suc n))) p in
          let r : depth net (suc (suc n)) g ≡ depth net (suc n) g = depth-rest net (suc n) g (under g) in
          let w : depth net (suc n) h ≤ deepest (depth net (suc n)) ps = deepest-ge (depth net (suc n)) ps s h m q in
          omega arith;
      most = λ g. let u : depth net (suc n) g < suc n = under g in omega arith;
    }
  where
    go : (g : ℕ) → Dec (depth net (suc (length net.gates)) g ≡ suc (length net.gates)) → depth net (suc (length net.gates)) g < suc (length net.gates)
    go g (yes e) =
        let c : (l : List ℕ) × Chain net (g ∷ l) × (length l ≡ length net.gates) = full-chain net (length net.gates) g e in
        absurd (free (chain-loop net (g ∷ c.0) c.1 (pigeons (length net.gates) (g ∷ c.0) (chain-below net (g ∷ c.0) c.1) (let z : length c.0 ≡ length net.gates = c.2 in omega arith))))
    go g (no e) = let u : depth net (suc (length net.gates)) g ≤ suc (length net.gates) = depth_le net (suc (length net.gates)) g in omega arith

-- ---- the one choice

-- bits that agree on the gate that a signal points at give it the same bit
pub sig-agrees : (row : List Bool) (b c : ℕ → Bool) (s : Signal) → ((g : ℕ) → s.node ≡ Var g → b g ≡ c g) → sig_bit row b s ≡ sig_bit row c s
sig-agrees row b c s same = ap (invert_if s.inv) (node s.node same)
  where
    node : (n : Node) → ((g : ℕ) → n ≡ Var g → b g ≡ c g) → node_bit row b n ≡ node_bit row c n
    node Const h = refl
    node (Input i) h = refl
    node (Var g) h = h g refl

-- so do bits that agree on a combinational gate's inputs
pub gate-agrees : (row : List Bool) (b c : ℕ → Bool) (v : Bool) (x : Gate)
    → ((f : Form) (s : Signal) (h : ℕ) → x ≡ Comb f (pins x) → Memᴰ s (pins x) → s.node ≡ Var h → b h ≡ c h)
    → gate_bit (sig_bit row b) v x ≡ gate_bit (sig_bit row c) v x
gate-agrees row b c v (Dff s) same = refl
gate-agrees row b c v (Comb f ps) same =
    ap (form_bit f) (map_on (sig_bit row b) (sig_bit row c) ps (λ s m. sig-agrees row b c s (λ h e. same f s h refl m e)))

settles : (net : Net) (rk : Ranked net) (row : List Bool) (held : ℕ → Bool) (k g : ℕ) → rk.rank g < k → round net row held (suc k) g ≡ round net row held k g
settles net rk row held zero g u = absurd (omega arith)
settles net rk row held (suc k) g u = go (get_elem? net.gates g) refl (settles net rk row held k)
  where
    go : (o : Option Gate) → get_elem? net.gates g ≡ o → ((h : ℕ) → rk.rank h < k → round net row held (suc k) h ≡ round net row held k h)
        → optional (gate_bit (sig_bit row (round net row held (suc k))) (held g)) false o ≡ optional (gate_bit (sig_bit row (round net row held k)) (held g)) false o
    go none p ih = refl
    go (some x) p ih =
        gate-agrees row (round net row held (suc k)) (round net row held k) (held g) x (λ f s h e m q.
        let l : rk.rank h < rk.rank g = rk.rises g h f (pins x) s (p ∙ ap some e) m q in ih h (omega arith))

pub settle-fits : (net : Net) → Ranked net → (row : List Bool) (held : ℕ → Bool) → Fits net row held (settle net row held)
settle-fits net rk row held g x p =
    sym (settles net rk row held (suc (length net.gates)) g (let u : rk.rank g ≤ length net.gates = rk.most g in omega arith))
    ∙ ap (optional (gate_bit (sig_bit row (settle net row held)) (held g)) false) p

-- equal on the network's gates
abbrev pub Same : Net → (ℕ → Bool) → (ℕ → Bool) → Type 0
Same net b c = (g : ℕ) → g < length net.gates → b g ≡ c g

module _ (net : Net) (valid : Valid net) (rk : Ranked net) where
  same-below : (row : List Bool) (held held' b c : ℕ → Bool) → Same net held held' → Fits net row held b → Fits net row held' c
      → (k g : ℕ) → g < length net.gates → rk.rank g < k → b g ≡ c g
  same-below row held held' b c hs fb fc zero g l u = absurd (omega arith)
  same-below row held held' b c hs fb fc (suc k) g l u =
      let x : (y : Gate) × (get_elem? net.gates g ≡ some y) = lt-place net.gates g l in
      let ih : (h : ℕ) → h < length net.gates → rk.rank h < k → b h ≡ c h = λ h. same-below row held held' b c hs fb fc k h in
      fb g x.0 x.1
      ∙ gate-agrees row b c (held g) x.0 (λ f s h e m q.
      let v : rk.rank h < rk.rank g = rk.rises g h f (pins x.0) s (x.1 ∙ ap some e) m q in
      ih h (subst (ValidNode net) q (valid.pins_valid g x.0 s x.1 m)) (omega arith))
      ∙ ap (λ (v : Bool). gate_bit (sig_bit row c) v x.0) (hs g l) ∙ sym (fc g x.0 x.1)

  -- just one choice fits
  pub fits-unique : (row : List Bool) (held held' b c : ℕ → Bool) → Same net held held' → Fits net row held b → Fits net row held' c → Same net b c
  fits-unique row held held' b c hs fb fc g l = same-below row held held' b c hs fb fc (suc (rk.rank g)) g l (omega arith)

  valid-agrees : (row : List Bool) (b c : ℕ → Bool) → Same net b c → (s : Signal) → ValidNode net s.node → sig_bit row b s ≡ sig_bit row c s
  valid-agrees row b c h s v = sig-agrees row b c s (λ g e. h g (subst (ValidNode net) e v))

  next-agrees : (σ τ : Signal → Bool) (u v : Bool) (x : Gate) → ((s : Signal) → Memᴰ s (pins x) → σ s ≡ τ s) → u ≡ v → next_bit σ u x ≡ next_bit τ v x
  next-agrees σ τ u v (Comb f ps) h e = e
  next-agrees σ τ u v (Dff s) h e =
      cc (
        h s.data_in (Memᴰ.head refl),
        h s.enable (Memᴰ.tail (Memᴰ.head refl)),
        h s.reset (Memᴰ.tail (Memᴰ.tail (Memᴰ.head refl))),
      )

  clock-unique : (held held' next next' : ℕ → Bool) (row out out' : List Bool) → Same net held held' → Clock net held row out next → Clock net held' row out' next'
      → (out ≡ out') × Same net next next'
  clock-unique held held' next next' row out out' hs c d =
      let bs : Same net c.bits d.bits = fits-unique row held held' c.bits d.bits hs c.fits d.fits in (
        c.answers ∙ map_on (sig_bit row c.bits) (sig_bit row d.bits) net.outputs (λ s m. valid-agrees row c.bits d.bits bs s (valid.outs_valid s m)) ∙ sym d.answers,
        λ g l.
            let x : (y : Gate) × (get_elem? net.gates g ≡ some y) = lt-place net.gates g l in
            c.steps g x.0 x.1
            ∙ next-agrees (sig_bit row c.bits) (sig_bit row d.bits) (held g) (held' g) x.0
            (λ s m. valid-agrees row c.bits d.bits bs s (valid.pins_valid g x.0 s x.1 m)) (hs g l)
            ∙ sym (d.steps g x.0 x.1),
      )

  -- a run has just one list of outputs
  pub runs-unique : (held held' : ℕ → Bool) (rows outs outs' : List (List Bool)) → Same net held held' → Runs (Clock net) held rows outs → Runs (Clock net) held' rows outs' → outs ≡ outs'
  runs-unique held held' _ _ outs' hs done q = runs-nil q
  runs-unique held held' _ _ outs' hs (tick {t = t} {row = row} {out = out} {rows = rows} {outs = outs} c r) q =
      let x = runs-cons q in
      let u : (out ≡ x.1) × Same net t x.0 = clock-unique held held' t x.0 row out x.1 hs c x.3 in
      ap₂ (λ (o : List Bool) (os : List (List Bool)). o ∷ os) u.0 (runs-unique t x.0 rows outs x.2 u.1 r x.4) ∙ x.5

  pub run_is : (rows : List (List Bool)) (held : ℕ → Bool) → Runs (Clock net) held rows (run_from net held rows)
  run_is [] held = done
  run_is (row ∷ rows) held =
      tick (record { bits = settle net row held; fits = settle-fits net rk row held; answers = refl; steps = λ g x e. next_of-is net (sig_bit row (settle net row held)) held g x e })
      (run_is rows (next_of net (sig_bit row (settle net row held)) held))

-- ---- ranks rule out a loop

module _ (net : Net) (height : ℕ → ℕ) (r : RisesBy net height) where
  feeds-rises : (a b : ℕ) → Feeds net a b → height a < height b
  feeds-rises a b f = r b a f.form_b f.pins_b f.by f.is_b f.among f.points

  path-rises : {a b : ℕ} → Path net a b → height a < height b
  path-rises {a} {b} (last f) = feeds-rises a b f
  path-rises {a} {b = c} (more {b = b} f w) = omega (arith, feeds-rises a b f, path-rises w)

  pub rises-free : Loop net → ⊥
  rises-free l = omega (arith, path-rises l.1)
