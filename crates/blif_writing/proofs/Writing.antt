-- Every clock of a network is one of the model written for it. Assumes nothing.
use mathlib.Core.Path.{◌≡◌, refl, sym, ap, ap₂, ◌∙◌, subst}
use mathlib.Core.List.{List, [], ◌∷◌, map, Memᴰ}
use mathlib.Core.Bool.{Bool, true, false, not, ◌&&◌, ◌||◌, cond, or-false, and-true}
use mathlib.Core.Option.{none, some}
use Prim.Native.Nat.{ℕ}
use native.Mathlib.Omega.{arith}
use native.Mathlib.Nat.{zero-add}
use lib.ListN.{length, get_or, get_elem?, length-map}
use borrow.Author.Tests.{eqb-true}
use Rattle.signal.specs.Signal.{Node, Const, Input, Var, Signal, invert_if, plain, invert, one_s, zero_s, const_node}
use Rattle.gates.specs.Gate.{Form, Buf, FlipFlop, Comb, Dff, start_bit, form_bit}
use Rattle.gates.specs.Forms.{can_have}
use Rattle.network.specs.Net.{Net, GateIs, Valid, Formed, Loop}
use Rattle.network.specs.Clock.{Clock, node_bit, sig_bit, Runs, start_bits}
use Rattle.network.specs.Settle.{run, run_from}
use Rattle.blif_meaning.specs.Model.{LatchDef, Block, Latch, target, next_held, cube_bit, cover_bit, Holds, block_bit, BlifClock, BlifRuns}
use Rattle.blif_writing.specs.WrittenModel.{is_const, init_from, unless, col_of, lines_of, bare, gate_name, buf_block, form_block, comb_block, inverter_block, written}
use Rattle.lists.specs.Lists.{range, optional}
use Rattle.lists.proofs.Places.{map_on, map-map, map_at}
use Rattle.blif_writing.proofs.Blocks.{range_at, comb-cases, Source, of_dff, of_comb, of_inverter, of_one, of_zero, source, latch-source}
use Rattle.blif_writing.proofs.FormLines.{lines-mean}
use Rattle.network.proofs.SignalBits.{invert-bit}
use Rattle.network.proofs.Runs.{Simulates, runs-along}
use Rattle.network.proofs.OneChoice.{ranked, run_is}

-- the initial state written for a start value holds it
start-bit : (b : Bool) → Holds (init_from b) b
start-bit false = refl
start-bit true = refl

module _ {Name : Type 0} (name : Signal → Name) where
  module _ (unname : Name → Signal) (back : (s : Signal) → unname (name s) ≡ s) (row : List Bool) (bits : ℕ → Bool) where
    abbrev σ : Signal → Bool
    σ = sig_bit row bits

    -- a name's value is its signal's
    abbrev pub env_of : Name → Bool
    env_of y = σ (unname y)

    env-name : (s : Signal) → env_of (name s) ≡ σ s
    env-name s = ap σ (back s)

    env-names : (ss : List Signal) → map env_of (map name ss) ≡ map σ ss
    env-names ss = map-map env_of name ss ∙ map_on (λ (s : Signal). env_of (name s)) σ ss (λ s m. env-name s)

    form-bit : (h : Bool) (g : ℕ) (f : Form) (ps : List Signal) → can_have f (length ps) ≡ true → bits g ≡ form_bit f (map σ ps) → env_of (gate_name name g) ≡ block_bit env_of h (form_block name g f ps)
    form-bit h g f ps a e =
        env-name (plain (Var g)) ∙ e
        ∙ sym (lines-mean f (map σ ps) (ap (can_have f) (length-map ps σ) ∙ a))
        ∙ ap₂ (λ (n : ℕ) (bs : List Bool). cover_bit (lines_of f n) bs) (length-map ps σ) (sym (env-names ps))

    literal : (i b : Bool) → invert_if i b ≡ (cube_bit (col_of (not i) ∷ []) (b ∷ []) || false)
    literal false false = refl
    literal false true = refl
    literal true false = refl
    literal true true = refl

    buf-bit : (h : Bool) (g : ℕ) (ps : List Signal) → length ps ≡ 1 → bits g ≡ form_bit Buf (map σ ps) → env_of (gate_name name g) ≡ block_bit env_of h (buf_block name g ps)
    buf-bit h g [] a e = absurd (omega arith)
    buf-bit h g (s ∷ []) a e =
        env-name (plain (Var g)) ∙ e ∙ literal s.inv (node_bit row bits s.node)
        ∙ ap (λ (b : Bool). cube_bit (col_of (not s.inv) ∷ []) (b ∷ []) || false) (sym (env-name (bare s)))
    buf-bit h g (s ∷ t ∷ ps) a e = absurd (omega arith)

    comb-bit : (h : Bool) (g : ℕ) (f : Form) (ps : List Signal) → can_have f (length ps) ≡ true → bits g ≡ form_bit f (map σ ps)
        → env_of (target (comb_block name g f ps)) ≡ block_bit env_of h (comb_block name g f ps)
    comb-bit h g =
        comb-cases name (λ f ps b. can_have f (length ps) ≡ true → bits g ≡ form_bit f (map σ ps) → env_of (target b) ≡ block_bit env_of h b) g
        (λ ps a e. buf-bit h g ps (eqb-true (length ps) 1 a) e) (λ f ps n a e. form-bit h g f ps a e)

    inverter-bit : (h : Bool) (n : Node) → env_of (target (inverter_block name n)) ≡ block_bit env_of h (inverter_block name n)
    inverter-bit h n =
        env-name (invert (plain n)) ∙ invert-bit row bits (plain n)
        ∙ sym (or-false (not (env_of (name (plain n))) && true) ∙ and-true (not (env_of (name (plain n)))) ∙ ap not (env-name (plain n)))

  module _ (net : Net) where
    module _ (formed : Formed net) (unname : Name → Signal) (back : (s : Signal) → unname (name s) ≡ s) where
      -- a latch written holds what its flip-flop holds
      abbrev pub HoldsName : (ℕ → Bool) → (Name → Bool) → Type 0
      HoldsName held_n held_b = (g : ℕ) (s : FlipFlop) → GateIs net g (Dff s) → held_b (gate_name name g) ≡ held_n g

      -- bits by the names of the gates
      by_name : (ℕ → Bool) → Name → Bool
      by_name f y = node_bit [] f (unname y).node

      by-gate : (f : ℕ → Bool) (g : ℕ) → by_name f (gate_name name g) ≡ f g
      unfolding by_name
      by-gate f g = ap (λ (s : Signal). node_bit [] f s.node) (back (plain (Var g)))

      module _ (held_n next_n : ℕ → Bool) (held_b : Name → Bool) (row out : List Bool) (h : HoldsName held_n held_b) (c : Clock net held_n row out next_n) where
        abbrev ε : Name → Bool
        ε = env_of unname back row c.bits

        abbrev FitsBlock : Block Name → Type 0
        FitsBlock b = ε (target b) ≡ block_bit ε (held_b (target b)) b

        block-fits : (b : Block Name) → Source name net b → FitsBlock b
        block-fits b (of_dff g s p q) =
            subst FitsBlock (sym q) (env-name unname back row c.bits (plain (Var g)) ∙ c.fits g (Dff s) p ∙ sym (h g s p))
        block-fits b (of_comb g f ps p q) =
            subst FitsBlock (sym q) (comb-bit unname back row c.bits (held_b (target (comb_block name g f ps))) g f ps (formed g (Comb f ps) p) (c.fits g (Comb f ps) p))
        block-fits b (of_inverter n m q) = subst FitsBlock (sym q) (inverter-bit unname back row c.bits (held_b (target (inverter_block name n))) n)
        block-fits b (of_one q) = subst FitsBlock (sym q) (env-name unname back row c.bits one_s)
        block-fits b (of_zero q) = subst FitsBlock (sym q) (env-name unname back row c.bits zero_s)

        ins-fit : (i : ℕ) (x : Name) → get_elem? (written name net).inputs i ≡ some x → ε x ≡ get_or row i false
        ins-fit i x e =
            let t : (j : ℕ) × (get_elem? (range 0 net.inputs) i ≡ some j) × (name (plain (Input j)) ≡ x) = map_at (λ (j : ℕ). name (plain (Input j))) (range 0 net.inputs) i x e in
            let u : t.0 ≡ i = range_at 0 net.inputs i t.0 t.1 ∙ zero-add i in
            ap ε (sym t.2) ∙ env-name unname back row c.bits (plain (Input t.0)) ∙ ap (λ (j : ℕ). get_or row j false) u

        const-value : (v : Bool) (s : Signal) → is_const v s ≡ true → sig_bit row c.bits s ≡ v
        const-value v s p = go s.node refl s.inv refl v p
          where
            go : (n : Node) → s.node ≡ n → (i : Bool) → s.inv ≡ i → (u : Bool) → (const_node n && cond u i (not i)) ≡ true → sig_bit row c.bits s ≡ u
            go Const e true f true p = λ k. invert_if (f k) (node_bit row c.bits (e k))
            go Const e false f false p = λ k. invert_if (f k) (node_bit row c.bits (e k))
            go Const e true f false p = absurd (mathlib.Core.Bool.false≢true p)
            go Const e false f true p = absurd (mathlib.Core.Bool.false≢true p)
            go (Input j) e i f u p = absurd (mathlib.Core.Bool.false≢true p)
            go (Var j) e i f u p = absurd (mathlib.Core.Bool.false≢true p)

        unless-bit : (v : Bool) (s : Signal) → optional ε v (unless name v s) ≡ sig_bit row c.bits s
        unless-bit v s = go (is_const v s) refl
          where
            go : (t : Bool) → is_const v s ≡ t → optional ε v (cond t none (some (name s))) ≡ sig_bit row c.bits s
            go true p = sym (const-value v s p)
            go false p = env-name unname back row c.bits s

        step_of : (l : LatchDef Name) → Memᴰ (Latch l) (written name net).blocks → by_name next_n l.output ≡ next_held ε (held_b l.output) l
        step_of l m =
            let t = latch-source name net l m in
            let s : FlipFlop = t.1 in
            rw t.3
            (by-gate next_n t.0 ∙ c.steps t.0 (Dff s) t.2
            ∙ sym (λ i. cond (unless-bit false s.reset i) false (cond (unless-bit true s.enable i) (env-name unname back row c.bits s.data_in i) (h t.0 s t.2 i))))

        write-clock : (t : Name → Bool) × BlifClock (written name net) held_b row out t × HoldsName next_n t
        write-clock = (
          by_name next_n,
          record {
            env = ε;
            fits = record { ins = ins-fit; blocks = λ b m. block-fits b (source name net b m) };
            answers = c.answers ∙ sym (env-names unname back row c.bits net.outputs);
            steps = step_of;
          },
          λ g s p. by-gate next_n g,
        )

      -- every clock of the network is one of the model written for it
      pub write-simulates : Simulates HoldsName (Clock net) (BlifClock (written name net))
      write-simulates held_n next_n held_b row out h c = write-clock held_n next_n held_b row out h c

      -- so from related bits the network's outputs are the model's
      written_from : Valid net → (Loop net → ⊥) → (held_n : ℕ → Bool) (held_b : Name → Bool) → HoldsName held_n held_b
          → (rows : List (List Bool)) → Runs (BlifClock (written name net)) held_b rows (run_from net held_n rows)
      written_from valid free held_n held_b h rows =
          runs-along HoldsName (Clock net) (BlifClock (written name net)) write-simulates held_n held_b rows (run_from net held_n rows) h
          (run_is net valid (ranked net free) rows held_n)

      start_of : (l : LatchDef Name) → Memᴰ (Latch l) (written name net).blocks → Holds l.init (by_name (start_bits net) l.output)
      start_of l m =
          let t = latch-source name net l m in
          rw t.3 (by-gate (start_bits net) t.0 ∙ ap (optional start_bit false) t.2 ∙ start-bit t.1.start)

      -- and those from the start values are the model's from its initial states
      pub written-runs : Valid net → (Loop net → ⊥) → (rows : List (List Bool)) → BlifRuns (written name net) rows (run net rows)
      written-runs valid free rows = record {
        held = by_name (start_bits net);
        starts = start_of;
        runs = written_from valid free (start_bits net) (by_name (start_bits net)) (λ g s p. by-gate (start_bits net) g) rows;
      }
