-- The model written for a network is well-formed. Assumes nothing.
use mathlib.Core.Path.{◌≡◌, refl, sym, ap, ◌∙◌, subst}
use mathlib.Core.List.Memᴰ
use mathlib.Core.List.{List, [], ◌∷◌, ◌++◌, map, Memᴰ}
use mathlib.Core.Bool.{Bool, true, false, not, ◌&&◌, ◌||◌, cond, or-true}
use mathlib.Core.Option.{none, some}
use mathlib.Core.Logic.{inl, inr, ⊎_elim}
use Prim.Native.Nat.{ℕ, zero, suc}
use native.Mathlib.Omega.{arith}
use native.Mathlib.Nat.{zero-add}
use lib.ListN.{length, get_elem?, length-map, length-replicate}
use borrow.Author.Tests.{eqb-true, eq-eqb}
use Rattle.lists.proofs.Range.{range-place}
use Rattle.gates.specs.Forms.{can_have}
use Rattle.signal.specs.Signal.{Node, Const, Input, Var, Signal, plain, invert, one_s, zero_s}
use Rattle.gates.specs.Gate.{Form, And2, Xor2, And3, Xor3, Maj3, Mux3, AndN, OrN, NandN, NorN, XorN, XnorN, Buf, Gate, Comb, Dff, pins, odd}
use Rattle.network.specs.Net.{Net, GateIs, Formed, Valid, ValidNode}
use Rattle.blif_meaning.specs.Model.{C0, C1, Block, Latch, Cover, Model, target}
use Rattle.blif_meaning.specs.WellFormed.{opt_name, sources, Defined, Closed, GoodLines, GoodBlock, WellFormed}
use Rattle.blif_writing.specs.WrittenModel.{is_const, unless, latch_of, cover_row, col_of, doubled, masks, minterms, even, lines_of, same_node, used_among, named, used_in, inverted, down_to, inverters, bare, gate_name, comb_block, latch_blocks, comb_blocks, inverter_block, const_blocks, written}
use Rattle.lists.specs.Lists.{range}
use Rattle.lists.proofs.Places.{place-mem, mem-place, lt-place, map-place}
use Rattle.blif_writing.proofs.Blocks.{range-mem, down_to-lt, down_to-mem, comb-cases, comb-target, latch-in, comb-in, Source, of_dff, of_comb, of_inverter, of_one, of_zero, source}
use Rattle.blif_writing.proofs.WrittenOnce.{written_once}
use Rattle.lists.proofs.Once.{filter-mem, mem-filter}

-- ---- lines

doubled-length : (n : ℕ) (vs : List (List Bool)) → ((v : List Bool) → Memᴰ v vs → length v ≡ n) → (v : List Bool) → Memᴰ v (doubled vs) → length v ≡ suc n
doubled-length n [] h v m = absurd (Memᴰ.not-nil m)
doubled-length n (u ∷ vs) h v m =
    let e : length u ≡ n = h u (Memᴰ.head refl) in
    ⊎_elim (λ (q : v ≡ false ∷ u). ap length q ∙ ap suc e)
    (λ (w : Memᴰ v ((true ∷ u) ∷ doubled vs)). ⊎_elim (λ (q : v ≡ true ∷ u). ap length q ∙ ap suc e)
    (λ (x : Memᴰ v (doubled vs)). doubled-length n vs (λ y z. h y (Memᴰ.tail z)) v x) (Memᴰ.cases_cons w)) (Memᴰ.cases_cons m)

masks-length : (n : ℕ) (v : List Bool) → Memᴰ v (masks n) → length v ≡ n
masks-length zero v m = ap length (Memᴰ.eq_of_singleton m)
masks-length (suc n) v m = doubled-length n (masks n) (masks-length n) v m

minterms-good : (n : ℕ) (f : List Bool → Bool) (vs : List (List Bool)) → ((v : List Bool) → Memᴰ v vs → length v ≡ n) → GoodLines n true (minterms f vs)
minterms-good n f [] h = tt
minterms-good n f (v ∷ vs) h = go (f v) (minterms-good n f vs (λ u m. h u (Memᴰ.tail m)))
  where
    go : (c : Bool) → GoodLines n true (minterms f vs) → GoodLines n true (cond c (cover_row true (map col_of v) ∷ minterms f vs) (minterms f vs))
    go false g = g
    go true g = (length-map v col_of ∙ h v (Memᴰ.head refl), refl, g)

-- as many columns as inputs, and one output
pub lines-good : (f : Form) (n : ℕ) → can_have f n ≡ true → (o : Bool) × GoodLines n o (lines_of f n)
lines-good And2 n e = let q : 2 ≡ n = sym (eqb-true n 2 e) in (true, (q, refl, tt))
lines-good Xor2 n e = let q : 2 ≡ n = sym (eqb-true n 2 e) in (true, (q, refl, (q, refl, tt)))
lines-good And3 n e = let q : 3 ≡ n = sym (eqb-true n 3 e) in (true, (q, refl, tt))
lines-good Xor3 n e = let q : 3 ≡ n = sym (eqb-true n 3 e) in (true, (q, refl, (q, refl, (q, refl, (q, refl, tt)))))
lines-good Maj3 n e = let q : 3 ≡ n = sym (eqb-true n 3 e) in (true, (q, refl, (q, refl, (q, refl, tt))))
lines-good Mux3 n e = let q : 3 ≡ n = sym (eqb-true n 3 e) in (true, (q, refl, (q, refl, tt)))
lines-good AndN n e = (true, (length-replicate n C1, refl, tt))
lines-good OrN n e = (false, (length-replicate n C0, refl, tt))
lines-good NandN n e = (false, (length-replicate n C1, refl, tt))
lines-good NorN n e = (true, (length-replicate n C0, refl, tt))
lines-good XorN n e = (true, minterms-good n odd (masks n) (masks-length n))
lines-good XnorN n e = (true, minterms-good n even (masks n) (masks-length n))
lines-good Buf n e = let q : 1 ≡ n = sym (eqb-true n 1 e) in (true, (q, refl, tt))

module _ {Name : Type 0} (name : Signal → Name) where
  module _ (net : Net) (formed : Formed net) where
    comb-good : (g : ℕ) (f : Form) (ps : List Signal) → can_have f (length ps) ≡ true → GoodBlock (comb_block name g f ps)
    comb-good g = comb-cases name (λ f ps b. can_have f (length ps) ≡ true → GoodBlock b) g
        (λ ps a. (true, (length-map ps (λ (s : Signal). col_of (not s.inv)) ∙ sym (length-map ps (λ (s : Signal). name (bare s))), refl, tt)))
        (λ f ps e a. let l : (o : Bool) × GoodLines (length ps) o (lines_of f (length ps)) = lines-good f (length ps) a in
        (l.0, subst (λ (n : ℕ). GoodLines n l.0 (lines_of f (length ps))) (sym (length-map ps name)) l.1))

    -- no refusal 12 or 13
    pub written-good : (b : Block Name) → Memᴰ b (written name net).blocks → GoodBlock b
    written-good b m = go (source name net b m)
      where
        go : Source name net b → GoodBlock b
        go (of_dff g s p q) = subst GoodBlock (sym q) tt
        go (of_comb g f ps p q) = subst GoodBlock (sym q) (comb-good g f ps (formed g (Comb f ps) p))
        go (of_inverter n w q) = subst GoodBlock (sym q) (true, (refl, refl, tt))
        go (of_one q) = subst GoodBlock (sym q) (true, (refl, refl, tt))
        go (of_zero q) = subst GoodBlock (sym q) (true, tt)

-- ---- every name used is defined

same-node : (n : Node) → same_node n n ≡ true
same-node Const = refl
same-node (Input i) = eq-eqb i i refl
same-node (Var i) = eq-eqb i i refl

or_left : (a b : Bool) → a ≡ true → (a || b) ≡ true
or_left a b e = ap (λ (x : Bool). x || b) e

or_right : (a b : Bool) → b ≡ true → (a || b) ≡ true
or_right a b e = ap (λ (x : Bool). a || x) e ∙ or-true a

used-among : (s : Signal) (ss : List Signal) → s.inv ≡ true → Memᴰ s ss → used_among s.node ss ≡ true
used-among s _ i (Memᴰ.head {x = t} {xs = ss} e) =
    or_left (t.inv && same_node t.node s.node) (used_among s.node ss)
    (ap (λ (u : Signal). u.inv && same_node u.node s.node) (sym e) ∙ ap (λ (b : Bool). b && same_node s.node s.node) i ∙ same-node s.node)
used-among s _ i (Memᴰ.tail {x = t} {xs = ss} m) = or_right (t.inv && same_node t.node s.node) (used_among s.node ss) (used-among s ss i m)

used-in : (s : Signal) (xs : List Gate) (g : ℕ) (x : Gate) → s.inv ≡ true → get_elem? xs g ≡ some x → Memᴰ s (named x) → used_in s.node xs ≡ true
used-in s [] g x i e m = absurd (let z : ◌≡◌ {A = ℕ} 0 1 = cc in omega arith)
used-in s (y ∷ xs) zero x i e m =
    or_left (used_among s.node (named y)) (used_in s.node xs) (let q : y ≡ x = cc in ap (λ (u : Gate). used_among s.node (named u)) q ∙ used-among s (named x) i m)
used-in s (y ∷ xs) (suc g) x i e m = or_right (used_among s.node (named y)) (used_in s.node xs) (used-in s xs g x i e m)

module _ {Name : Type 0} (name : Signal → Name) where
  module _ (net : Net) (valid : Valid net) where
    abbrev m : Model Name
    m = written name net

    abbrev ls : List (Block Name)
    ls = latch_blocks name 0 net.gates

    abbrev cs : List (Block Name)
    cs = comb_blocks name 0 net.gates

    abbrev is : List (Block Name)
    is = map (inverter_block name) (inverters net)

    block-defines : (b : Block Name) (x : Name) → target b ≡ x → Memᴰ b m.blocks → Defined m x
    block-defines b x e w = let t = mem-place m.blocks b w in inr (t.0, b, t.1, e)

    in-const : (b : Block Name) → Memᴰ b (const_blocks name) → Memᴰ b m.blocks
    in-const b w = Memᴰ.append_right ls (Memᴰ.append_right cs (Memᴰ.append_right is w))

    in-inverters : (b : Block Name) → Memᴰ b is → Memᴰ b m.blocks
    in-inverters b w = Memᴰ.append_right ls (Memᴰ.append_right cs (Memᴰ.append_left (const_blocks name) w))

    node-defined : (n : Node) → ValidNode net n → Defined m (name (plain n))
    node-defined Const v = block-defines (Cover [] (name zero_s) []) (name zero_s) refl (in-const (Cover [] (name zero_s) []) (Memᴰ.tail (Memᴰ.head refl)))
    node-defined (Input i) v = inl (i, map-place (λ (j : ℕ). name (plain (Input j))) (range 0 net.inputs) i i (range-place 0 net.inputs i v ∙ ap some (zero-add i)))
    node-defined (Var g) v = go (lt-place net.gates g v).0 (lt-place net.gates g v).1
      where
        go : (x : Gate) → GateIs net g x → Defined m (name (plain (Var g)))
        go (Comb f ps) p = block-defines (comb_block name g f ps) (gate_name name g) (comb-target name g f ps)
            (Memᴰ.append_right ls (Memᴰ.append_left (is ++ const_blocks name) (Memᴰ.cast (ap (λ (n : ℕ). comb_block name n f ps) (sym (zero-add g))) (comb-in name 0 net.gates g f ps p))))
        go (Dff s) p = block-defines (Latch (latch_of name g s)) (gate_name name g) refl
            (Memᴰ.append_left (cs ++ (is ++ const_blocks name)) (Memᴰ.cast (ap (λ (n : ℕ). Latch (latch_of name n s)) (sym (zero-add g))) (latch-in name 0 net.gates g s p)))

    node-listed : (n : Node) → ValidNode net n → (n ≡ Const → ⊥) → Memᴰ n (map Var (range 0 (length net.gates)) ++ map Input (down_to net.inputs))
    node-listed Const v h = absurd (h refl)
    node-listed (Input i) v h = Memᴰ.append_right (map Var (range 0 (length net.gates))) (Memᴰ.map Input (down_to-mem net.inputs i v))
    node-listed (Var g) v h = Memᴰ.append_left (map Input (down_to net.inputs))
        (Memᴰ.map Var (place-mem (range 0 (length net.gates)) g g (range-place 0 (length net.gates) g v ∙ ap some (zero-add g))))

    inverter-defined : (n : Node) → ValidNode net n → (n ≡ Const → ⊥) → inverted net n ≡ true → Defined m (name (invert (plain n)))
    inverter-defined n v h e =
        block-defines (inverter_block name n) (name (invert (plain n))) refl
        (in-inverters (inverter_block name n) (Memᴰ.map (inverter_block name) (filter-mem (inverted net) (map Var (range 0 (length net.gates)) ++ map Input (down_to net.inputs)) n (node-listed n v h) e)))

    signal-defined : (s : Signal) → ValidNode net s.node → (s.inv ≡ true → inverted net s.node ≡ true) → Defined m (name s)
    signal-defined s v u = go s.inv refl s.node refl
      where
        go : (i : Bool) → s.inv ≡ i → (n : Node) → s.node ≡ n → Defined m (name s)
        go false e n q = subst (λ (t : Signal). Defined m (name t)) (λ i. record { node = s.node; inv = sym e i }) (node-defined s.node v)
        go true e Const q = subst (λ (t : Signal). Defined m (name t)) (λ i. record { node = sym q i; inv = sym e i })
            (block-defines (Cover [] (name one_s) (cover_row true [] ∷ [])) (name one_s) refl (in-const (Cover [] (name one_s) (cover_row true [] ∷ [])) (Memᴰ.head refl)))
        go true e (Input k) q = subst (λ (t : Signal). Defined m (name t)) (λ i. record { node = s.node; inv = sym e i })
            (inverter-defined s.node v (λ w. let z : ◌≡◌ {A = ℕ} 0 1 = cc in omega arith) (u e))
        go true e (Var k) q = subst (λ (t : Signal). Defined m (name t)) (λ i. record { node = s.node; inv = sym e i })
            (inverter-defined s.node v (λ w. let z : ◌≡◌ {A = ℕ} 0 1 = cc in omega arith) (u e))

    pin-defined : (g : ℕ) (x : Gate) (s : Signal) → GateIs net g x → Memᴰ s (pins x) → Memᴰ s (named x) → Defined m (name s)
    pin-defined g x s p w k =
        signal-defined s (valid.pins_valid g x s p w) (λ e. or_right (used_among s.node net.outputs) (used_in s.node net.gates) (used-in s net.gates g x e p k))

    abbrev SourcesOk : Block Name → Type 0
    SourcesOk b = (x : Name) → Memᴰ x (sources b) → Defined m x

    comb-sources : (g : ℕ) (f : Form) (ps : List Signal) → GateIs net g (Comb f ps) → SourcesOk (comb_block name g f ps)
    comb-sources g = comb-cases name (λ f ps b. GateIs net g (Comb f ps) → SourcesOk b) g
        (λ ps p x w. let t = Memᴰ.of_map (λ (s : Signal). name (bare s)) ps w in
        subst (Defined m) t.2 (node-defined t.0.node (valid.pins_valid g (Comb Buf ps) t.0 p t.1)))
        (λ f ps e p x w. let t = Memᴰ.of_map name ps w in
        subst (Defined m) t.2 (pin-defined g (Comb f ps) t.0 p t.1 (subst (Memᴰ t.0) (sym e) t.1)))

    listed-valid : (n : Node) → Memᴰ n (map Var (range 0 (length net.gates)) ++ map Input (down_to net.inputs)) → ValidNode net n
    listed-valid n w = ⊎_elim gates inputs (Memᴰ.append_cases (map Var (range 0 (length net.gates))) w)
      where
        gates : Memᴰ n (map Var (range 0 (length net.gates))) → ValidNode net n
        gates v = let t = Memᴰ.of_map Var (range 0 (length net.gates)) v in subst (ValidNode net) t.2 (let z = range-mem 0 (length net.gates) t.0 t.1 in omega (arith, z.1, z.2))

        inputs : Memᴰ n (map Input (down_to net.inputs)) → ValidNode net n
        inputs v = let t = Memᴰ.of_map Input (down_to net.inputs) v in subst (ValidNode net) t.2 (down_to-lt net.inputs t.0 t.1)

    unless-defined : (v : Bool) (s : Signal) (x : Name) → Memᴰ x (opt_name (unless name v s)) → Defined m (name s) → Defined m x
    unless-defined v s x w d = go (is_const v s) w
      where
        go : (t : Bool) → Memᴰ x (opt_name (cond t none (some (name s)))) → Defined m x
        go true u = absurd (Memᴰ.not-nil u)
        go false u = subst (Defined m) (sym (Memᴰ.eq_of_singleton u)) d

    block-sources : (b : Block Name) → Source name net b → SourcesOk b
    block-sources b (of_dff g s p q) = subst SourcesOk (sym q)
        (λ x w. ⊎_elim (λ (z : x ≡ name s.data_in). subst (Defined m) (sym z) (pin-defined g (Dff s) s.data_in p (Memᴰ.head refl) (Memᴰ.head refl)))
        (λ v. ⊎_elim (λ u. unless-defined true s.enable x u (pin-defined g (Dff s) s.enable p (Memᴰ.tail (Memᴰ.head refl)) (Memᴰ.tail (Memᴰ.head refl))))
        (λ u. unless-defined false s.reset x u (pin-defined g (Dff s) s.reset p (Memᴰ.tail (Memᴰ.tail (Memᴰ.head refl))) (Memᴰ.tail (Memᴰ.tail (Memᴰ.head refl)))))
        (Memᴰ.append_cases (opt_name (unless name true s.enable)) v)) (Memᴰ.cases_cons w))
    block-sources b (of_comb g f ps p q) = subst SourcesOk (sym q) (comb-sources g f ps p)
    block-sources b (of_inverter n w q) = subst SourcesOk (sym q)
        (λ x v. subst (Defined m) (sym (Memᴰ.eq_of_singleton v)) (node-defined n (listed-valid n (mem-filter (inverted net) (map Var (range 0 (length net.gates)) ++ map Input (down_to net.inputs)) n w))))
    block-sources b (of_one q) = subst SourcesOk (sym q) (λ x v. absurd (Memᴰ.not-nil v))
    block-sources b (of_zero q) = subst SourcesOk (sym q) (λ x v. absurd (Memᴰ.not-nil v))

    -- no refusal 11
    pub written-closed : Closed m
    written-closed = record {
      outputs_defined = λ x w. let t = Memᴰ.of_map name net.outputs w in
          subst (Defined m) t.2 (signal-defined t.0 (valid.outs_valid t.0 t.1) (λ e. or_left (used_among t.0.node net.outputs) (used_in t.0.node net.gates) (used-among t.0 net.outputs e t.1)));
      sources_defined = λ b x w v. block-sources b (source name net b w) x v;
    }

-- each name is defined once where two signals never share one
pub written-formed : {Name : Type 0} (name : Signal → Name) (net : Net) → ((s t : Signal) → name s ≡ name t → s ≡ t) → Valid net → Formed net → WellFormed (written name net)
written-formed name net differ valid formed =
    record { once = written_once name net differ; closed = written-closed name net valid; good = written-good name net formed }
