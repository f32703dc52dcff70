-- No name is defined twice in the model written for a network. Assumes nothing.
use mathlib.Core.Path.{◌≡◌, refl, sym, ap, ap₂, ◌∙◌, subst}
use mathlib.Core.List.{List, [], ◌∷◌, ◌++◌, map, Memᴰ, map-append}
use mathlib.Core.Bool.{Bool, true, false, cond}
use mathlib.Core.Option.{some}
use mathlib.Core.Logic.{◌⊎◌, inl, inr, ⊎_elim}
use Prim.Native.Nat.{ℕ, zero, suc, ◌+◌, ◌<◌}
use native.Mathlib.Omega.{arith}
use lib.ListN.{length, get_elem?}
use Rattle.signal.specs.Signal.{Node, Const, Input, Var, Signal, plain, invert, one_s, zero_s}
use Rattle.gates.specs.Gate.{Gate, Comb, Dff, is_comb}
use Rattle.network.specs.Net.{Net}
use Rattle.blif_meaning.specs.Model.{target}
use Rattle.lists.specs.Lists.{range, Dup}
use Rattle.blif_writing.specs.WrittenModel.{down_to, inverted, inverters, gate_name, latch_blocks, comb_blocks, inverter_block, written}
use Rattle.blif_meaning.specs.WellFormed.{defined}
use Rattle.lists.proofs.Places.{map-map}
use Rattle.blif_writing.proofs.Blocks.{range-mem, down_to-lt, comb-target}
use Rattle.lists.proofs.Once.{once-nil, once-cons, once-append, once-map, once-filter, mem-filter}

abbrev is_dff : Gate → Bool
is_dff (Comb f ps) = false
is_dff (Dff s) = true

-- the numbers, from k on, of the gates that p takes
abbrev nums : (Gate → Bool) → ℕ → List Gate → List ℕ
nums p k [] = []
nums p k (x ∷ xs) = cond (p x) (k ∷ nums p (suc k) xs) (nums p (suc k) xs)

nums-mem : (p : Gate → Bool) (k : ℕ) (xs : List Gate) (g : ℕ) → Memᴰ g (nums p k xs) → (i : ℕ) × (x : Gate) × (g ≡ k + i) × (get_elem? xs i ≡ some x) × (p x ≡ true)
nums-mem p k [] g m = absurd (mathlib.Core.List.Memᴰ.not-nil m)
nums-mem p k (x ∷ xs) g m = go (p x) refl m (nums-mem p (suc k) xs g)
  where
    go : (b : Bool) → p x ≡ b → Memᴰ g (cond b (k ∷ nums p (suc k) xs) (nums p (suc k) xs))
        → (Memᴰ g (nums p (suc k) xs) → (i : ℕ) × (y : Gate) × (g ≡ suc k + i) × (get_elem? xs i ≡ some y) × (p y ≡ true))
        → (i : ℕ) × (y : Gate) × (g ≡ k + i) × (get_elem? (x ∷ xs) i ≡ some y) × (p y ≡ true)
    go true e w ih =
        ⊎_elim (λ (q : g ≡ k). (0, x, omega arith, refl, e))
        (λ (v : Memᴰ g (nums p (suc k) xs)). let t = ih v in (suc t.0, t.1, (let z : g ≡ suc k + t.0 = t.2 in omega arith), t.3, t.4)) (mathlib.Core.List.Memᴰ.cases_cons w)
    go false e w ih = let t = ih w in (suc t.0, t.1, (let z : g ≡ suc k + t.0 = t.2 in omega arith), t.3, t.4)

once-nums : (p : Gate → Bool) (k : ℕ) (xs : List Gate) → Dup (nums p k xs) → ⊥
once-nums p k [] = once-nil
once-nums p k (x ∷ xs) = go (p x) (once-nums p (suc k) xs)
  where
    go : (b : Bool) → (Dup (nums p (suc k) xs) → ⊥) → Dup (cond b (k ∷ nums p (suc k) xs) (nums p (suc k) xs)) → ⊥
    go true ih = once-cons (λ w. let t = nums-mem p (suc k) xs k w in let z : k ≡ suc k + t.0 = t.2 in omega arith) ih
    go false ih = ih

once-range : (k n : ℕ) → Dup (range k n) → ⊥
once-range k zero = once-nil
once-range k (suc n) = once-cons (λ w. omega (arith, (range-mem (suc k) n k w).2)) (once-range (suc k) n)

once-down_to : (n : ℕ) → Dup (down_to n) → ⊥
once-down_to zero = once-nil
once-down_to (suc n) = once-cons (λ w. let z : n < n = down_to-lt n n w in omega arith) (once-down_to n)

-- what kind of signal it is, as a number: telling two signals apart
abbrev kind : Signal → ℕ
kind s = node_kind s.node s.inv
  where
    node_kind : Node → Bool → ℕ
    node_kind Const i = 0
    node_kind (Input n) false = 1
    node_kind (Var n) false = 2
    node_kind (Input n) true = 3
    node_kind (Var n) true = 3

abbrev inp_s : ℕ → Signal
inp_s i = plain (Input i)

abbrev gate_s : ℕ → Signal
gate_s g = plain (Var g)

abbrev inv_s : Node → Signal
inv_s n = invert (plain n)

kind-of : {A : Type 0} (f : A → Signal) (k : ℕ) → ((a : A) → kind (f a) ≡ k) → (l : List A) (s : Signal) → Memᴰ s (map f l) → kind s ≡ k
kind-of f k h l s m = let t = mathlib.Core.List.Memᴰ.of_map f l m in ap kind (sym t.2) ∙ h t.0

module _ (net : Net) where
  abbrev nodes : List Node
  nodes = map Var (range 0 (length net.gates)) ++ map Input (down_to net.inputs)

  abbrev dff_s : List Signal
  dff_s = map gate_s (nums is_dff 0 net.gates)

  abbrev comb_s : List Signal
  comb_s = map gate_s (nums is_comb 0 net.gates)

  abbrev invs_s : List Signal
  invs_s = map inv_s (inverters net)

  abbrev const_s : List Signal
  const_s = one_s ∷ zero_s ∷ []

  -- what is defined, as signals
  abbrev defs : List Signal
  defs = map inp_s (range 0 net.inputs) ++ (dff_s ++ (comb_s ++ (invs_s ++ const_s)))

  listed-kind : (n : Node) → Memᴰ n nodes → kind (inv_s n) ≡ 3
  listed-kind n m = ⊎_elim (λ w. let t = mathlib.Core.List.Memᴰ.of_map Var (range 0 (length net.gates)) w in ap (λ (x : Node). kind (inv_s x)) (sym t.2))
      (λ w. let t = mathlib.Core.List.Memᴰ.of_map Input (down_to net.inputs) w in ap (λ (x : Node). kind (inv_s x)) (sym t.2)) (mathlib.Core.List.Memᴰ.append_cases (map Var (range 0 (length net.gates))) m)

  kind-inv : (s : Signal) → Memᴰ s invs_s → kind s ≡ 3
  kind-inv s m = let t = mathlib.Core.List.Memᴰ.of_map inv_s (inverters net) m in ap kind (sym t.2) ∙ listed-kind t.0 (mem-filter (inverted net) nodes t.0 t.1)

  kind-const : (s : Signal) → Memᴰ s const_s → kind s ≡ 0
  kind-const s m = ⊎_elim (λ (e : s ≡ one_s). ap kind e) (λ (w : Memᴰ s (zero_s ∷ [])). ap kind (mathlib.Core.List.Memᴰ.eq_of_singleton w)) (mathlib.Core.List.Memᴰ.cases_cons m)

  once-const : Dup const_s → ⊥
  once-const = once-cons (λ w. let e : one_s ≡ zero_s = mathlib.Core.List.Memᴰ.eq_of_singleton w in let b : true ≡ false = ap (λ (s : Signal). s.inv) e in mathlib.Core.Bool.true≢false b) (once-cons (λ w. mathlib.Core.List.Memᴰ.not-nil w) once-nil)

  once-nodes : Dup nodes → ⊥
  once-nodes = once-append (map Var (range 0 (length net.gates))) (map Input (down_to net.inputs))
      (once-map Var (λ x y e. cc) (range 0 (length net.gates)) (once-range 0 (length net.gates)))
      (once-map Input (λ x y e. cc) (down_to net.inputs) (once-down_to net.inputs))
      (λ n v w. let t = mathlib.Core.List.Memᴰ.of_map Var (range 0 (length net.gates)) v in let u = mathlib.Core.List.Memᴰ.of_map Input (down_to net.inputs) w in
      let z : Var t.0 ≡ Input u.0 = t.2 ∙ sym u.2 in let y : ◌≡◌ {A = ℕ} 0 1 = cc in omega arith)

  tails : (s : Signal) → Memᴰ s (invs_s ++ const_s) → (kind s ≡ 3) ⊎ (kind s ≡ 0)
  tails s m = ⊎_elim (λ w. inl (kind-inv s w)) (λ w. inr (kind-const s w)) (mathlib.Core.List.Memᴰ.append_cases invs_s m)

  node_of : (x y : ℕ) → gate_s x ≡ gate_s y → x ≡ y
  node_of x y e = let q : Var x ≡ Var y = ap (λ (s : Signal). s.node) e in cc

  comb-dff : (x : Gate) → is_dff x ≡ true → is_comb x ≡ true → ⊥
  comb-dff (Comb f ps) p q = mathlib.Core.Bool.false≢true p
  comb-dff (Dff s) p q = mathlib.Core.Bool.false≢true q

  apart-gates : (s : Signal) → Memᴰ s dff_s → Memᴰ s comb_s → ⊥
  apart-gates s v w =
      let t = mathlib.Core.List.Memᴰ.of_map gate_s (nums is_dff 0 net.gates) v in
      let u = mathlib.Core.List.Memᴰ.of_map gate_s (nums is_comb 0 net.gates) w in
      let a = nums-mem is_dff 0 net.gates t.0 t.1 in
      let b = nums-mem is_comb 0 net.gates u.0 u.1 in
      let e : t.0 ≡ u.0 = node_of t.0 u.0 (t.2 ∙ sym u.2) in
      let i : a.0 ≡ b.0 = (let p : t.0 ≡ 0 + a.0 = a.2 in let q : u.0 ≡ 0 + b.0 = b.2 in omega arith) in
      let x : some a.1 ≡ some b.1 = sym a.3 ∙ ap (get_elem? net.gates) i ∙ b.3 in
      let y : a.1 ≡ b.1 = cc in
      comb-dff b.1 (ap is_dff (sym y) ∙ a.4) b.4

  once-defs : Dup defs → ⊥
  once-defs =
      once-append (map inp_s (range 0 net.inputs)) (dff_s ++ (comb_s ++ (invs_s ++ const_s)))
      (once-map inp_s (λ x y e. let q : Input x ≡ Input y = ap (λ (s : Signal). s.node) e in cc) (range 0 net.inputs) (once-range 0 net.inputs))
      (once-append dff_s (comb_s ++ (invs_s ++ const_s))
      (once-map gate_s node_of (nums is_dff 0 net.gates) (once-nums is_dff 0 net.gates))
      (once-append comb_s (invs_s ++ const_s)
      (once-map gate_s node_of (nums is_comb 0 net.gates) (once-nums is_comb 0 net.gates))
      (once-append invs_s const_s
      (once-map inv_s (λ x y e. ap (λ (s : Signal). s.node) e) (inverters net) (once-filter (inverted net) nodes once-nodes)) once-const
      (λ s v w. let a : kind s ≡ 3 = kind-inv s v in let b : kind s ≡ 0 = kind-const s w in omega arith))
      (λ s v w. let a : kind s ≡ 2 = kind-of gate_s 2 (λ g. refl) (nums is_comb 0 net.gates) s v in ⊎_elim (λ (b : kind s ≡ 3). omega arith) (λ (b : kind s ≡ 0). omega arith) (tails s w)))
      (λ s v w. let a : kind s ≡ 2 = kind-of gate_s 2 (λ g. refl) (nums is_dff 0 net.gates) s v in
      ⊎_elim (λ u. apart-gates s v u) (λ u. ⊎_elim (λ (b : kind s ≡ 3). omega arith) (λ (b : kind s ≡ 0). omega arith) (tails s u)) (mathlib.Core.List.Memᴰ.append_cases comb_s w)))
      (λ s v w. let a : kind s ≡ 1 = kind-of inp_s 1 (λ g. refl) (range 0 net.inputs) s v in
      ⊎_elim (λ u. let b : kind s ≡ 2 = kind-of gate_s 2 (λ g. refl) (nums is_dff 0 net.gates) s u in omega arith)
      (λ u. ⊎_elim (λ c. let b : kind s ≡ 2 = kind-of gate_s 2 (λ g. refl) (nums is_comb 0 net.gates) s c in omega arith)
      (λ c. ⊎_elim (λ (b : kind s ≡ 3). omega arith) (λ (b : kind s ≡ 0). omega arith) (tails s c)) (mathlib.Core.List.Memᴰ.append_cases comb_s u)) (mathlib.Core.List.Memᴰ.append_cases dff_s w))

module _ {Name : Type 0} (name : Signal → Name) where
  latch-targets : (k : ℕ) (xs : List Gate) → map target (latch_blocks name k xs) ≡ map name (map gate_s (nums is_dff k xs))
  latch-targets k [] = refl
  latch-targets k (Comb f ps ∷ xs) = latch-targets (suc k) xs
  latch-targets k (Dff s ∷ xs) = ap (λ (l : List Name). gate_name name k ∷ l) (latch-targets (suc k) xs)

  comb-targets : (k : ℕ) (xs : List Gate) → map target (comb_blocks name k xs) ≡ map name (map gate_s (nums is_comb k xs))
  comb-targets k [] = refl
  comb-targets k (Dff s ∷ xs) = comb-targets (suc k) xs
  comb-targets k (Comb f ps ∷ xs) = ap₂ (λ (y : Name) (l : List Name). y ∷ l) (comb-target name k f ps) (comb-targets (suc k) xs)

  defined-is : (net : Net) → defined (written name net) ≡ map name (defs net)
  defined-is net =
      let a : map (λ (i : ℕ). name (plain (Input i))) (range 0 net.inputs) ≡ map name (map inp_s (range 0 net.inputs)) = sym (map-map name inp_s (range 0 net.inputs)) in
      let b : map target (map (inverter_block name) (inverters net)) ≡ map name (invs_s net) = map-map target (inverter_block name) (inverters net) ∙ sym (map-map name inv_s (inverters net)) in
      simp map-append (λ i. a i ++ (latch-targets 0 net.gates i ++ (comb-targets 0 net.gates i ++ (b i ++ (name one_s ∷ name zero_s ∷ [])))))

  pub written_once : (net : Net) → ((x y : Signal) → name x ≡ name y → x ≡ y) → Dup (defined (written name net)) → ⊥
  written_once net inj d = once-map name inj (defs net) (once-defs net) (subst Dup (defined-is net) d)
