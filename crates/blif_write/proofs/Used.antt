-- The marks say which signals are used inverted, and the inverters written by them are those of the network. Assumes nothing.
use Rattle.std.specs.Prelude.{if◌then◌else◌}
use mathlib.Core.Path.{◌≡◌, refl, sym, ◌∙◌, ap, ap₂}
use mathlib.Core.Bool.{Bool, true, false, not, ◌&&◌, ◌||◌, cond, or_assoc}
use mathlib.Core.List.{List, [], ◌∷◌, ◌++◌, map, flat_map, append_assoc}
use mathlib.Core.Option.{Option, none, some}
use Prim.Native.Nat.{ℕ, zero, suc, ◌+◌, ◌≤◌, ◌<◌}
use native.Mathlib.Omega.{arith}
use lib.Dec.{eqb}
use lib.ListN.{length, get_or, set, replicate, length-replicate, get_or-replicate}
use lib.Seq.{get_or-set_same, get_or-set_other}
use borrow.Author.Tests.{eqb-true, eqb-false}
use Rattle.lists.specs.Lists.{Bytes, filter, range}
use Rattle.lists.proofs.Places.{flat_map-append}
use Rattle.lists.proofs.Tests.{by-test, and-true, and-false}
use Rattle.signal.specs.Signal.{Node, Const, Input, Var, Signal}
use Rattle.gates.specs.Gate.{Gate}
use Rattle.network.specs.Net.{Net}
use Rattle.blif_writing.specs.Names.{name_bytes}
use Rattle.blif_writing.specs.WrittenModel.{same_node, used_among, named, used_in, inverted, down_to, inverter_block}
use Rattle.blif_writing.specs.Text.{line, block_lines, all_lines}
use Rattle.blif_write_gates.specs.Between.Blocks.{block_text}
use Rattle.blif_write.specs.Between.Parts.{blocks_text, inverters_text}
use Rattle.blif_write_inverters.specs.Between.Marks.{gate_of, input_of, marked, mark_all, named_in, inverter_at, gate_inverters, input_inverters}
use Rattle.blif_write_inverters.proofs.Marking.{marked-length}

-- ---- marks and uses

-- a signal's number is this one
abbrev hits : Option ℕ → ℕ → Bool
hits none g = false
hits (some h) g = eqb h g

both-not : (x h u : Bool) → ((x && not h) && not u) ≡ (x && not (h || u))
both-not true true u = refl
both-not true false u = refl
both-not false h u = refl

one-mark : (v : Bool) (n : Option ℕ) (m : List ℕ) (g : ℕ) → g < length m → eqb (get_or (marked v n m) g 0) 0 ≡ (eqb (get_or m g 0) 0 && not (v && hits n g))
one-mark false n m g h = sym (and-true (eqb (get_or m g 0) 0))
one-mark true none m g h = sym (and-true (eqb (get_or m g 0) 0))
one-mark true (some i) m g h =
    by-test (eqb i g)
    (λ t.
    let e : i ≡ g = eqb-true i g t in
    ap (λ (j : ℕ). eqb (get_or (set m j 1) g 0) 0) e
    ∙ ap (λ (x : ℕ). eqb x 0) (get_or-set_same m g 1 0 h)
    ∙ sym (and-false (eqb (get_or m g 0) 0))
    ∙ ap (λ (b : Bool). eqb (get_or m g 0) 0 && not b) (sym t))
    (λ t.
    ap (λ (x : ℕ). eqb x 0) (get_or-set_other m i g 1 0 (λ e. eqb-false i g t (sym e)))
    ∙ sym (and-true (eqb (get_or m g 0) 0))
    ∙ ap (λ (b : Bool). eqb (get_or m g 0) 0 && not b) (sym t))

module _ (pick : Node → Option ℕ) (make : ℕ → Node) (same : (n : Node) (g : ℕ) → hits (pick n) g ≡ same_node n (make g)) where
  all-marks : (ss : List Signal) (m : List ℕ) (g : ℕ) → g < length m
      → eqb (get_or (mark_all pick ss m) g 0) 0 ≡ (eqb (get_or m g 0) 0 && not (used_among (make g) ss))
  all-marks [] m g h = sym (and-true (eqb (get_or m g 0) 0))
  all-marks (s ∷ ss) m g h =
      let x : Bool = eqb (get_or m g 0) 0 in
      let u : Bool = used_among (make g) ss in
      all-marks ss (marked s.inv (pick s.node) m) g (omega (arith, marked-length s.inv (pick s.node) m))
      ∙ ap (λ (b : Bool). b && not u) (one-mark s.inv (pick s.node) m g h)
      ∙ ap (λ (b : Bool). (x && not (s.inv && b)) && not u) (same s.node g)
      ∙ both-not x (s.inv && same_node s.node (make g)) u

  -- where no mark was set before
  fresh-marks : (ss : List Signal) (k g : ℕ) → g < k → eqb (get_or (mark_all pick ss (replicate k 0)) g 0) 0 ≡ not (used_among (make g) ss)
  fresh-marks ss k g h =
      all-marks ss (replicate k 0) g (omega (arith, length-replicate {A = ℕ} k 0))
      ∙ ap (λ (x : ℕ). eqb x 0 && not (used_among (make g) ss)) (get_or-replicate k g 0 0 h)

gate_same : (n : Node) (g : ℕ) → hits (gate_of n) g ≡ same_node n (Var g)
gate_same Const g = refl
gate_same (Input i) g = refl
gate_same (Var h) g = refl

input-same : (n : Node) (i : ℕ) → hits (input_of n) i ≡ same_node n (Input i)
input-same Const i = refl
input-same (Input j) i = refl
input-same (Var g) i = refl

used-append : (n : Node) (a b : List Signal) → used_among n (a ++ b) ≡ (used_among n a || used_among n b)
used-append n [] b = refl
used-append n (s ∷ a) b =
    ap (λ (x : Bool). (s.inv && same_node s.node n) || x) (used-append n a b)
    ∙ sym (or_assoc (s.inv && same_node s.node n) (used_among n a) (used_among n b))

used-named : (n : Node) (xs : List Gate) → used_among n (named_in xs) ≡ used_in n xs
used-named n [] = refl
used-named n (x ∷ xs) = used-append n (named x) (named_in xs) ∙ ap (λ (b : Bool). used_among n (named x) || b) (used-named n xs)

inverted-is : (net : Net) (n : Node) → used_among n (net.outputs ++ named_in net.gates) ≡ inverted net n
inverted-is net n =
    used-append n net.outputs (named_in net.gates) ∙ ap (λ (b : Bool). used_among n net.outputs || b) (used-named n net.gates)

-- ---- the inverters of marked nodes

-- the inverters of the nodes that pass the test
abbrev passing : (Node → Bool) → List Node → Bytes
passing f [] = []
passing f (n ∷ ns) = cond (f n) (block_text (inverter_block name_bytes n)) [] ++ passing f ns

passing-is : (f : Node → Bool) (ns : List Node) → passing f ns ≡ blocks_text (map (inverter_block name_bytes) (filter f ns))
unfolding flat_map
passing-is f [] = refl
passing-is f (n ∷ ns) = ap (λ (t : Bytes). cond (f n) (block_text (inverter_block name_bytes n)) [] ++ t) (passing-is f ns) ∙ go (f n)
  where
    go : (b : Bool) → cond b (block_text (inverter_block name_bytes n)) [] ++ blocks_text (map (inverter_block name_bytes) (filter f ns))
        ≡ blocks_text (map (inverter_block name_bytes) (if b then n ∷ filter f ns else filter f ns))
    go true = sym (flat_map-append line (block_lines (inverter_block name_bytes n)) (all_lines (map (inverter_block name_bytes) (filter f ns))))
    go false = refl

passing-append : (f : Node → Bool) (a b : List Node) → passing f (a ++ b) ≡ passing f a ++ passing f b
passing-append f [] b = refl
passing-append f (n ∷ a) b =
    ap (λ (t : Bytes). cond (f n) (block_text (inverter_block name_bytes n)) [] ++ t) (passing-append f a b)
    ∙ sym (append_assoc (cond (f n) (block_text (inverter_block name_bytes n)) []) (passing f a) (passing f b))

mark-passes : (f : Node → Bool) (mark : ℕ) (n : Node) → eqb mark 0 ≡ not (f n) → inverter_at mark n ≡ cond (f n) (block_text (inverter_block name_bytes n)) []
unfolding inverter_at
mark-passes f mark n e = ap (λ (b : Bool). cond b [] (block_text (inverter_block name_bytes n))) e ∙ go (f n)
  where
    go : (b : Bool) → cond (not b) [] (block_text (inverter_block name_bytes n)) ≡ cond b (block_text (inverter_block name_bytes n)) []
    go true = refl
    go false = refl

gates-pass : (f : Node → Bool) (marks : List ℕ) (g k : ℕ) → ((i : ℕ) → g ≤ i → i < g + k → eqb (get_or marks i 0) 0 ≡ not (f (Var i)))
    → gate_inverters marks g k ≡ passing f (map Var (range g k))
gates-pass f marks g zero h = refl
gates-pass f marks g (suc k) h =
    ap₂ (λ (a b : Bytes). a ++ b) (mark-passes f (get_or marks g 0) (Var g) (h g (omega arith) (omega arith)))
    (gates-pass f marks (suc g) k (λ i l m. h i (omega arith) (omega arith)))

inputs-pass : (f : Node → Bool) (marks : List ℕ) (n : ℕ) → ((i : ℕ) → i < n → eqb (get_or marks i 0) 0 ≡ not (f (Input i)))
    → input_inverters marks n ≡ passing f (map Input (down_to n))
inputs-pass f marks zero h = refl
inputs-pass f marks (suc n) h =
    ap₂ (λ (a b : Bytes). a ++ b) (mark-passes f (get_or marks n 0) (Input n) (h n (omega arith))) (inputs-pass f marks n (λ i l. h i (omega arith)))

-- the inverters written by the marks of the network's signals are the network's
pub inverters-written : (net : Net) {gs is : List ℕ} {n : ℕ} → n ≡ length net.gates → n ≤ 1024 → net.inputs ≤ 256
    → gs ≡ mark_all gate_of (net.outputs ++ named_in net.gates) (replicate 1024 0)
    → is ≡ mark_all input_of (net.outputs ++ named_in net.gates) (replicate 256 0)
    → gate_inverters gs 0 n ++ input_inverters is net.inputs ≡ inverters_text net
inverters-written net {gs} {is} {n} k a b p q =
    let ss : List Signal = net.outputs ++ named_in net.gates in
    let f : Node → Bool = inverted net in
    ap₂ (λ (x y : Bytes). x ++ y)
    (ap (gate_inverters gs 0) k
    ∙ gates-pass f gs 0 (length net.gates)
    (λ i l m.
    ap (λ (x : List ℕ). eqb (get_or x i 0) 0) p
    ∙ fresh-marks gate_of Var gate_same ss 1024 i (omega arith)
    ∙ ap not (inverted-is net (Var i))))
    (inputs-pass f is net.inputs
    (λ i l.
    ap (λ (x : List ℕ). eqb (get_or x i 0) 0) q
    ∙ fresh-marks input_of Input input-same ss 256 i (omega arith)
    ∙ ap not (inverted-is net (Input i))))
    ∙ sym (passing-append f (map Var (range 0 (length net.gates))) (map Input (down_to net.inputs)))
    ∙ passing-is f (map Var (range 0 (length net.gates)) ++ map Input (down_to net.inputs))
