-- The blocks written for a network: where each comes from, and that each gate has its own. Assumes nothing.
use mathlib.Core.Path.{◌≡◌, refl, sym, ap, ◌∙◌}
use mathlib.Core.List.{List, [], ◌∷◌, map, Memᴰ}
use mathlib.Core.Bool.{true}
use mathlib.Core.Option.{some}
use mathlib.Core.Logic.{⊎_elim}
use Prim.Native.Nat.{ℕ, zero, suc, ◌+◌, ◌<◌}
use native.Mathlib.Omega.{arith}
use native.Mathlib.Nat.{add-zero}
use native.Mathlib.Decide.{ℕ_discrete}
use lib.ListN.{get_elem?}
use Rattle.lists.specs.Lists.{range}
use Rattle.lists.proofs.Places.{place-lt, mem-place}
use Rattle.lists.proofs.Range.{length-range}
use Rattle.signal.specs.Signal.{Node, Signal, one_s, zero_s}
use Rattle.gates.specs.Gate.{Form, And2, Xor2, And3, Xor3, Maj3, Mux3, AndN, OrN, NandN, NorN, XorN, XnorN, Buf, FlipFlop, Gate, Comb, Dff}
use Rattle.network.specs.Net.{Net, GateIs}
use Rattle.blif_meaning.specs.Model.{LatchDef, Block, Latch, Cover, target}
use Rattle.blif_writing.specs.WrittenModel.{cover_row, named, down_to, inverters, gate_name, latch_of, buf_block, form_block, comb_block, latch_blocks, comb_blocks, inverter_block, const_blocks, written}

-- ---- lists of numbers

pub range_at : (k n i x : ℕ) → get_elem? (range k n) i ≡ some x → x ≡ k + i
range_at k zero i x e = absurd (let z : ◌≡◌ {A = ℕ} 0 1 = cc in omega arith)
range_at k (suc n) zero x e = let q : k ≡ x = cc in omega arith
range_at k (suc n) (suc i) x e = let r : x ≡ suc k + i = range_at (suc k) n i x e in omega arith

-- a number of a range, by its place
pub range-mem : (k n x : ℕ) → Memᴰ x (range k n) → (i : ℕ) × (i < n) × (x ≡ k + i)
range-mem k n x m =
    let t = mem-place (range k n) x m in
    (t.0, omega (arith, place-lt (range k n) t.0 x t.1, length-range k n), range_at k n t.0 x t.1)

pub down_to-lt : (n x : ℕ) → Memᴰ x (down_to n) → x < n
down_to-lt zero x m = absurd (mathlib.Core.List.Memᴰ.not-nil m)
down_to-lt (suc n) x m = ⊎_elim (λ (e : x ≡ n). omega arith) (λ (w : Memᴰ x (down_to n)). let z : x < n = down_to-lt n x w in omega arith) (mathlib.Core.List.Memᴰ.cases_cons m)

pub down_to-mem : (n i : ℕ) → i < n → Memᴰ i (down_to n)
down_to-mem zero i u = absurd (omega arith)
down_to-mem (suc n) i u = go (ℕ_discrete i n) (down_to-mem n i)
  where
    go : Dec (i ≡ n) → (i < n → Memᴰ i (down_to n)) → Memᴰ i (n ∷ down_to n)
    go (yes e) ih = mathlib.Core.List.Memᴰ.head e
    go (no e) ih = mathlib.Core.List.Memᴰ.tail (ih (omega arith))

-- ---- blocks

module _ {Name : Type 0} (name : Signal → Name) where
  -- a property of a gate's cover: of Buf's, and of the others'
  pub comb-cases : (P : Form → List Signal → Block Name → Type 0) (g : ℕ)
      → ((ps : List Signal) → P Buf ps (buf_block name g ps)) → ((f : Form) (ps : List Signal) → named (Comb f ps) ≡ ps → P f ps (form_block name g f ps))
      → (f : Form) (ps : List Signal) → P f ps (comb_block name g f ps)
  comb-cases P g b o And2 ps = o And2 ps refl
  comb-cases P g b o Xor2 ps = o Xor2 ps refl
  comb-cases P g b o And3 ps = o And3 ps refl
  comb-cases P g b o Xor3 ps = o Xor3 ps refl
  comb-cases P g b o Maj3 ps = o Maj3 ps refl
  comb-cases P g b o Mux3 ps = o Mux3 ps refl
  comb-cases P g b o AndN ps = o AndN ps refl
  comb-cases P g b o OrN ps = o OrN ps refl
  comb-cases P g b o NandN ps = o NandN ps refl
  comb-cases P g b o NorN ps = o NorN ps refl
  comb-cases P g b o XorN ps = o XorN ps refl
  comb-cases P g b o XnorN ps = o XnorN ps refl
  comb-cases P g b o Buf ps = b ps

  pub comb-target : (g : ℕ) (f : Form) (ps : List Signal) → target (comb_block name g f ps) ≡ gate_name name g
  comb-target g = comb-cases (λ f ps b. target b ≡ gate_name name g) g (λ ps. refl) (λ f ps e. refl)

  -- no latch is written among the covers
  no-latch : (g : ℕ) (f : Form) (ps : List Signal) (l : LatchDef Name) → Latch l ≡ comb_block name g f ps → ⊥
  no-latch g =
      comb-cases (λ f ps b. (l : LatchDef Name) → Latch l ≡ b → ⊥) g (λ ps l e. let z : ◌≡◌ {A = ℕ} 0 1 = cc in omega arith)
      (λ f ps n l e. let z : ◌≡◌ {A = ℕ} 0 1 = cc in omega arith)

  -- a gate's own block is written
  pub latch-in : (k : ℕ) (xs : List Gate) (i : ℕ) (s : FlipFlop) → get_elem? xs i ≡ some (Dff s) → Memᴰ (Latch (latch_of name (k + i) s)) (latch_blocks name k xs)
  latch-in k [] i s p = absurd (let z : ◌≡◌ {A = ℕ} 0 1 = cc in omega arith)
  latch-in k (Comb f ps ∷ xs) zero s p = absurd (let z : ◌≡◌ {A = ℕ} 0 1 = cc in omega arith)
  latch-in k (Comb f ps ∷ xs) (suc i) s p = mathlib.Core.List.Memᴰ.cast (ap (λ (n : ℕ). Latch (latch_of name n s)) (omega arith)) (latch-in (suc k) xs i s p)
  latch-in k (Dff t ∷ xs) zero s p = mathlib.Core.List.Memᴰ.head (let q : s ≡ t = cc in λ i. Latch (latch_of name (add-zero k i) (q i)))
  latch-in k (Dff t ∷ xs) (suc i) s p = mathlib.Core.List.Memᴰ.tail (mathlib.Core.List.Memᴰ.cast (ap (λ (n : ℕ). Latch (latch_of name n s)) (omega arith)) (latch-in (suc k) xs i s p))

  pub comb-in : (k : ℕ) (xs : List Gate) (i : ℕ) (f : Form) (ps : List Signal) → get_elem? xs i ≡ some (Comb f ps) → Memᴰ (comb_block name (k + i) f ps) (comb_blocks name k xs)
  comb-in k [] i f ps p = absurd (let z : ◌≡◌ {A = ℕ} 0 1 = cc in omega arith)
  comb-in k (Dff s ∷ xs) zero f ps p = absurd (let z : ◌≡◌ {A = ℕ} 0 1 = cc in omega arith)
  comb-in k (Dff s ∷ xs) (suc i) f ps p = mathlib.Core.List.Memᴰ.cast (ap (λ (n : ℕ). comb_block name n f ps) (omega arith)) (comb-in (suc k) xs i f ps p)
  comb-in k (Comb f' ps' ∷ xs) zero f ps p =
      mathlib.Core.List.Memᴰ.head (let q : f ≡ f' = cc in let q' : ps ≡ ps' = cc in λ i. comb_block name (add-zero k i) (q i) (q' i))
  comb-in k (Comb f' ps' ∷ xs) (suc i) f ps p = mathlib.Core.List.Memᴰ.tail (mathlib.Core.List.Memᴰ.cast (ap (λ (n : ℕ). comb_block name n f ps) (omega arith)) (comb-in (suc k) xs i f ps p))

  -- a latch written is a flip-flop's, a cover written among the gates a combinational gate's
  latch-from : (k : ℕ) (xs : List Gate) (b : Block Name) → Memᴰ b (latch_blocks name k xs)
      → (i : ℕ) × (s : FlipFlop) × (get_elem? xs i ≡ some (Dff s)) × (b ≡ Latch (latch_of name (k + i) s))
  latch-from k [] b m = absurd (mathlib.Core.List.Memᴰ.not-nil m)
  latch-from k (Comb f ps ∷ xs) b m = let t = latch-from (suc k) xs b m in
      (suc t.0, t.1, t.2, t.3 ∙ ap (λ (n : ℕ). Latch (latch_of name n t.1)) (omega arith))
  latch-from k (Dff s ∷ xs) b m =
      ⊎_elim (λ (q : b ≡ Latch (latch_of name k s)). (0, s, refl, q ∙ ap (λ (n : ℕ). Latch (latch_of name n s)) (omega arith)))
      (λ (w : Memᴰ b (latch_blocks name (suc k) xs)). let t = latch-from (suc k) xs b w in
      (suc t.0, t.1, t.2, t.3 ∙ ap (λ (n : ℕ). Latch (latch_of name n t.1)) (omega arith)))
      (mathlib.Core.List.Memᴰ.cases_cons m)

  comb-from : (k : ℕ) (xs : List Gate) (b : Block Name) → Memᴰ b (comb_blocks name k xs)
      → (i : ℕ) × (f : Form) × (ps : List Signal) × (get_elem? xs i ≡ some (Comb f ps)) × (b ≡ comb_block name (k + i) f ps)
  comb-from k [] b m = absurd (mathlib.Core.List.Memᴰ.not-nil m)
  comb-from k (Dff s ∷ xs) b m = let t = comb-from (suc k) xs b m in
      (suc t.0, t.1, t.2, t.3, t.4 ∙ ap (λ (n : ℕ). comb_block name n t.1 t.2) (omega arith))
  comb-from k (Comb f ps ∷ xs) b m =
      ⊎_elim (λ (q : b ≡ comb_block name k f ps). (0, f, ps, refl, q ∙ ap (λ (n : ℕ). comb_block name n f ps) (omega arith)))
      (λ (w : Memᴰ b (comb_blocks name (suc k) xs)). let t = comb-from (suc k) xs b w in
      (suc t.0, t.1, t.2, t.3, t.4 ∙ ap (λ (n : ℕ). comb_block name n t.1 t.2) (omega arith)))
      (mathlib.Core.List.Memᴰ.cases_cons m)

  module _ (net : Net) where
    -- where a written block comes from
    pub data Source (b : Block Name) : Type 0 where
      of_dff : (g : ℕ) (s : FlipFlop) → GateIs net g (Dff s) → b ≡ Latch (latch_of name g s) → Source b
      of_comb : (g : ℕ) (f : Form) (ps : List Signal) → GateIs net g (Comb f ps) → b ≡ comb_block name g f ps → Source b
      of_inverter : (n : Node) → Memᴰ n (inverters net) → b ≡ inverter_block name n → Source b
      of_one : b ≡ Cover [] (name one_s) (cover_row true [] ∷ []) → Source b
      of_zero : b ≡ Cover [] (name zero_s) [] → Source b

    pub source : (b : Block Name) → Memᴰ b (written name net).blocks → Source b
    source b m = ⊎_elim latch (λ w. ⊎_elim comb (λ v. ⊎_elim inverter const (mathlib.Core.List.Memᴰ.append_cases (map (inverter_block name) (inverters net)) v)) (mathlib.Core.List.Memᴰ.append_cases (comb_blocks name 0 net.gates) w))
        (mathlib.Core.List.Memᴰ.append_cases (latch_blocks name 0 net.gates) m)
      where
        latch : Memᴰ b (latch_blocks name 0 net.gates) → Source b
        latch w = let t = latch-from 0 net.gates b w in of_dff t.0 t.1 t.2 (t.3 ∙ ap (λ (n : ℕ). Latch (latch_of name n t.1)) (omega arith))

        comb : Memᴰ b (comb_blocks name 0 net.gates) → Source b
        comb w = let t = comb-from 0 net.gates b w in of_comb t.0 t.1 t.2 t.3 (t.4 ∙ ap (λ (n : ℕ). comb_block name n t.1 t.2) (omega arith))

        inverter : Memᴰ b (map (inverter_block name) (inverters net)) → Source b
        inverter w = let t = mathlib.Core.List.Memᴰ.of_map (inverter_block name) (inverters net) w in of_inverter t.0 t.1 (sym t.2)

        const : Memᴰ b (const_blocks name) → Source b
        const w = ⊎_elim of_one (λ v. of_zero (mathlib.Core.List.Memᴰ.eq_of_singleton v)) (mathlib.Core.List.Memᴰ.cases_cons w)

    -- a written latch is a flip-flop's
    pub latch-source : (l : LatchDef Name) → Memᴰ (Latch l) (written name net).blocks
        → (g : ℕ) × (s : FlipFlop) × GateIs net g (Dff s) × (l ≡ latch_of name g s)
    latch-source l m = go (source (Latch l) m)
      where
        go : Source (Latch l) → (g : ℕ) × (s : FlipFlop) × GateIs net g (Dff s) × (l ≡ latch_of name g s)
        go (of_dff g s p w) = (g, s, p, cc)
        go (of_comb g f ps p w) = absurd (no-latch g f ps l w)
        go (of_inverter n v w) = absurd (let z : ◌≡◌ {A = ℕ} 0 1 = cc in omega arith)
        go (of_one w) = absurd (let z : ◌≡◌ {A = ℕ} 0 1 = cc in omega arith)
        go (of_zero w) = absurd (let z : ◌≡◌ {A = ℕ} 0 1 = cc in omega arith)
