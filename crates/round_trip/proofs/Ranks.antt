-- The ranks of a network's gates rank the model written for it, so that the gates built for it have no loop. Assumes nothing.
use mathlib.Core.Path.{◌≡◌, refl, sym, ap, ◌∙◌, subst}
use mathlib.Core.List.Memᴰ
use mathlib.Core.List.{List, Memᴰ}
use mathlib.Core.Bool.{Bool, true, false}
use Prim.Native.Nat.{ℕ, suc, ◌+◌, ◌*◌, ◌≤◌, ◌<◌}
use native.Mathlib.Omega.{arith}
use Rattle.signal.specs.Signal.{Node, Const, Input, Var, Signal, plain, invert}
use Rattle.gates.specs.Gate.{Form, Buf, Comb}
use Rattle.network.specs.Net.{Net, GateIs}
use Rattle.blif_meaning.specs.Model.{Block, Latch, Cover}
use Rattle.blif_writing.specs.WrittenModel.{bare, gate_name, comb_block, inverter_block, written}
use Rattle.network.proofs.OneChoice.{Ranked}
use Rattle.blif_reading.proofs.BuiltFree.{RankedModel}
use Rattle.blif_reading.proofs.CoverPins.{lit-source}
use Rattle.blif_writing.proofs.Blocks.{comb-cases, Source, of_dff, of_comb, of_inverter, of_one, of_zero, source}

module _ {Name : Type 0} (name : Signal → Name) where
  module _ (net : Net) (rk : Ranked net) (unname : Name → Signal) (back : (s : Signal) → unname (name s) ≡ s) where
    abbrev node_rank : Node → ℕ
    node_rank Const = 0
    node_rank (Input i) = 0
    node_rank (Var g) = suc (rk.rank g)

    abbrev sign_rank : Bool → ℕ
    sign_rank false = 0
    sign_rank true = 1

    abbrev sig_rank : Signal → ℕ
    sig_rank s = 2 * node_rank s.node + sign_rank s.inv

    rank_name : Name → ℕ
    rank_name y = sig_rank (unname y)

    rank-name : (s : Signal) → rank_name (name s) ≡ sig_rank s
    unfolding rank_name
    rank-name s = ap sig_rank (back s)

    sign_le : (b : Bool) → sign_rank b ≤ 1
    sign_le false = omega arith
    sign_le true = omega arith

    node-rises : (g : ℕ) (f : Form) (ps : List Signal) → GateIs net g (Comb f ps) → (s : Signal) → Memᴰ s ps → node_rank s.node < suc (rk.rank g)
    node-rises g f ps p s m = go s.node refl
      where
        go : (n : Node) → s.node ≡ n → node_rank n < suc (rk.rank g)
        go Const e = omega arith
        go (Input i) e = omega arith
        go (Var h) e = let u : rk.rank h < rk.rank g = rk.rises g h f ps s p m e in omega arith

    abbrev AboveB : Block Name → Type 0
    AboveB (Latch l) = Unit {0}
    AboveB (Cover xs y ls) = (x : Name) → Memᴰ x xs → rank_name x < rank_name y

    comb-above : (g : ℕ) (f : Form) (ps : List Signal) → GateIs net g (Comb f ps) → AboveB (comb_block name g f ps)
    comb-above g = comb-cases name (λ f ps b. GateIs net g (Comb f ps) → AboveB b) g
        (λ ps p x m. let t = Memᴰ.of_map (λ (s : Signal). name (bare s)) ps m in
        let u : node_rank t.0.node < suc (rk.rank g) = node-rises g Buf ps p t.0 t.1 in
        let v : rank_name x ≡ sig_rank (bare t.0) = ap rank_name (sym t.2) ∙ rank-name (bare t.0) in
        let w : rank_name (gate_name name g) ≡ sig_rank (plain (Var g)) = rank-name (plain (Var g)) in
        omega arith)
        (λ f ps e p x m. let t = Memᴰ.of_map name ps m in
        let u : node_rank t.0.node < suc (rk.rank g) = node-rises g f ps p t.0 t.1 in
        let v : rank_name x ≡ sig_rank t.0 = ap rank_name (sym t.2) ∙ rank-name t.0 in
        let w : rank_name (gate_name name g) ≡ sig_rank (plain (Var g)) = rank-name (plain (Var g)) in
        let z : sign_rank t.0.inv ≤ 1 = sign_le t.0.inv in
        omega arith)

    inverter-above : (n : Node) → AboveB (inverter_block name n)
    inverter-above n x m =
        let v : rank_name x ≡ sig_rank (plain n) = ap rank_name (Memᴰ.eq_of_singleton m) ∙ rank-name (plain n) in
        let w : rank_name (name (invert (plain n))) ≡ sig_rank (invert (plain n)) = rank-name (invert (plain n)) in
        omega arith

    block-above : (b : Block Name) → Source name net b → AboveB b
    block-above b (of_dff g s p q) = subst AboveB (sym q) tt
    block-above b (of_comb g f ps p q) = subst AboveB (sym q) (comb-above g f ps p)
    block-above b (of_inverter n w q) = subst AboveB (sym q) (inverter-above n)
    block-above b (of_one q) = subst AboveB (sym q) (λ x m. absurd (Memᴰ.not-nil m))
    block-above b (of_zero q) = subst AboveB (sym q) (λ x m. absurd (Memᴰ.not-nil m))

    pub written-ranked : RankedModel (written name net)
    written-ranked = record { rank_of = rank_name; above = λ xs y ls l x m w v. block-above (Cover xs y ls) (source name net (Cover xs y ls) m) x (lit-source l.cols xs x v) }
