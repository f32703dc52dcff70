-- The inverters' text, one after the other. Assumes nothing.
use mathlib.Core.Path.{◌≡◌, refl, sym, ◌∙◌, ap, ap₂}
use mathlib.Core.Bool.{Bool, false, cond}
use mathlib.Core.List.{List, [], ◌∷◌, ◌++◌, append_assoc, flat_map}
use Prim.Native.Nat.{ℕ, suc, ◌+◌, ◌-◌, ◌^◌, ◌≤◌, ◌<◌}
use native.Mathlib.Omega.{arith}
use lib.ListN.{length, get_or, take, drop}
use borrow.Author.Tests.{eq-eqb, ne_eqb}
use Rattle.lists.specs.Lists.{Bytes, bytes}
use Rattle.signal.specs.Signal.{Node, Input, Var, Signal, plain, invert}
use Rattle.signal.specs.Cell.{sig_cell, sig_of}
use Rattle.signal.proofs.Cells.{signal-again, small-node}
use Rattle.blif_writing.specs.Names.{name_bytes}
use Rattle.blif_writing.specs.WrittenModel.{inverter_block}
use Rattle.blif_writing.specs.Text.{spaced, line}
use Rattle.blif_write_names.specs.Between.Text.{Wrote}
use Rattle.blif_write_names.proofs.Laws.{as-wrote}
use Rattle.blif_write_names.proofs.Parts.{NamingSoFar, going_start, going-part, Parts}
use Rattle.blif_write_gates.specs.Between.Blocks.{block_text}
use Rattle.blif_write_inverters.specs.Between.Marks.{inverter_at, gate_inverters, input_inverters}
use Rattle.blif_write_gates.proofs.Texts.{two-names}

-- ---- one inverter

inverter-text : (n : Node) → ((bytes ".names" ++ (32 ∷ name_bytes (plain n))) ++ (32 ∷ name_bytes (invert (plain n)))) ++ bytes "\n0 1\n"
    ≡ block_text (inverter_block name_bytes n)
unfolding line spaced flat_map
inverter-text n =
    ap (λ (t : Bytes). t ++ bytes "\n0 1\n") (two-names (name_bytes (plain n)) (name_bytes (invert (plain n))))
    ∙ sym (append_assoc (bytes ".names" ++ spaced (name_bytes (plain n) ∷ name_bytes (invert (plain n)) ∷ [])) (bytes "\n") (bytes "0 1\n"))

invert-signal : (b c : ℕ) → c < 2 ^ 32 → b ≡ sig_cell (invert (sig_of c)) → sig_of b ≡ invert (sig_of c)
invert-signal b c h e = ap sig_of e ∙ signal-again (invert (sig_of c)) (small-node c h)

plain-is : (s : Signal) → s.inv ≡ false → s ≡ plain s.node
plain-is s h = λ i. record { node = s.node; inv = h i }

pub inverter-none : (mark : ℕ) (n : Node) → mark ≡ 0 → [] ≡ inverter_at mark n
unfolding inverter_at
inverter-none mark n h = sym (ap (λ (b : Bool). cond b [] (block_text (inverter_block name_bytes n))) (eq-eqb mark 0 h))

pub inverter-some : (mark b c : ℕ) → (mark ≡ 0 → ⊥) → c < 2 ^ 32 → (sig_of c).inv ≡ false → b ≡ sig_cell (invert (sig_of c))
    → ((bytes ".names" ++ (32 ∷ name_bytes (sig_of c))) ++ (32 ∷ name_bytes (sig_of b))) ++ bytes "\n0 1\n" ≡ inverter_at mark (sig_of c).node
unfolding inverter_at
inverter-some mark b c h l k e =
    let p : sig_of c ≡ plain (sig_of c).node = plain-is (sig_of c) k in
    let q : sig_of b ≡ invert (plain (sig_of c).node) = invert-signal b c l e ∙ ap invert p in
    ap₂ (λ (x y : Signal). ((bytes ".names" ++ (32 ∷ name_bytes x)) ++ (32 ∷ name_bytes y)) ++ bytes "\n0 1\n") p q
    ∙ inverter-text (sig_of c).node
    ∙ sym (ap (λ (z : Bool). cond z [] (block_text (inverter_block name_bytes (sig_of c).node))) (ne_eqb mark 0 h))

-- ---- one after the other

-- a gate's inverter is a part of the text of all
pub gate-parts : (marks : List ℕ) (n : ℕ) → Parts n (gate_inverters marks) (λ (g : ℕ). inverter_at (get_or marks g 0) (Var g))
gate-parts marks n = record { more = λ g k h. refl; none = λ g h. refl }

-- the signal that the code makes of a node
module _ {s : Signal} {n : Node} (e : s ≡ plain n) where
  pub made_plain : s.inv ≡ false
  made_plain = ap (λ (x : Signal). x.inv) e

  pub made-inverter : (mark : ℕ) {r : ℕ} {o q : Bytes} → Wrote (inverter_at mark s.node) o q r → Wrote (inverter_at mark n) o q r
  made-inverter mark v = as-wrote (ap (λ (x : Signal). inverter_at mark x.node) e) v

-- the inverters of the inputs from i on are written, downwards
pub record InputsTurned (marks : List ℕ) (n : ℕ) (o : Bytes) (a : ℕ) (p : Bytes) (at i : ℕ) : Type 0 where
  pub within : i ≤ n
  pub going : NamingSoFar (input_inverters marks n) (input_inverters marks i) o a p at

pub inputs-start : {marks : List ℕ} {n : ℕ} {o : Bytes} {a : ℕ} → a ≤ length o → InputsTurned marks n o a o a n
inputs-start h = record { within = omega arith; going = going_start refl h }

module _ {marks : List ℕ} {n : ℕ} {o : Bytes} {a : ℕ} {p : Bytes} {at i : ℕ} (c : InputsTurned marks n o a p at i) where
  pub inputs-next : {q : Bytes} {r : ℕ} → 0 < i → at ≤ length p → Wrote (inverter_at (get_or marks (i - 1) 0) (Input (i - 1))) (take (length p - at) (drop at p)) q r
      → InputsTurned marks n o a (take at p ++ (q ++ drop (length p - at) (drop at p))) (at + r) (i - 1)
  inputs-next h k v =
      let l : i ≡ suc (i - 1) = omega arith in
      record { within = omega (arith, c.within); going = going-part c.going (ap (input_inverters marks) l) k v }
