-- Marks set by one signal after the other. Assumes nothing.
use mathlib.Core.Path.{◌≡◌, refl, sym, ◌∙◌, ap, subst}
use mathlib.Core.Bool.{Bool, true, false}
use mathlib.Core.List.{List, [], ◌∷◌, ◌++◌}
use mathlib.Core.Option.{Option, none, some}
use Prim.Native.Nat.{ℕ}
use lib.ListN.{length, length-set}
use Rattle.lists.proofs.Laying.{Front, front-start, front-more}
use Rattle.signal.specs.Signal.{Node, Signal}
use Rattle.blif_write_inverters.specs.Between.Marks.{gate_of, input_of, marked, mark_all, SignalsMarked}

-- ---- signals one after the other

marks-append : (pick : Node → Option ℕ) (a b : List Signal) (m : List ℕ) → mark_all pick (a ++ b) m ≡ mark_all pick b (mark_all pick a m)
marks-append pick [] b m = refl
marks-append pick (s ∷ a) b m = marks-append pick a b (marked s.inv (pick s.node) m)

pub marked-both : {a b : List Signal} {gs is gs' is' gs'' is'' : List ℕ} → SignalsMarked a gs is gs' is' → SignalsMarked b gs' is' gs'' is'' → SignalsMarked (a ++ b) gs is gs'' is''
marked-both {a} {b} {gs} {is} v w =
    record {
      gated = w.gated ∙ ap (mark_all gate_of b) v.gated ∙ sym (marks-append gate_of a b gs);
      input = w.input ∙ ap (mark_all input_of b) v.input ∙ sym (marks-append input_of a b is);
    }

pub marked-none : {gs is : List ℕ} → SignalsMarked [] gs is gs is
marked-none = record { gated = refl; input = refl }

pub as-marked : {a b : List Signal} {gs is gs' is' : List ℕ} → a ≡ b → SignalsMarked a gs is gs' is' → SignalsMarked b gs is gs' is'
as-marked {gs = gs} {is = is} {gs' = gs'} {is' = is'} e v = subst (λ (l : List Signal). SignalsMarked l gs is gs' is') e v

pub marked-length : (v : Bool) (n : Option ℕ) (m : List ℕ) → length (marked v n m) ≡ length m
marked-length false n m = refl
marked-length true none m = refl
marked-length true (some i) m = length-set m i 1

marks-length : (pick : Node → Option ℕ) (ss : List Signal) (m : List ℕ) → length (mark_all pick ss m) ≡ length m
marks-length pick [] m = refl
marks-length pick (s ∷ ss) m = marks-length pick ss (marked s.inv (pick s.node) m) ∙ marked-length s.inv (pick s.node) m

module _ {ss : List Signal} {gs is gs' is' : List ℕ} (v : SignalsMarked ss gs is gs' is') where
  pub gates-kept : length gs' ≡ length gs
  gates-kept = ap length v.gated ∙ marks-length gate_of ss gs

  pub inputs-kept : length is' ≡ length is
  inputs-kept = ap length v.input ∙ marks-length input_of ss is

-- of all the signals those left are still to be marked
abbrev pub Marking : List Signal → List Signal → List ℕ → List ℕ → List ℕ → List ℕ → Type 0
Marking left all gs is gs' is' = Front (λ (ss : List Signal). SignalsMarked ss gs is gs' is') left all

pub marking-start : {left all : List Signal} {gs is : List ℕ} → left ≡ all → Marking left all gs is gs is
marking-start e = front-start marked-none e

pub marking-next : {left all a rest : List Signal} {gs is gs' is' gs'' is'' : List ℕ} → Marking left all gs is gs' is' → left ≡ a ++ rest → SignalsMarked a gs' is' gs'' is''
    → Marking rest all gs is gs'' is''
marking-next {a = a} c e v = front-more a e (λ ss u. marked-both u v) c
