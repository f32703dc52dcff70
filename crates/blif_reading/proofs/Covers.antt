-- The gates built for a cover mean what the cover means. Assumes nothing.
use mathlib.Core.Path.{◌≡◌, refl, sym, ap, ap₂, ◌∙◌}
use mathlib.Core.List.{List, [], ◌∷◌, map}
use mathlib.Core.Bool.{Bool, true, false, not, ◌&&◌, ◌||◌, cond, or-false, and-true}
use Prim.Native.Nat.{ℕ, suc}
use lib.ListN.{length, length-map}
use Rattle.signal.specs.Signal.{Signal, invert_if}
use Rattle.gates.specs.Gate.{all_of, any_of, form_bit, OrN, AndN}
use Rattle.network.specs.Clock.{sig_bit, gate_bit}
use Rattle.network.proofs.SignalBits.{invert-bit}
use Rattle.blif_meaning.specs.Model.{Col, C0, C1, Dash, Line, cube_bit, cubes_bit, cover_bit}
use Rattle.blif_reading.proofs.Along.{Seg}
use Rattle.blif_reading.specs.Build.{literals, literal_gate, line_gate, gate_run, cover_gate}
use Rattle.blif_meaning.specs.WellFormed.{GoodLines}

-- what the gate of a line is to be
abbrev pub line_bit : List Bool → Line → Bool
line_bit bs l = invert_if (not l.out) (cube_bit l.cols bs)

module _ (row : List Bool) (β : ℕ → Bool) where
  abbrev σ : Signal → Bool
  σ = sig_bit row β

  literals-bit : (cs : List Col) (ss : List Signal) → all_of (map σ (literals cs ss)) ≡ cube_bit cs (map σ ss)
  literals-bit [] ss = refl
  literals-bit (c ∷ cs) [] = refl
  literals-bit (C0 ∷ cs) (s ∷ ss) = ap₂ (λ (x y : Bool). x && y) (invert-bit row β s) (literals-bit cs ss)
  literals-bit (C1 ∷ cs) (s ∷ ss) = ap (λ (y : Bool). σ s && y) (literals-bit cs ss)
  literals-bit (Dash ∷ cs) (s ∷ ss) = literals-bit cs ss

  literal-bit : (h p : Bool) (ls : List Signal) → gate_bit σ h (literal_gate p ls) ≡ invert_if (not p) (all_of (map σ ls))
  literal-bit h true [] = refl
  literal-bit h true (l ∷ []) = sym (and-true (σ l))
  literal-bit h true (l ∷ k ∷ ls) = refl
  literal-bit h false [] = refl
  literal-bit h false (l ∷ []) = invert-bit row β l ∙ ap not (sym (and-true (σ l)))
  literal-bit h false (l ∷ k ∷ ls) = refl

  pub line-bit : (h : Bool) (ss : List Signal) (l : Line) → gate_bit σ h (line_gate ss l) ≡ line_bit (map σ ss) l
  line-bit h ss l = literal-bit h l.out (literals l.cols ss) ∙ ap (invert_if (not l.out)) (literals-bit l.cols ss)

  run-bits : (k : ℕ) (bs : List Bool) → Seg β k bs → map σ (gate_run k (length bs)) ≡ bs
  run-bits k [] s = refl
  run-bits k (b ∷ bs) s = ap₂ (λ (x : Bool) (l : List Bool). x ∷ l) s.0 (run-bits (suc k) bs s.1)

-- lines with output 1 are ORed
on-lines : (n : ℕ) (bs : List Bool) (ls : List Line) → GoodLines n true ls → any_of (map (line_bit bs) ls) ≡ cubes_bit ls bs
on-lines n bs [] g = refl
on-lines n bs (l ∷ ls) g = ap₂ (λ (x y : Bool). x || y) (ap (λ (o : Bool). invert_if (not o) (cube_bit l.cols bs)) g.1) (on-lines n bs ls g.2)

not-or : (a b : Bool) → (not a && not b) ≡ not (a || b)
not-or true b = refl
not-or false b = refl

off-lines : (n : ℕ) (bs : List Bool) (ls : List Line) → GoodLines n false ls → all_of (map (line_bit bs) ls) ≡ not (cubes_bit ls bs)
off-lines n bs [] g = refl
off-lines n bs (l ∷ ls) g =
    ap₂ (λ (x y : Bool). x && y) (ap (λ (o : Bool). invert_if (not o) (cube_bit l.cols bs)) g.1) (off-lines n bs ls g.2) ∙ not-or (cube_bit l.cols bs) (cubes_bit ls bs)

invert_if-cond : (o c : Bool) → invert_if (not o) c ≡ cond o (c || false) (not (c || false))
invert_if-cond true c = sym (or-false c)
invert_if-cond false c = ap not (sym (or-false c))

-- the bits of the gates of a cover's lines
abbrev pub lines_bits : List Bool → List Line → List Bool
lines_bits bs [] = []
lines_bits bs (l ∷ []) = []
lines_bits bs (l ∷ m ∷ ls) = map (line_bit bs) (l ∷ m ∷ ls)

module _ (row : List Bool) (β : ℕ → Bool) where
  joined : (o : Bool) (n : ℕ) (bs : List Bool) (l : Line) (ls : List Line) → GoodLines n o (l ∷ ls)
      → form_bit (cond l.out OrN AndN) (map (line_bit bs) (l ∷ ls)) ≡ cover_bit (l ∷ ls) bs
  joined true n bs l ls g =
      ap (λ (p : Bool). form_bit (cond p OrN AndN) (map (line_bit bs) (l ∷ ls))) g.1 ∙ on-lines n bs (l ∷ ls) g
      ∙ sym (ap (λ (p : Bool). cond p (cubes_bit (l ∷ ls) bs) (not (cubes_bit (l ∷ ls) bs))) g.1)
  joined false n bs l ls g =
      ap (λ (p : Bool). form_bit (cond p OrN AndN) (map (line_bit bs) (l ∷ ls))) g.1 ∙ off-lines n bs (l ∷ ls) g
      ∙ sym (ap (λ (p : Bool). cond p (cubes_bit (l ∷ ls) bs) (not (cubes_bit (l ∷ ls) bs))) g.1)

  -- the gate of a cover has the cover's value, where the gates of its lines have theirs
  pub cover-bit : (h : Bool) (k : ℕ) (ss : List Signal) (ls : List Line) (n : ℕ) (o : Bool) → GoodLines n o ls
      → Seg β k (lines_bits (map (sig_bit row β) ss) ls) → gate_bit (sig_bit row β) h (cover_gate k ss ls) ≡ cover_bit ls (map (sig_bit row β) ss)
  cover-bit h k ss [] n o g s = refl
  cover-bit h k ss (l ∷ []) n o g s = line-bit row β h ss l ∙ invert_if-cond l.out (cube_bit l.cols (map (sig_bit row β) ss))
  cover-bit h k ss (l ∷ m ∷ ls) n o g s =
      ap (form_bit (cond l.out OrN AndN)) (
      ap (λ (c : ℕ). map (sig_bit row β) (gate_run k c)) (sym (length-map (l ∷ m ∷ ls) (line_bit (map (sig_bit row β) ss))))
      ∙ run-bits row β k (map (line_bit (map (sig_bit row β) ss)) (l ∷ m ∷ ls)) s)
      ∙ joined o n (map (sig_bit row β) ss) l (m ∷ ls) g
