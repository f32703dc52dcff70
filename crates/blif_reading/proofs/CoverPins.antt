-- The nodes that the gates built for a cover use: the literals' names' signals, a constant, and the gates of its lines. Assumes nothing.
use mathlib.Core.Path.{◌≡◌, refl, sym, subst}
use mathlib.Core.List.Memᴰ
use mathlib.Core.List.{List, [], ◌∷◌, map, Memᴰ}
use mathlib.Core.Bool.{Bool, true, false}
use mathlib.Core.Logic.{⊎_elim}
use Prim.Native.Nat.{ℕ, zero, suc, ◌+◌, ◌<◌}
use native.Mathlib.Omega.{arith}
use native.Mathlib.Nat.{add-zero}
use lib.ListN.{length, length-map}
use Rattle.signal.specs.Signal.{Node, Const, Var, Signal, plain, invert, zero_s, one_s}
use Rattle.gates.specs.Gate.{pins}
use Rattle.blif_meaning.specs.Model.{Col, C0, C1, Dash, Line}
use Rattle.blif_reading.specs.Build.{literals, literal_gate, line_gate, line_gates, gate_run, cover_gate}

-- the names of a row's literals
abbrev pub lit_names : {Name : Type 0} → List Col → List Name → List Name
lit_names [] xs = []
lit_names (c ∷ cs) [] = []
lit_names (C0 ∷ cs) (x ∷ xs) = x ∷ lit_names cs xs
lit_names (C1 ∷ cs) (x ∷ xs) = x ∷ lit_names cs xs
lit_names (Dash ∷ cs) (x ∷ xs) = lit_names cs xs

-- a property of nodes that the constants have, along signals
module _ (P : Node → Type 0) (const : P Const) where
  abbrev pub All : List Signal → Type 0
  All ss = (s : Signal) → Memᴰ s ss → P s.node

  pub all_nil : All []
  all_nil s m = absurd (Memᴰ.not-nil m)

  pub all_cons : (s : Signal) (ss : List Signal) → P s.node → All ss → All (s ∷ ss)
  all_cons s ss p h t m = ⊎_elim (λ (e : t ≡ s). subst (λ (u : Signal). P u.node) (sym e) p) (λ (w : Memᴰ t ss). h t w) (Memᴰ.cases_cons m)

  pub literals-all : {Name : Type 0} (signal_of : Name → Signal) (cs : List Col) (xs : List Name) → ((x : Name) → Memᴰ x (lit_names cs xs) → P (signal_of x).node) → All (literals cs (map signal_of xs))
  literals-all signal_of [] xs h = all_nil
  literals-all signal_of (c ∷ cs) [] h = all_nil
  literals-all signal_of (C0 ∷ cs) (x ∷ xs) h = all_cons (invert (signal_of x)) (literals cs (map signal_of xs)) (h x (Memᴰ.head refl)) (literals-all signal_of cs xs (λ y m. h y (Memᴰ.tail m)))
  literals-all signal_of (C1 ∷ cs) (x ∷ xs) h = all_cons (signal_of x) (literals cs (map signal_of xs)) (h x (Memᴰ.head refl)) (literals-all signal_of cs xs (λ y m. h y (Memᴰ.tail m)))
  literals-all signal_of (Dash ∷ cs) (x ∷ xs) h = literals-all signal_of cs xs h

  literal-all : (p : Bool) (ls : List Signal) → All ls → All (pins (literal_gate p ls))
  literal-all true [] h = all_cons one_s [] const all_nil
  literal-all true (l ∷ []) h = h
  literal-all true (l ∷ k ∷ ls) h = h
  literal-all false [] h = all_cons zero_s [] const all_nil
  literal-all false (l ∷ []) h = all_cons (invert l) [] (h l (Memᴰ.head refl)) all_nil
  literal-all false (l ∷ k ∷ ls) h = h

  pub line-all : (ss : List Signal) (l : Line) → All (literals l.cols ss) → All (pins (line_gate ss l))
  line-all ss l h = literal-all l.out (literals l.cols ss) h

  run-all : (k n : ℕ) → ((i : ℕ) → i < n → P (Var (k + i))) → All (gate_run k n)
  run-all k zero h = all_nil
  run-all k (suc n) h =
      all_cons (plain (Var k)) (gate_run (suc k) n) (subst (λ (j : ℕ). P (Var j)) (add-zero k) (h 0 (omega arith)))
      (run-all (suc k) n (λ i u. subst (λ (j : ℕ). P (Var j)) (omega arith) (h (suc i) (omega arith))))

  pub cover_all : (k : ℕ) (ss : List Signal) (ls : List Line) → ((l : Line) → Memᴰ l ls → All (literals l.cols ss)) → ((i : ℕ) → i < length (line_gates ss ls) → P (Var (k + i))) → All (pins (cover_gate k ss ls))
  cover_all k ss [] h r = all_cons zero_s [] const all_nil
  cover_all k ss (l ∷ []) h r = line-all ss l (h l (Memᴰ.head refl))
  cover_all k ss (l ∷ m ∷ ls) h r = run-all k (suc (suc (length ls))) (λ i u. r i (let e : length (map (line_gate ss) ls) ≡ length ls = length-map ls (line_gate ss) in omega arith))

pub lit-source : {Name : Type 0} (cs : List Col) (xs : List Name) (x : Name) → Memᴰ x (lit_names cs xs) → Memᴰ x xs
lit-source [] xs x m = absurd (Memᴰ.not-nil m)
lit-source (c ∷ cs) [] x m = m
lit-source (C0 ∷ cs) (y ∷ xs) x m = ⊎_elim (λ (e : x ≡ y). Memᴰ.head e) (λ (w : Memᴰ x (lit_names cs xs)). Memᴰ.tail (lit-source cs xs x w)) (Memᴰ.cases_cons m)
lit-source (C1 ∷ cs) (y ∷ xs) x m = ⊎_elim (λ (e : x ≡ y). Memᴰ.head e) (λ (w : Memᴰ x (lit_names cs xs)). Memᴰ.tail (lit-source cs xs x w)) (Memᴰ.cases_cons m)
lit-source (Dash ∷ cs) (y ∷ xs) x m = Memᴰ.tail (lit-source cs xs x m)
