-- A name's bytes tell its signal. Assumes nothing.
use mathlib.Core.Path.{◌≡◌, refl, ap, ap₂, ◌∙◌}
use mathlib.Core.List.{List, [], ◌∷◌}
use mathlib.Core.Bool.{Bool, true, false, ◌&&◌}
use Prim.Native.Nat.{ℕ, zero, suc, ◌+◌, ◌-◌, ◌*◌, ◌/◌, ◌%◌, ◌≤◌, ◌<◌}
use native.Mathlib.Omega.{arith}
use lib.Dec.{leb, ltb}
use borrow.Author.Tests.{le-leb, ltb-true, ltb-false}
use Rattle.signal.specs.Signal.{Node, Const, Input, Var, Signal, plain}
use Rattle.blif_writing.specs.Names.{decimal_before, suffix, node_bytes, name_bytes}

-- the number that the digits at the front are, after v, and whether anything follows
abbrev digit : ℕ → Bool
digit c = leb 48 c && leb c 57

read_num : ℕ → List ℕ → ℕ × Bool
read_num v [] = (v, false)
read_num v (c ∷ cs) = elim (digit c) [ true ↦ read_num (v * 10 + (c - 48)) cs | false ↦ (v, true) ]

digit-yes : (d : ℕ) → d < 10 → digit (48 + d) ≡ true
digit-yes d h = ap₂ (λ (x y : Bool). x && y) (le-leb 48 (48 + d) (omega arith)) (le-leb (48 + d) 57 (omega arith))

read-digit : (v d : ℕ) (cs : List ℕ) → d < 10 → read_num v ((48 + d) ∷ cs) ≡ read_num (v * 10 + d) cs
unfolding read_num
read-digit v d cs h =
    ap (λ (b : Bool). elim b as (λ (x : Bool). ℕ × Bool) [ true ↦ read_num (v * 10 + (48 + d - 48)) cs | false ↦ (v, true) ]) (digit-yes d h)
    ∙ ap (λ (n : ℕ). read_num n cs) (omega arith)

mod-lt : (n : ℕ) → n % 10 < 10
mod-lt n = omega arith

read-decimal : (f n : ℕ) (s : List ℕ) → n < f → read_num 0 (decimal_before f n s) ≡ read_num n s
read-decimal zero n s h = absurd (omega arith)
read-decimal (suc f) n s h = go (ltb n 10) refl (read-decimal f (n / 10))
  where
    go : (b : Bool) → ltb n 10 ≡ b → ((t : List ℕ) → n / 10 < f → read_num 0 (decimal_before f (n / 10) t) ≡ read_num (n / 10) t)
        → read_num 0 (elim b as (λ (x : Bool). List ℕ) [ true ↦ (48 + n) ∷ s | false ↦ decimal_before f (n / 10) ((48 + n % 10) ∷ s) ]) ≡ read_num n s
    go true e ih = let u : n < 10 = ltb-true n 10 e in read-digit 0 n s u ∙ ap (λ (k : ℕ). read_num k s) (omega arith)
    go false e ih =
        let u : 10 ≤ n = ltb-false n 10 e in
        ih ((48 + n % 10) ∷ s) (omega arith) ∙ read-digit (n / 10) (n % 10) s (mod-lt n) ∙ ap (λ (k : ℕ). read_num k s) (omega arith)

read-suffix : (n : ℕ) (v : Bool) → read_num n (suffix v) ≡ (n, v)
unfolding read_num
read-suffix n false = refl
read-suffix n true = refl

abbrev signal_at : (ℕ → Node) → ℕ × Bool → Signal
signal_at f r = record { node = f r.0; inv = r.1 }

-- the signal of a name
pub unname : List ℕ → Signal
unname [] = plain Const
unname (c ∷ cs) =
    elim (leb c 103) [
      | true ↦ plain Const
      | false ↦ elim (leb c 105) [
        | true ↦ signal_at Input (read_num 0 cs)
        | false ↦ elim (leb c 118) [ true ↦ record { node = Const; inv = true } | false ↦ signal_at Var (read_num 0 cs) ]
      ]
    ]

pub unname-name : (s : Signal) → unname (name_bytes s) ≡ s
unfolding unname
unname-name s = go s.node s.inv
  where
    go : (n : Node) (v : Bool) → unname (node_bytes n v) ≡ record { node = n; inv = v }
    go Const true = refl
    go Const false = refl
    go (Input i) v = ap (signal_at Input) (read-decimal (suc i) i (suffix v) (omega arith) ∙ read-suffix i v)
    go (Var g) v = ap (signal_at Var) (read-decimal (suc g) g (suffix v) (omega arith) ∙ read-suffix g v)
