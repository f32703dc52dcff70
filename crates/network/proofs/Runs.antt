-- Runs along a simulation, and the bits held next as a function. Assumes nothing.
use mathlib.Core.Path.{◌≡◌, refl, ap}
use mathlib.Core.List.{List, [], ◌∷◌}
use mathlib.Core.Bool.{Bool}
use Prim.Native.Nat.{ℕ}
use Rattle.lists.specs.Lists.{optional}
use Rattle.signal.specs.Signal.{Signal}
use Rattle.gates.specs.Gate.{Gate}
use Rattle.network.specs.Net.{Net, GateIs}
use Rattle.network.specs.Clock.{next_bit, Runs, done, tick}
use Rattle.network.specs.Settle.{next_of}

-- every tick of the first is one of the second, from related states to related states
abbrev pub Simulates : {S T : Type 0} (R : S → T → Type 0) (F : S → List Bool → List Bool → S → Type 0) (G : T → List Bool → List Bool → T → Type 0) → Type 0
Simulates {S} {T} R F G = (s s' : S) (t : T) (row out : List Bool) → R s t → F s row out s' → (t' : T) × G t row out t' × R s' t'

pub runs-along : {S T : Type 0} (R : S → T → Type 0) (F : S → List Bool → List Bool → S → Type 0) (G : T → List Bool → List Bool → T → Type 0)
    → Simulates R F G → (s : S) (t : T) (rows outs : List (List Bool)) → R s t → Runs F s rows outs → Runs G t rows outs
runs-along R F G sim s t rows outs r done = done
runs-along R F G sim s t rows outs r (tick {t = s'} {row = row} {out = out} {rows = rs} {outs = os} f more) =
    let x = sim s s' t row out r f in
    tick x.1 (runs-along R F G sim s' x.0 rs os x.2 more)

pub next_of-is : (net : Net) (σ : Signal → Bool) (held : ℕ → Bool) (g : ℕ) (x : Gate) → GateIs net g x → next_of net σ held g ≡ next_bit σ (held g) x
next_of-is net σ held g x e = ap (optional (next_bit σ (held g)) (held g)) e

pub runs-nil : {S : Type 0} {F : S → List Bool → List Bool → S → Type 0} {s : S} {os : List (List Bool)} → Runs F s [] os → [] ≡ os
runs-nil done = refl

pub runs-cons : {S : Type 0} {F : S → List Bool → List Bool → S → Type 0} {s : S} {row : List Bool} {rows os : List (List Bool)} → Runs F s (row ∷ rows) os
    → (t : S) × (out : List Bool) × (outs : List (List Bool)) × F s row out t × Runs F t rows outs × (out ∷ outs ≡ os)
runs-cons (tick {t = t} {out = out} {outs = outs} f r) = (t, out, outs, f, r, refl)
