-- The meaning, computed on samples. Assumes nothing.
use mathlib.Core.Path.{◌≡◌, refl, sym, subst}
use mathlib.Core.Bool.{Bool, true, false, not, cond}
use mathlib.Core.List.Memᴰ
use mathlib.Core.List.{[], ◌∷◌, Memᴰ}
use mathlib.Core.Logic.{⊎_elim}
use mathlib.Core.Option.{none-ne-some}
use Prim.Native.Nat.{ℕ}
use native.Mathlib.Omega.{arith}
use lib.Dec.{eqb}
use Rattle.network.specs.Clock.{done, tick}
use Rattle.blif_meaning.specs.Model.{Init, I0, I1, Unknown, LatchDef, Block, Latch, plain_latch, target, block_bit, cover_bit, MayHold, Holds, BlifClock, RunsFrom, MayRun, BlifRuns}
use Rattle.blif_meaning.specs.Samples.{sample_cover, off_cover, toggle}

-- 0111 meets the second and the third row, 1001 none
pub sample-one : cover_bit sample_cover (false ∷ true ∷ true ∷ true ∷ []) ≡ true
sample-one = refl

pub sample-zero : cover_bit sample_cover (true ∷ false ∷ false ∷ true ∷ []) ≡ false
sample-zero = refl

-- an OFF-set is zero where a row is met, and one elsewhere
pub off_zero : cover_bit off_cover (true ∷ true ∷ []) ≡ false
off_zero = refl

pub off-one : cover_bit off_cover (true ∷ false ∷ []) ≡ true
off-one = refl

-- the values while the latch holds b
abbrev values : Bool → ℕ → Bool
values b x = cond (eqb x 0) b (not b)

module _ (v : Init) where
  toggle-blocks : (b : Bool) (x : Block ℕ) → Memᴰ x (toggle v).blocks → values b (target x) ≡ block_bit (values b) b x
  toggle-blocks b x m =
      let P : Block ℕ → Type 0 = λ y. values b (target y) ≡ block_bit (values b) b y in
      ⊎_elim (λ e. subst P (sym e) refl) (λ n. ⊎_elim (λ e. subst P (sym e) (inverse b)) (λ o. absurd (Memᴰ.not-nil o)) (Memᴰ.cases_cons n)) (Memᴰ.cases_cons m)
    where
      inverse : (c : Bool) → values c 1 ≡ cover_bit (record { cols = Rattle.blif_meaning.specs.Model.C0 ∷ []; out = true } ∷ []) (values c 0 ∷ [])
      inverse true = refl
      inverse false = refl

  -- the latch is the only one
  toggle-latch : (l : LatchDef ℕ) → Memᴰ (Latch l) (toggle v).blocks → l ≡ plain_latch 1 0 v
  toggle-latch l m =
      ⊎_elim (λ e. let p : l ≡ plain_latch 1 0 v = cc in p)
      (λ n. ⊎_elim (λ e. absurd (let z : ◌≡◌ {A = ℕ} 0 1 = cc in omega arith)) (λ o. absurd (Memᴰ.not-nil o)) (Memᴰ.cases_cons n)) (Memᴰ.cases_cons m)

  -- a clock shows what the latch holds and leaves the inverse
  toggle-clock : (b : Bool) → BlifClock (toggle v) (λ x. b) [] (b ∷ []) (λ x. not b)
  toggle-clock b = record {
    env = values b;
    fits = record { ins = λ i x e. absurd (none-ne-some x e); blocks = toggle-blocks b };
    answers = refl;
    steps = λ l m. rw (toggle-latch l m) refl;
  }

  -- three clocks from a value that the initial state allows
  toggle-from : (Allows : Init → Bool → Type 0) (b : Bool) → Allows v b
      → RunsFrom Allows (toggle v) ([] ∷ [] ∷ [] ∷ []) ((b ∷ []) ∷ (not b ∷ []) ∷ (not (not b) ∷ []) ∷ [])
  toggle-from Allows b h = record {
    held = λ x. b;
    starts = λ l m. rw (toggle-latch l m) h;
    runs = tick (toggle-clock b) (tick (toggle-clock (not b)) (tick (toggle-clock (not (not b))) done));
  }

-- an initial state of 0: 0, 1, 0
pub toggle-zero : BlifRuns (toggle I0) ([] ∷ [] ∷ [] ∷ []) ((false ∷ []) ∷ (true ∷ []) ∷ (false ∷ []) ∷ [])
toggle-zero = toggle-from I0 Holds false refl

-- of 1: 1, 0, 1
pub toggle-one : BlifRuns (toggle I1) ([] ∷ [] ∷ [] ∷ []) ((true ∷ []) ∷ (false ∷ []) ∷ (true ∷ []) ∷ [])
toggle-one = toggle-from I1 Holds true refl

-- of "don't care" and of "unknown" the Berkeley text allows both; from zero is the one that is taken
pub toggle-unknown : BlifRuns (toggle Unknown) ([] ∷ [] ∷ [] ∷ []) ((false ∷ []) ∷ (true ∷ []) ∷ (false ∷ []) ∷ [])
    × MayRun (toggle Unknown) ([] ∷ [] ∷ [] ∷ []) ((true ∷ []) ∷ (false ∷ []) ∷ (true ∷ []) ∷ [])
toggle-unknown = (toggle-from Unknown Holds false refl, toggle-from Unknown MayHold true tt)
