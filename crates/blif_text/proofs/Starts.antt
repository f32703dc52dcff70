-- What tokens tell of a latch's start value. Assumes nothing.
use mathlib.Core.Path.{◌≡◌, refl, sym, ap, ◌∙◌}
use mathlib.Core.List.{List, [], ◌∷◌}
use mathlib.Core.Option
use mathlib.Core.Option.{Option, none, some}
use Prim.Native.Nat.{ℕ, ◌≤◌, ◌<◌}
use native.Mathlib.Omega.{arith}
use lib.ListN.{length, get_or}
use Rattle.lists.specs.Lists.{Bytes}
use Rattle.blif_meaning.specs.Model.{Init, I0, I1, DontCare, Unknown, init_bit}
use Rattle.blif_text.specs.Statements.{init_of, init_among}
use Rattle.blif_text.specs.Between.Places.{token_of, tokens_of}
use Rattle.blif_text.specs.Between.PlacedStatements.{start_of}
use Rattle.std.specs.Prelude.{Bool, false, Some, None, unwrap_or}
use Rattle.std.specs.declared.option.Option as std-option

-- ---- the token among those behind a latch's names

module _ (text : Bytes) where
  -- the only one
  only-init : (rest : List ℕ) → length rest ≡ 1 → init_among (tokens_of text rest) ≡ init_of (token_of text (get_or rest 0 0))
  unfolding init_among
  only-init [] h = absurd (omega arith)
  only-init (v ∷ []) h = refl
  only-init (v ∷ w ∷ rest) h = absurd (omega arith)

  -- the third of three or more
  third-init : (rest : List ℕ) → 2 < length rest → init_among (tokens_of text rest) ≡ init_of (token_of text (get_or rest 2 0))
  unfolding init_among
  third-init [] h = absurd (omega arith)
  third-init (t ∷ []) h = absurd (omega arith)
  third-init (t ∷ c ∷ []) h = absurd (omega arith)
  third-init (t ∷ c ∷ v ∷ rest) h = refl

  -- none of none, and none of two
  no-init : (rest : List ℕ) → (length rest ≡ 1 → ⊥) → length rest ≤ 2 → init_among (tokens_of text rest) ≡ some Unknown
  unfolding init_among
  no-init [] n h = refl
  no-init (v ∷ []) n h = absurd (n refl)
  no-init (t ∷ c ∷ []) n h = refl
  no-init (t ∷ c ∷ v ∷ rest) n h = absurd (omega arith)

  module _ (rest : List ℕ) {k : Bytes} {r : std-option.Option Bool} (e : r ≡ start_of (init_of k)) where
    pub only-start : length rest ≡ 1 → k ≡ token_of text (get_or rest 0 0) → r ≡ start_of (init_among (tokens_of text rest))
    only-start h q = e ∙ ap start_of (ap init_of q ∙ sym (only-init rest h))

    pub third-start : 2 < length rest → k ≡ token_of text (get_or rest 2 0) → r ≡ start_of (init_among (tokens_of text rest))
    third-start h q = e ∙ ap start_of (ap init_of q ∙ sym (third-init rest h))

  pub no_start : (rest : List ℕ) → (length rest ≡ 1 → ⊥) → length rest ≤ 2 → Some false ≡ start_of (init_among (tokens_of text rest))
  no_start rest n h = sym (ap start_of (no-init rest n h))

-- what is told is the value that is taken
pub unwrap-start_of : (o : Option Init) → unwrap_or (start_of o) false ≡ init_bit (Option.get_or o Unknown)
unwrap-start_of none = refl
unwrap-start_of (some I0) = refl
unwrap-start_of (some I1) = refl
unwrap-start_of (some DontCare) = refl
unwrap-start_of (some Unknown) = refl
