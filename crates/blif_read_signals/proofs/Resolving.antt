-- Names resolved one after the other. Assumes nothing.
use mathlib.Core.Path.{◌≡◌, refl, sym, ap, ◌∙◌}
use mathlib.Core.Bool.{Bool, true, not, ◌&&◌}
use mathlib.Core.List.{List, [], ◌∷◌, map}
use Prim.Native.Nat.{ℕ, ◌+◌, ◌≤◌, ◌<◌}
use native.Mathlib.Omega.{arith}
use lib.ListN.{length, get_or, drop, set, drop_of_length-le}
use borrow.Author.Tests.{ne_eqb}
use Rattle.lists.specs.Lists.{Bytes, all}
use Rattle.lists.proofs.Places.{drop-next}
use Rattle.lists.proofs.Laying.{Laying, laying-next, laying-done}
use Rattle.blif_text.specs.Between.Places.{token_of, tokens_of}
use Rattle.blif_read_signals.specs.Between.Resolve.{is_found, Resolved}

-- the signals of the names from i on
abbrev pub left : (Bytes → ℕ) → List ℕ → List ℕ → ℕ → List ℕ
left sig text names i = map sig (tokens_of text (drop i names))

-- the first i names were found, and their signals are laid
pub record Resolving (sig : Bytes → ℕ) (text names cells₀ cells : List ℕ) (i : ℕ) : Type 0 where
  pub within : i ≤ length names
  pub found : all is_found (left sig text names i) ≡ all is_found (map sig (tokens_of text names))
  pub laying : Laying (map sig (tokens_of text names)) cells₀ 0 (left sig text names i) cells i

module _ {sig : Bytes → ℕ} {text names cells₀ cells : List ℕ} {i : ℕ} (c : Resolving sig text names cells₀ cells i) where
  -- the next signal, then the others
  left_is : {x : ℕ} → i < length names → x ≡ sig (token_of text (get_or names i 0)) → left sig text names i ≡ x ∷ left sig text names (i + 1)
  left_is {x} l q =
      ap (λ (m : List ℕ). map sig (tokens_of text m)) (drop-next names i 0 l) ∙ ap (λ (y : ℕ). y ∷ left sig text names (i + 1)) (sym q)

  pub resolving-next : {x : ℕ} {name : Bytes} → i < length names → x ≡ sig name → name ≡ token_of text (get_or names i 0) → (x ≡ 0 → ⊥) → Resolving sig text names cells₀ (set cells i x) (i + 1)
  resolving-next {x} l e n f =
      let q : x ≡ sig (token_of text (get_or names i 0)) = e ∙ ap sig n in
      let r : List ℕ = left sig text names (i + 1) in
      let t : is_found x ≡ true = ap not (ne_eqb 0 x (λ z. f (sym z))) in
      record {
        within = omega arith;
        found = sym (ap (all is_found) (left_is l q) ∙ ap (λ (b : Bool). b && all is_found r) t) ∙ c.found;
        laying = laying-next c.laying (left_is l q) refl;
      }

  pub resolving-done : length names ≤ i → Resolved (map sig (tokens_of text names)) cells₀ cells true
  resolving-done l =
      let e : left sig text names i ≡ [] = ap (λ (m : List ℕ). map sig (tokens_of text m)) (drop_of_length-le names l) in
      record { found = sym (ap (all is_found) e) ∙ c.found; laid = λ t. laying-done c.laying e }
