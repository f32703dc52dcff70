-- Cells laid over others one after the other, and a list passed from its front on. Assumes nothing.
use mathlib.Core.Path.{◌≡◌, refl, sym, ap, ◌∙◌, subst}
use mathlib.Core.List.{List, [], ◌∷◌, ◌++◌, append_assoc, append-nil}
use Prim.Native.Nat.{ℕ, zero, suc, ◌+◌, ◌≤◌}
use native.Mathlib.Omega.{arith}
use lib.ListN.{length, set}
use Rattle.lists.specs.Between.Lists.{overwrite_at}
use Rattle.lists.proofs.OverAt.{length-overwrite_at, overwrite_at-nil, overwrite-first, overwrite-append}

-- one store lays one cell
pub one_store : (k x : ℕ) (o : List ℕ) → set o k x ≡ overwrite_at k (x ∷ []) o
one_store k x o = sym (overwrite-first k x [] o ∙ overwrite_at-nil (suc k) (set o k x))

-- behind the end nothing is laid
pub overwrite-end : (k : ℕ) (t o : List ℕ) → length o ≤ k → overwrite_at k t o ≡ o
overwrite-end zero [] [] h = refl
overwrite-end zero (x ∷ t) [] h = refl
overwrite-end zero t (y ∷ o) h = absurd (omega arith)
overwrite-end (suc k) t [] h = refl
overwrite-end (suc k) t (y ∷ o) h = ap (λ (l : List ℕ). y ∷ l) (overwrite-end k t o (omega arith))

-- ---- a loop that lays cells

-- of the cells `all`, which go over o from place a on, those left are still to be laid, from place k on; o is p now
pub record Laying (all o : List ℕ) (a : ℕ) (left p : List ℕ) (k : ℕ) : Type 0 where
  pub kept : length p ≡ length o
  pub rest : overwrite_at k left p ≡ overwrite_at a all o

pub laying-start : {all left o : List ℕ} {a k : ℕ} → left ≡ all → k ≡ a → Laying all o a left o k
laying-start e f = record { kept = refl; rest = rw (e, f) }

module _ {all o : List ℕ} {a : ℕ} {left p : List ℕ} {k : ℕ} (c : Laying all o a left p k) where
  -- some of those left are laid
  pub laying-more : (xs : List ℕ) {more q : List ℕ} {j : ℕ} → left ≡ xs ++ more → q ≡ overwrite_at k xs p → j ≡ k + length xs → Laying all o a more q j
  laying-more xs {more} e f g =
      record {
        kept = ap length f ∙ length-overwrite_at k xs p ∙ c.kept;
        rest = rw (f, g) (sym (overwrite-append k xs more p) ∙ ap (λ (l : List ℕ). overwrite_at k l p) (sym e) ∙ c.rest);
      }

  -- the first of those left is stored
  pub laying-next : {x j : ℕ} {more : List ℕ} → left ≡ x ∷ more → j ≡ k + 1 → Laying all o a more (set p k x) j
  laying-next {x} e g = laying-more (x ∷ []) e (one_store k x p) g

  -- none is left
  pub laying-done : left ≡ [] → p ≡ overwrite_at a all o
  laying-done e = sym (overwrite_at-nil k p) ∙ ap (λ (l : List ℕ). overwrite_at k l p) (sym e) ∙ c.rest

  -- there is no room for those left
  pub laying-full : length p ≤ k → p ≡ overwrite_at a all o
  laying-full h = sym (overwrite-end k left p h) ∙ c.rest

-- ---- a list passed from its front on

-- a front of the list `all` has P, and those left stand behind it
pub record Front {A : Type 0} (P : List A → Type 0) (left all : List A) : Type 0 where
  pub front : List A
  pub whole : front ++ left ≡ all
  pub has : P front

module _ {A : Type 0} {P : List A → Type 0} {left all : List A} where
  pub front-start : P [] → left ≡ all → Front P left all
  front-start h e = record { front = []; whole = e; has = h }

  pub front-more : {Q : List A → Type 0} (s : List A) {rest : List A} → left ≡ s ++ rest → ((l : List A) → P l → Q (l ++ s)) → Front P left all → Front Q rest all
  front-more s {rest} e f c =
      record {
        front = c.front ++ s;
        whole = append_assoc c.front s rest ∙ ap (λ (l : List A). c.front ++ l) (sym e) ∙ c.whole;
        has = f c.front c.has;
      }

  pub front-all : left ≡ [] → Front P left all → P all
  front-all e c = subst P (sym (append-nil c.front) ∙ ap (λ (l : List A). c.front ++ l) (sym e) ∙ c.whole) c.has
