-- The lines of a text, from the places where each ends. Assumes nothing.
use mathlib.Core.Path.{◌≡◌, refl, sym, ap, ap₂, ◌∙◌}
use mathlib.Core.Bool.{Bool, true, false}
use mathlib.Core.List.{List, [], ◌∷◌, flat_map}
use mathlib.Core.Logic.{⊎_elim}
use Prim.Native.Nat.{ℕ, suc, ◌+◌, ◌-◌, ◌≤◌, ◌<◌}
use native.Mathlib.Omega.{arith}
use lib.Dec.{eqb}
use lib.ListN.{length, get_or, take, drop, length-drop, drop_of_length-le}
use lib.Seq.{drop-cons, drop-drop, get_or-drop, get_or-take, split_at, take_all, length-take-le}
use borrow.Author.Tests.{eqb-true, eqb-false}
use Rattle.lists.specs.Lists.{Bytes, any}
use Rattle.lists.proofs.Tests.{by-test}
use Rattle.blif_text.specs.Lines.{cons_first, split}
use Rattle.blif_text.specs.Between.Scan.{NoneTo, LineAfter}
use Rattle.blif_text.proofs.Parts.{Without, split-end, split-last}
use Rattle.blif_text.proofs.Splitting.{ended}

-- no byte at any place passes the test
any-places : (p : ℕ → Bool) (w : Bytes) → ((j : ℕ) → j < length w → p (get_or w j 0) ≡ false) → any p w ≡ false
any-places p [] f = refl
any-places p (c ∷ w) f = rw (f 0 (omega arith), any-places p w (λ j h. f (suc j) (omega arith)))

-- a run in which no byte passes the test
run-without : {p : ℕ → Bool} {t : Bytes} {at end : ℕ} → NoneTo p t at end → Without p (take (end - at) (drop at t))
run-without {p} {t} {at} {end} n =
    let long : length (take (end - at) (drop at t)) ≡ end - at = length-take-le (end - at) (drop at t) (omega (arith, n.high, length-drop at t)) in
    any-places p (take (end - at) (drop at t))
    (λ j h.
    let same : get_or (take (end - at) (drop at t)) j 0 ≡ get_or t (at + j) 0 = get_or-take (end - at) (drop at t) j 0 (omega (arith, h, long)) ∙ get_or-drop at t j 0 in
    ap p same ∙ n.none (at + j) (omega arith) (omega (arith, h, long)))

-- ---- the next line

-- the line at a place within the text, and where the next one starts
pub record LineAt (t : Bytes) (at next : ℕ) : Type 0 where
  pub low : at < next
  pub high : next ≤ length t
  pub line : Bytes
  pub cuts : split (eqb 10) (drop at t) ≡ line ∷ split (eqb 10) (drop next t)

-- the same, where an LF ends the line
pub record EndedAt (t : Bytes) (at next : ℕ) : Type 0 where
  pub low : at < next
  pub high : next ≤ length t
  pub cuts : split (eqb 10) (drop at t) ≡ take (next - 1 - at) (drop at t) ∷ split (eqb 10) (drop next t)

module _ {t : Bytes} {at next : ℕ} (l : LineAfter t at next) (inside : at < length t) where
  abbrev none : NoneTo (eqb 10) t at l.end
  none = l.to.passed

  abbrev k : ℕ
  k = l.end - at

  by-lf : l.end < length t → next ≡ l.end + 1 → EndedAt t at next
  by-lf h e =
      let inner : k < length (drop at t) = omega (arith, none.low, length-drop at t) in
      let place : at + k ≡ l.end = omega (arith, none.low) in
      let after : at + suc k ≡ next = omega (arith, none.low) in
      let byte : eqb 10 (get_or (drop at t) k 0) ≡ true = ap (eqb 10) (get_or-drop at t k 0 ∙ ap (λ (i : ℕ). get_or t i 0) place) ∙ l.to.stop h in
      let rest : drop (suc k) (drop at t) ≡ drop next t = drop-drop (suc k) at t ∙ ap (λ (i : ℕ). drop i t) after in
      let width : k ≡ next - 1 - at = omega arith in
      record {
        low = omega (arith, none.low);
        high = omega arith;
        cuts =
            ap (split (eqb 10)) (split_at (drop at t) k 0 inner)
            ∙ split-end (eqb 10) (take k (drop at t)) (get_or (drop at t) k 0) (drop (suc k) (drop at t)) (run-without none) byte
            ∙ ap₂ (λ (w s : Bytes). w ∷ split (eqb 10) s) (ap (λ (j : ℕ). take j (drop at t)) width) rest;
      }

  -- the last line, without an LF
  last : length t ≤ l.end → next ≡ l.end → LineAt t at next
  unfolding split
  last h e =
      let all : take k (drop at t) ≡ drop at t = take_all k (drop at t) (omega (arith, none.low, length-drop at t)) in
      let shown : drop at t ≡ get_or t at 0 ∷ drop (suc at) t = drop-cons t at 0 inside in
      let past : length t ≤ next = omega arith in
      let nothing : drop next t ≡ [] = drop_of_length-le t past in
      let free : Without (eqb 10) (get_or t at 0 ∷ drop (suc at) t) = ap (any (eqb 10)) (sym (all ∙ shown)) ∙ run-without none in
      record {
        low = omega arith;
        high = omega (arith, none.high);
        line = drop at t;
        cuts =
            ap (split (eqb 10)) shown
            ∙ split-last (eqb 10) (get_or t at 0) (drop (suc at) t) free
            ∙ ap₂ (λ (w : Bytes) (ws : List Bytes). w ∷ ws) (sym shown) (sym (ap (split (eqb 10)) nothing));
      }

  -- the next line of any text
  pub line_at : LineAt t at next
  line_at =
      ⊎_elim
      (λ h. let x = by-lf h.0 h.1 in record { low = x.low; high = x.high; line = take (next - 1 - at) (drop at t); cuts = x.cuts })
      (λ h. last h.0 h.1) l.is

  -- the next line of a text whose last byte is an LF
  pub ended_at : get_or t (length t - 1) 0 ≡ 10 → EndedAt t at next
  ended_at z =
      ⊎_elim (λ h. by-lf h.0 h.1)
      (λ h. absurd (eqb-false 10 (get_or t (length t - 1) 0) (none.none (length t - 1) (omega arith) (omega (arith, h.0))) (sym z))) l.is

-- ---- counting lines

-- n lines stand before at
pub record Counted (t : Bytes) (n at : ℕ) : Type 0 where
  pub inside : at ≤ length t
  pub few : n ≤ at
  pub whole : length (split (eqb 10) t) ≡ n + length (split (eqb 10) (drop at t))

pub count_next : {t : Bytes} {n at next : ℕ} → Counted t n at → at < length t → LineAfter t at next → Counted t (n + 1) next
count_next {t} {n} {at} {next} c h l =
    let x = line_at l h in
    record { inside = x.high; few = omega (arith, c.few, x.low); whole = omega (arith, c.whole, ap length x.cuts) }

pub count-done : {t : Bytes} {n at : ℕ} → Counted t n at → length t ≤ at → n ≡ length (split (eqb 10) t)
unfolding split
count-done {t} {n} {at} c h =
    let nothing : drop at t ≡ [] = drop_of_length-le t h in
    omega (arith, c.whole, ap (λ (s : Bytes). length (split (eqb 10) s)) nothing)

-- ---- back to the text

-- an LF is the last byte, if there is one
abbrev pub Closed : Bytes → Type 0
Closed t = (n : ℕ) → suc n ≡ length t → get_or t n 0 ≡ 10

first_more : (c : ℕ) (s : Bytes) (ls : List Bytes) → (ls ≡ [] → ⊥) → ended ls ≡ s → ended (cons_first c ls) ≡ c ∷ s
unfolding cons_first flat_map
first_more c s [] f e = absurd (f refl)
first_more c s (l ∷ ls) f e = ap (λ (x : Bytes). c ∷ x) e

-- a text that is not empty has a line
some-line : (c : ℕ) (s : Bytes) → split (eqb 10) (c ∷ s) ≡ [] → ⊥
unfolding split cons_first
some-line c s e = by-test (eqb 10 c) (λ h. let y : suc (length (split (eqb 10) s)) ≡ 0 = ap length (rw h at e) in omega arith) (λ h. by (split (eqb 10) s) (rw h at e))
  where
    by : (ls : List Bytes) → cons_first c ls ≡ [] → ⊥
    by [] e = let y : suc 0 ≡ 0 = ap length e in omega arith
    by (l ∷ ls) e = let y : suc (length ls) ≡ 0 = ap length e in omega arith

-- a text whose last byte is an LF is its lines, each with an LF behind it
pub lines-again : (t : Bytes) → Closed t → ended (split (eqb 10) t) ≡ t
unfolding split flat_map
lines-again [] f = refl
lines-again (c ∷ s) f =
    let rest = lines-again s (λ n h. f (suc n) (ap suc h)) in
    by-test (eqb 10 c)
    (λ h. let e : 10 ≡ c = eqb-true 10 c h in rw h (ap₂ (λ (x : ℕ) (y : Bytes). x ∷ y) e rest))
    (λ h. rw h (first_more c s (split (eqb 10) s) (more s f h) rest))
  where
    more : (s : Bytes) → Closed (c ∷ s) → eqb 10 c ≡ false → split (eqb 10) s ≡ [] → ⊥
    more [] f h e = eqb-false 10 c h (sym (f 0 refl))
    more (b ∷ s) f h e = some-line b s e
