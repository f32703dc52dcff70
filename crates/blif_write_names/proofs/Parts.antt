-- Loops that write a text byte after byte or part after part. Assumes nothing.
use mathlib.Core.Path.{◌≡◌, refl, sym, ◌∙◌, ap}
use mathlib.Core.List.{[], ◌∷◌, ◌++◌}
use Prim.Native.Nat.{ℕ, suc, ◌+◌, ◌-◌, ◌≤◌, ◌<◌}
use native.Mathlib.Nat.{sub-zero}
use native.Mathlib.Numerals.{add-one}
use native.Mathlib.Omega.{arith}
use lib.ListN.{length, take, drop, set, length-take, length-drop}
use Rattle.lists.specs.Lists.{Bytes}
use Rattle.lists.proofs.Laying.{overwrite-end, Laying, laying-start, laying-next, laying-done, laying-full, Front, front-start, front-more, front-all}
use Rattle.blif_write_names.specs.Between.Text.{Wrote, Appended}
use Rattle.blif_write_names.proofs.Laws.{append-none, append-room, append-kept, and-append, as-text}

-- ---- byte after byte

-- i bytes of s are written to the front of o, which is p now; those left are not
pub record Putting (s o left p : Bytes) (i : ℕ) : Type 0 where
  pub counted : i + length left ≡ length s
  pub within : i ≤ length o
  pub laying : Laying s o 0 left p i

pub putting-start : {s left o : Bytes} → left ≡ s → Putting s o left o 0
putting-start e = record { counted = omega (arith, ap length e); within = omega arith; laying = laying-start e refl }

module _ {s o left p : Bytes} {i : ℕ} (c : Putting s o left p i) where
  pub putting-kept : length p ≡ length o
  putting-kept = c.laying.kept

  pub putting-next : {x : ℕ} {more : Bytes} → left ≡ x ∷ more → i < length p → Putting s o more (set p i x) (i + 1)
  putting-next e h =
      record { counted = omega (arith, c.counted, ap length e); within = omega (arith, putting-kept); laying = laying-next c.laying e refl }

  -- there is no room for the next
  pub putting-full : {x : ℕ} {more : Bytes} → left ≡ x ∷ more → length p ≤ i → Wrote s o p (i + 1)
  putting-full e h =
      record { out = laying-full c.laying h; len = omega (arith, c.counted, c.within, putting-kept, ap length e) }

  -- none is left
  pub putting-done : left ≡ [] → Wrote s o p i
  putting-done e = record { out = laying-done c.laying e; len = omega (arith, c.counted, c.within, ap length e) }

-- ---- part after part

-- of the text w, all but `left` is written from place a of o on, which is p now; `at` is the place after it
abbrev pub NamingSoFar : Bytes → Bytes → Bytes → ℕ → Bytes → ℕ → Type 0
NamingSoFar w left o a p at = Front (λ (t : Bytes). Appended t o a p at) left w

pub going_start : {w left o : Bytes} {a : ℕ} → left ≡ w → a ≤ length o → NamingSoFar w left o a o a
going_start e h = front-start (append-none h) e

module _ {w left o p : Bytes} {a at : ℕ} (g : NamingSoFar w left o a p at) where
  pub going-kept : length p ≡ length o
  going-kept = append-kept g.has

  pub going-append : {s rest q : Bytes} {r : ℕ} → left ≡ s ++ rest → Appended s p at q r → NamingSoFar w rest o a q r
  going-append {s} e v = front-more s e (λ t u. and-append u v) g

  pub going-part : {s rest q : Bytes} {r : ℕ} → left ≡ s ++ rest → at ≤ length p → Wrote s (take (length p - at) (drop at p)) q r
      → NamingSoFar w rest o a (take at p ++ (q ++ drop (length p - at) (drop at p))) (at + r)
  going-part e h v = going-append e (append-room h v)

  -- the place after a part is at most one past the end
  pub going-high : {s q : Bytes} {r : ℕ} → at ≤ length p → Wrote s (take (length p - at) (drop at p)) q r → at + r ≤ length o + 1
  going-high h v = omega (arith, v.len, length-take (length p - at) (drop at p), length-drop at p, going-kept)

  -- there is no room for what is left
  pub going-full : length p < at → Appended w o a p at
  going-full h =
      let k : length p ≡ length o = going-kept in
      let v : Appended left p at p at = record { out = sym (overwrite-end at left p (omega arith)); len = omega (arith, g.has.len) } in
      as-text g.whole (and-append g.has v)

  -- nothing is left
  pub going_done : left ≡ [] → Appended w o a p at
  going_done e = front-all e g

-- ---- parts by their numbers

-- a text of n parts: f i k is that of k of them from part i on
pub record Parts (n : ℕ) (f : ℕ → ℕ → Bytes) (part : ℕ → Bytes) : Type 0 where
  pub more : (i k : ℕ) → i < n → f i (suc k) ≡ part i ++ f (suc i) k
  pub none : (i : ℕ) → n ≤ i → f i 0 ≡ []

-- the parts before part i are written
pub record Before (f : ℕ → ℕ → Bytes) (n : ℕ) (o : Bytes) (a : ℕ) (p : Bytes) (at i : ℕ) : Type 0 where
  pub within : i ≤ n
  pub going : NamingSoFar (f 0 n) (f i (n - i)) o a p at

pub before-start : {f : ℕ → ℕ → Bytes} {n : ℕ} {o : Bytes} {a : ℕ} → a ≤ length o → Before f n o a o a 0
before-start {f} {n} h = record { within = omega arith; going = going_start (ap (f 0) (sub-zero n)) h }

module _ {f : ℕ → ℕ → Bytes} {part : ℕ → Bytes} {n : ℕ} {o : Bytes} {a : ℕ} {p : Bytes} {at i : ℕ} (s : Parts n f part) (c : Before f n o a p at i) where
  pub before-next : {q : Bytes} {r : ℕ} → i < n → Appended (part i) p at q r → Before f n o a q r (i + 1)
  before-next h v =
      let k : n - i ≡ suc (n - (i + 1)) = omega arith in
      let e : f i (n - i) ≡ part i ++ f (i + 1) (n - (i + 1)) =
      ap (f i) k ∙ s.more i (n - (i + 1)) h ∙ ap (λ (j : ℕ). part i ++ f j (n - (i + 1))) (sym (add-one i)) in
      record { within = omega arith; going = going-append c.going e v }

  -- the same, where what is left was lent as a part
  pub before-part : {q : Bytes} {r : ℕ} → i < n → at ≤ length p → Wrote (part i) (take (length p - at) (drop at p)) q r
      → Before f n o a (take at p ++ (q ++ drop (length p - at) (drop at p))) (at + r) (i + 1)
  before-part h k v = before-next h (append-room k v)

  pub before-done : n ≤ i → Appended (f 0 n) o a p at
  before-done h = let k : n - i ≡ 0 = omega arith in going_done c.going (ap (f i) k ∙ s.none i h)
