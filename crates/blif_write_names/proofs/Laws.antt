-- Text laid over an output slice: what fits, what does not, and one text behind another. Assumes nothing.
use mathlib.Core.Path.{◌≡◌, refl, sym, ◌∙◌, ap, subst}
use mathlib.Core.List.{[], ◌∷◌, ◌++◌}
use Prim.Native.Nat.{ℕ, ◌+◌, ◌-◌, ◌≤◌, ◌<◌}
use native.Mathlib.Omega.{arith}
use lib.ListN.{length, take, drop, set, take-append-drop, length-append, length-drop}
use lib.Seq.{length-take-le}
use Rattle.lists.specs.Lists.{Bytes, overwrite}
use Rattle.lists.specs.Between.Lists.{overwrite_at}
use Rattle.lists.proofs.OverAt.{length-overwrite_at, overwrite_at-nil, overwrite-append, part-is, part-laid}
use Rattle.lists.proofs.Laying.{one_store, overwrite-end}
use Rattle.lists.proofs.Tests.{by_order}
use Rattle.blif_write_names.specs.Between.Text.{Wrote, Appended}

-- what is behind a text that reaches the end is not laid
laid-past : (a : ℕ) (t s o : Bytes) → length o ≤ a + length t → overwrite_at a (t ++ s) o ≡ overwrite_at a t o
laid-past a t s o h = overwrite-append a t s o ∙ overwrite-end (a + length t) s (overwrite_at a t o) (omega (arith, length-overwrite_at a t o))

-- ---- from the slice's start on

pub wrote_nothing : {o : Bytes} → Wrote [] o o 0
wrote_nothing = record { out = refl; len = omega arith }

-- as much of the text as there is room for
pub wrote-cut : {s o p : Bytes} → length o < length s → p ≡ overwrite (take (length o) s) o → Wrote s o p (length o + 1)
wrote-cut {s} {o} {p} h e =
    let n : length (take (length o) s) ≡ length o = length-take-le (length o) s (omega arith) in
    record {
      out = e ∙ sym (laid-past 0 (take (length o) s) (drop (length o) s) o (omega arith)) ∙ ap (λ (l : Bytes). overwrite l o) (take-append-drop (length o) s);
      len = omega arith;
    }

-- the same text in other words
pub as-wrote : {t u o p : Bytes} {r : ℕ} → t ≡ u → Wrote t o p r → Wrote u o p r
as-wrote {o = o} {p = p} {r = r} e v = subst (λ (l : Bytes). Wrote l o p r) e v

-- ---- from a place on

pub append-past : {t o : Bytes} {a : ℕ} → length o < a → Appended t o a o (length o + 1)
append-past {t} {o} {a} h = record { out = sym (overwrite-end a t o (omega arith)); len = omega arith }

-- nothing more, and a byte more
pub append-none : {o : Bytes} {a : ℕ} → a ≤ length o → Appended [] o a o a
append-none {o} {a} h = record { out = sym (overwrite_at-nil a o); len = omega arith }

pub append-end : {o : Bytes} {a x : ℕ} → length o ≤ a → Appended (x ∷ []) o a o (length o + 1)
append-end {o} {a} {x} h = record { out = sym (overwrite-end a (x ∷ []) o h); len = omega arith }

pub append-one : {o : Bytes} {a x : ℕ} → a < length o → Appended (x ∷ []) o a (set o a x) (a + 1)
append-one {o} {a} {x} h = record { out = one_store a x o; len = omega arith }

-- what was written into what is left, lent as a part
pub append-room : {t o q : Bytes} {a r : ℕ} → a ≤ length o → Wrote t (take (length o - a) (drop a o)) q r
    → Appended t o a (take a o ++ (q ++ drop (length o - a) (drop a o))) (a + r)
append-room {t} {o} {q} {a} {r} h w = record { out = part-laid a t o h w.out; len = omega (arith, w.len, ap length (part-is a o), length-drop a o) }

-- at place 0 the two records say the same
pub from_start : {t o p : Bytes} {r : ℕ} → Appended t o 0 p r → Wrote t o p r
from_start v = record { out = v.out; len = omega (arith, v.len) }

pub to_start : {t o p : Bytes} {r : ℕ} → Wrote t o p r → Appended t o 0 p r
to_start v = record { out = v.out; len = omega (arith, v.len) }

pub append-kept : {t o p : Bytes} {a r : ℕ} → Appended t o a p r → length p ≡ length o
append-kept {t} {o} {p} {a} v = ap length v.out ∙ length-overwrite_at a t o

-- the same text in other words
pub as-text : {t u o p : Bytes} {a r : ℕ} → t ≡ u → Appended t o a p r → Appended u o a p r
as-text {o = o} {p = p} {a = a} {r = r} e v = subst (λ (l : Bytes). Appended l o a p r) e v

-- a part more, at the place after the text so far
pub and-append : {t s o p q : Bytes} {a b r : ℕ} → Appended t o a p b → Appended s p b q r → Appended (t ++ s) o a q r
and-append {t} {s} {o} {p} {q} {a} {b} {r} w v =
    let k : length p ≡ length o = append-kept w in
    by_order (a + length t) (length o)
    (λ h.
    let l : b ≡ a + length t = omega (arith, w.len) in
    record { out = v.out ∙ rw (l, w.out) (sym (overwrite-append a t s o)); len = omega (arith, v.len, w.len, length-append t s) })
    (λ h.
    let l : length p ≤ b = omega (arith, w.len) in
    record {
      out = v.out ∙ overwrite-end b s p l ∙ w.out ∙ sym (laid-past a t s o (omega arith));
      len = omega (arith, v.len, w.len, length-append t s);
    })
