-- The tests of a keyword, one after the other. Assumes nothing.
use Rattle.std.specs.Prelude.{if◌then◌else◌}
use mathlib.Core.Path.{◌≡◌, refl, sym, ap, ◌∙◌}
use mathlib.Core.Bool.{Bool, true, false}
use mathlib.Core.List.{List, [], ◌∷◌, ◌++◌, head_d}
use Prim.Native.Nat.{ℕ, suc, ◌<◌}
use native.Mathlib.Omega.{arith}
use lib.Dec.{eqb}
use lib.ListN.{get_or, take, drop, take-append-drop}
use lib.Seq.{drop-cons}
use Rattle.lists.specs.Lists.{Bytes, any, same}
use Rattle.std.specs.List.{starts_with}
use Rattle.std.proofs.lemmas.Bool.Decides.{nat_tests}
use Rattle.lists.proofs.Tests.{by-test, and-true, or_left, or_right}
use Rattle.blif_text.specs.Keywords.{Spelling, spelling, keywords, leading_dot, keyword_among, keyword_of}
use Rattle.blif_text.specs.declared.Keyword.{Keyword}
use Rattle.blif_text.specs.declared.Keyword.TheVariants as key

-- name j
abbrev pub name_at : ℕ → Spelling
name_at j = get_or keywords j (spelling [] key.Cube)

-- the definition tries them all
keyword-tests : (k : Bytes) → keyword_of k ≡ keyword_among keywords k
unfolding keyword_of
keyword-tests k = refl

-- ---- keywords tried

-- the token is none of these keywords
pub data NoneOf (k : Bytes) : List Spelling → Type 0 where
  none : NoneOf k []
  other : {n : Spelling} {ns : List Spelling} {b : Bool} → b ≡ same k n.name → b ≡ false → NoneOf k ns → NoneOf k (n ∷ ns)

-- the others are left
tests_left : {k : Bytes} (ns ms : List Spelling) → NoneOf k ns → keyword_among (ns ++ ms) k ≡ keyword_among ms k
tests_left [] ms none = refl
tests_left {k} (n ∷ ns) ms (other e f h) = ap (λ (b : Bool). if b then n.keyword else keyword_among (ns ++ ms) k) (sym e ∙ f) ∙ tests_left ns ms h

-- the token is name j
pub is_name : {k : Bytes} {b : Bool} (j : ℕ) → j < 7 → NoneOf k (take j keywords) → b ≡ same k (name_at j).name → b ≡ true → (name_at j).keyword ≡ keyword_of k
is_name {k} j l h e f =
    sym
    (keyword-tests k
    ∙ ap (λ (ns : List Spelling). keyword_among ns k) (sym (take-append-drop j keywords))
    ∙ tests_left (take j keywords) (drop j keywords) h
    ∙ ap (λ (ns : List Spelling). keyword_among ns k) (drop-cons keywords j (spelling [] key.Cube) l)
    ∙ ap (λ (b : Bool). if b then (name_at j).keyword else keyword_among (drop (suc j) keywords) k) (sym e ∙ f))

pub ruleset tried = (none, other)

-- ---- the first byte

-- the first byte tells
dot-either : (c : ℕ) → eqb 46 c ≡ eqb c 46
dot-either c = grind (arith, nat_tests)

pub starts-dot : (k : Bytes) → starts_with eqb k (46 ∷ []) ≡ leading_dot k
unfolding head_d
starts-dot [] = refl
starts-dot (c ∷ k) = simp (dot-either, and-true)

-- a leading dot, and none of the keywords, of which the last is told apart: a search for all seven takes too long
pub dot-first : {k : Bytes} {b : Bool} → NoneOf k (take 6 keywords) → b ≡ same k (name_at 6).name → b ≡ false → leading_dot k ≡ true → key.Unsupported ≡ keyword_of k
dot-first {k} h e f d =
    sym
    (keyword-tests k
    ∙ tests_left (take 6 keywords) (drop 6 keywords) h
    ∙ tests_left (drop 6 keywords) [] (other e f none)
    ∙ rw d)

-- no leading dot: no keyword
pub no-dot-first : (k : Bytes) → leading_dot k ≡ false → keyword_of k ≡ key.Cube
unfolding keyword_of same head_d
no-dot-first [] f = refl
no-dot-first (c ∷ k) f = rw f

-- whether a keyword is that of cube lines
cube_key : Keyword → Bool
cube_key key.Model = false
cube_key key.Inputs = false
cube_key key.Outputs = false
cube_key key.Latch = false
cube_key key.Names = false
cube_key key.End = false
cube_key key.Exdc = false
cube_key key.Unsupported = false
cube_key key.Cube = true

-- where none of these is, a token with a leading dot is none
dot-among : (ns : List Spelling) (k : Bytes) → leading_dot k ≡ true → any (λ (n : Spelling). cube_key n.keyword) ns ≡ false → cube_key (keyword_among ns k) ≡ false
unfolding cube_key
dot-among [] k d a = rw d
dot-among (n ∷ ns) k d a =
    by-test (same k n.name)
    (λ t. rw t (or_left (cube_key n.keyword) (any (λ (m : Spelling). cube_key m.keyword) ns) a))
    (λ t. rw t (dot-among ns k d (or_right (cube_key n.keyword) (any (λ (m : Spelling). cube_key m.keyword) ns) a)))

-- a leading dot: no cube line
pub dot-no-cube : (k : Bytes) → leading_dot k ≡ true → key.Cube ≡ keyword_of k → ⊥
unfolding cube_key
dot-no-cube k d e =
    let q : true ≡ false = ap cube_key (e ∙ keyword-tests k) ∙ dot-among keywords k d refl in
    let z : ◌≡◌ {A = ℕ} 0 1 = cc in
    omega arith
