-- Lists, as every layer above uses them. Assumes nothing: these are definitions.
use Rattle.std.specs.Prelude.{Bool, true, false, ◌&&◌, ◌||◌, cond, ℕ, zero, suc, ◌+◌, eqb, replicate, if◌then◌else◌}
use mathlib.Core.List.{List, [], ◌∷◌, Memᴰ}
use Rattle.std.proofs.Math.Option.{Option, none, some, map}
use Prim.Native.Char.{code}
use Prim.Native.String.{String}

-- the bytes of a text, each below 256; a slice of bytes at entry or exit is such a list
abbrev pub Bytes : Type 0
Bytes = List ℕ

-- the bytes of a quoted text, which is ASCII
abbrev pub bytes : String → Bytes
bytes String.[] = []
bytes (String.◌∷◌ c s) = code c ∷ bytes s

-- whether two lists of bytes are equal: "compared byte for byte"
unfoldable pub same : Bytes → Bytes → Bool
same [] [] = true
same [] (y ∷ t) = false
same (x ∷ s) [] = false
same (x ∷ s) (y ∷ t) = eqb x y && same s t

-- what a function makes of a value that may be left out; else the other
abbrev pub optional : {A B : Type 0} → (A → B) → B → Option A → B
optional f d none = d
optional f d (some x) = f x

-- n zeros: what a refusal leaves in a slice of length n, and a success beyond what it fills
abbrev pub zeros : ℕ → List ℕ
zeros n = replicate n 0

-- whether every element passes the test
abbrev pub all : {A : Type 0} → (A → Bool) → List A → Bool
all p [] = true
all p (x ∷ l) = p x && all p l

-- whether some element passes the test
abbrev pub any : {A : Type 0} → (A → Bool) → List A → Bool
any p [] = false
any p (x ∷ l) = p x || any p l

-- the elements that pass the test, in order
abbrev pub filter : {A : Type 0} → (A → Bool) → List A → List A
filter p [] = []
filter p (x ∷ l) = if p x then x ∷ filter p l else filter p l

-- what a function makes of the elements, added up
abbrev pub sum_of : {A : Type 0} → (A → ℕ) → List A → ℕ
sum_of f [] = 0
sum_of f (x ∷ l) = f x + sum_of f l

-- the number is one of these
abbrev pub elem : ℕ → List ℕ → Bool
elem n l = any (eqb n) l

-- the bytes are one of these
abbrev pub known : Bytes → List Bytes → Bool
known x l = any (same x) l

-- k numbers from n upwards
abbrev pub range : ℕ → ℕ → List ℕ
range n zero = []
range n (suc k) = n ∷ range (suc n) k

-- f 0 + f 1 + .. + f (k - 1)
abbrev pub sum_to : ℕ → (ℕ → ℕ) → ℕ
sum_to zero f = 0
sum_to (suc k) f = sum_to k f + f k

-- 1 where the two numbers are the same, else 0
unfoldable pub hit : ℕ → ℕ → ℕ
hit v x = cond (eqb v x) 1 0

-- how often v stands in the list
abbrev pub occ : ℕ → List ℕ → ℕ
occ v l = sum_of (hit v) l

-- the list t laid over the front of o, cut where o ends: what a function that fills a slice from its front leaves of it
abbrev pub overwrite : List ℕ → List ℕ → List ℕ
overwrite [] o = o
overwrite (x ∷ t) [] = []
overwrite (x ∷ t) (y ∷ o) = x ∷ overwrite t o

-- an element stands again further on: "a name is defined twice"
pub data Dup {A : Type 0} : List A → Type 0 where
  here : {x : A} {l : List A} → Memᴰ x l → Dup (x ∷ l)
  there : {x : A} {l : List A} → Dup l → Dup (x ∷ l)

-- the first place of an element that passes the test: "a search through earlier definitions"
abbrev pub find : {A : Type 0} → (A → Bool) → List A → Option ℕ
find p [] = none
find p (x ∷ l) = if p x then some 0 else map suc (find p l)
