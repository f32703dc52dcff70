-- Elements by their place in a list. Assumes nothing.
use mathlib.Core.Path.{◌≡◌, refl, sym, ap, ap₂, ◌∙◌, subst}
use mathlib.Core.List.{List, [], ◌∷◌, ◌++◌, map, flat_map, append_assoc, Memᴰ}
use mathlib.Core.Option.{some, none-ne-some}
use Prim.Native.Nat.{ℕ, zero, suc, ◌+◌, ◌-◌, ◌≤◌, ◌<◌}
use native.Mathlib.Omega.{arith}
use native.Mathlib.Nat.{zero-add, suc-add}
use lib.ListN.{length, get_or, get_elem?, take, drop, length-take, length-drop}
use lib.Seq.{take-take, drop-cons, length-take-le, take-append_seam, drop-append_seam}
use native.Mathlib.Numerals.{add-one}

module _ {A : Type 0} where
  pub place-lt : (l : List A) (n : ℕ) (x : A) → get_elem? l n ≡ some x → n < length l
  place-lt [] n x e = absurd (none-ne-some x e)
  place-lt (y ∷ l) zero x e = omega arith
  place-lt (y ∷ l) (suc n) x e = let h : n < length l = place-lt l n x e in omega arith

  pub place-mem : (l : List A) (n : ℕ) (x : A) → get_elem? l n ≡ some x → Memᴰ x l
  place-mem [] n x e = absurd (none-ne-some x e)
  place-mem (y ∷ l) zero x e = Memᴰ.head {x = y} (cc)
  place-mem (y ∷ l) (suc n) x e = Memᴰ.tail (place-mem l n x e)

  place_of : (x : A) (l : List A) → Memᴰ x l → (n : ℕ) × (get_elem? l n ≡ some x)
  place_of x _ (Memᴰ.head e) = (0, ap some (sym e))
  place_of x _ (Memᴰ.tail {xs = l} m) = let r : (n : ℕ) × (get_elem? l n ≡ some x) = place_of x l m in (suc r.0, r.1)

  pub mem-place : (l : List A) (x : A) → Memᴰ x l → (n : ℕ) × (get_elem? l n ≡ some x)
  mem-place l x m = place_of x l m

  pub lt-place : (l : List A) (n : ℕ) → n < length l → (x : A) × (get_elem? l n ≡ some x)
  lt-place [] n h = absurd (omega arith)
  lt-place (y ∷ l) zero h = (y, refl)
  lt-place (y ∷ l) (suc n) h = lt-place l n (omega arith)

  pub place-left : (l m : List A) (n : ℕ) (x : A) → get_elem? l n ≡ some x → get_elem? (l ++ m) n ≡ some x
  place-left [] m n x e = absurd (none-ne-some x e)
  place-left (y ∷ l) m zero x e = e
  place-left (y ∷ l) m (suc n) x e = place-left l m n x e

  pub place-right : (l m : List A) (n : ℕ) → get_elem? (l ++ m) (length l + n) ≡ get_elem? m n
  place-right [] m n = rw zero-add
  place-right (y ∷ l) m n = rw (suc-add (length l) n) (place-right l m n)

module _ {A B : Type 0} where
  pub map_on : (f g : A → B) (l : List A) → ((x : A) → Memᴰ x l → f x ≡ g x) → map f l ≡ map g l
  map_on f g [] h = refl
  map_on f g (x ∷ l) h = ap₂ (λ (y : B) (m : List B). y ∷ m) (h x (Memᴰ.head refl)) (map_on f g l (λ y m. h y (Memᴰ.tail m)))

  pub map-map : {C : Type 0} (f : B → C) (g : A → B) (l : List A) → map f (map g l) ≡ map (λ (x : A). f (g x)) l
  map-map f g [] = refl
  map-map {C} f g (x ∷ l) = ap (λ (m : List C). f (g x) ∷ m) (map-map f g l)

  pub flat_map-append : (f : A → List B) (l m : List A) → flat_map f (l ++ m) ≡ flat_map f l ++ flat_map f m
  unfolding flat_map
  flat_map-append f [] m = refl
  flat_map-append f (x ∷ l) m = ap (λ (r : List B). f x ++ r) (flat_map-append f l m) ∙ sym (append_assoc (f x) (flat_map f l) (flat_map f m))

  pub map-place : (f : A → B) (l : List A) (n : ℕ) (x : A) → get_elem? l n ≡ some x → get_elem? (map f l) n ≡ some (f x)
  map-place f [] n x e = absurd (none-ne-some x e)
  map-place f (y ∷ l) zero x e = cc
  map-place f (y ∷ l) (suc n) x e = map-place f l n x e

  -- a place of the map is one of the list
  pub map_at : (f : A → B) (l : List A) (n : ℕ) (y : B) → get_elem? (map f l) n ≡ some y → (x : A) × (get_elem? l n ≡ some x) × (f x ≡ y)
  map_at f [] n y e = absurd (none-ne-some y e)
  map_at f (x ∷ l) zero y e = (x, refl, cc)
  map_at f (x ∷ l) (suc n) y e = map_at f l n y e

module _ {A : Type 0} where
  pub get_or-place : (d : A) (l : List A) (i : ℕ) (x : A) → get_elem? l i ≡ some x → get_or l i d ≡ x
  get_or-place d [] i x e = absurd (none-ne-some x e)
  get_or-place d (y ∷ l) zero x e = cc
  get_or-place d (y ∷ l) (suc i) x e = get_or-place d l i x e

  pub place-get_or : (d : A) (l : List A) (i : ℕ) → i < length l → get_elem? l i ≡ some (get_or l i d)
  place-get_or d l i h = let t = lt-place l i h in t.1 ∙ ap some (sym (get_or-place d l i t.0 t.1))

  -- within the list the element that stands for one past the end does not matter
  pub get_d_any : (l : List A) (i : ℕ) (d e : A) → i < length l → get_or l i d ≡ get_or l i e
  get_d_any l i d e h = get_or-place d l i (get_or l i e) (place-get_or e l i h)

  -- two lists are equal by their places
  pub ext-place : (l m : List A) → length l ≡ length m → ((i : ℕ) (x : A) → get_elem? l i ≡ some x → get_elem? m i ≡ some x) → l ≡ m
  ext-place [] [] e h = refl
  ext-place [] (y ∷ m) e h = absurd (omega arith)
  ext-place (x ∷ l) [] e h = absurd (omega arith)
  ext-place (x ∷ l) (y ∷ m) e h =
      let q : some y ≡ some x = h 0 x refl in
      ap₂ (λ (a : A) (r : List A). a ∷ r) (cc) (ext-place l m (omega arith) (λ i z p. h (suc i) z p))

-- ---- cut lists

module _ {A : Type 0} where
  -- what is left, as a loop goes on
  pub drop-next : (l : List A) (i : ℕ) (d : A) → i < length l → drop i l ≡ get_or l i d ∷ drop (i + 1) l
  drop-next l i d h = rw add-one (drop-cons l i d h)

  -- equal joins of equally long first parts have equal parts
  pub same_parts : (a c : List A) {b d : List A} → length a ≡ length c → a ++ b ≡ c ++ d → (a ≡ c) × (b ≡ d)
  same_parts a c {b} {d} l e = (
    sym (take-append_seam a b) ∙ ap₂ take l e ∙ take-append_seam c d,
    sym (drop-append_seam a b) ∙ ap₂ drop l e ∙ drop-append_seam c d,
  )

  -- the part from n to n + k is the run of k elements
  pub part-run : (n k : ℕ) (l : List A) → take (n + k - n) (drop n l) ≡ take k (drop n l)
  part-run n k l = let e : n + k - n ≡ k = omega arith in ap (λ (m : ℕ). take m (drop n l)) e

  -- a run of k elements that ends within the list
  pub length_run : (n k : ℕ) (l : List A) → n + k ≤ length l → length (take k (drop n l)) ≡ k
  length_run n k l h = length-take-le k (drop n l) (rw (length-drop n l) (omega arith))

  pub place-take : (n : ℕ) (l : List A) (i : ℕ) (x : A) → get_elem? (take n l) i ≡ some x → get_elem? l i ≡ some x
  place-take zero l i x e = absurd (none-ne-some x e)
  place-take (suc n) [] i x e = e
  place-take (suc n) (y ∷ l) zero x e = e
  place-take (suc n) (y ∷ l) (suc i) x e = place-take n l i x e

  pub take-place : (n : ℕ) (l : List A) (i : ℕ) → i < n → get_elem? (take n l) i ≡ get_elem? l i
  take-place zero l i h = absurd (omega arith)
  take-place (suc n) [] i h = refl
  take-place (suc n) (y ∷ l) zero h = refl
  take-place (suc n) (y ∷ l) (suc i) h = take-place n l i (omega arith)

  pub place-drop : (n : ℕ) (l : List A) (i : ℕ) → get_elem? (drop n l) i ≡ get_elem? l (n + i)
  place-drop zero l i = rw zero-add
  place-drop (suc n) [] i = refl
  place-drop (suc n) (y ∷ l) i = rw (suc-add n i) (place-drop n l i)

  -- a run within the front of a list
  pub run-within : (f c k : ℕ) (l : List A) → f + c ≤ k → take c (drop f (take k l)) ≡ take c (drop f l)
  run-within zero c k l h = take-take c k l (omega arith)
  run-within (suc f) c zero l h = absurd (omega arith)
  run-within (suc f) c (suc k) [] h = refl
  run-within (suc f) c (suc k) (y ∷ l) h = run-within f c k l (omega arith)

  -- where an element of a run stands in the list
  run-place : (n k : ℕ) (l : List A) (x : A) → Memᴰ x (take k (drop n l)) → (i : ℕ) × (i < k) × (get_elem? l (n + i) ≡ some x)
  run-place n k l x m =
      let t = mem-place (take k (drop n l)) x m in
      let u : t.0 < length (take k (drop n l)) = place-lt (take k (drop n l)) t.0 x t.1 in
      (t.0, omega (arith, u, length-take k (drop n l)), sym (place-drop n l t.0) ∙ place-take k (drop n l) t.0 x t.1)

  -- what stands in a run of the list stands in its front, where that reaches the run's end
  pub mem-run : (n k m : ℕ) (l : List A) (x : A) → n + k ≤ m → Memᴰ x (take k (drop n l)) → Memᴰ x (take m l)
  mem-run n k m l x h w =
      let r = run-place n k l x w in
      place-mem (take m l) (n + r.0) x (take-place m l (n + r.0) (omega (arith, r.1)) ∙ r.2)

  -- what holds of each place holds of each element of a run
  pub run-get_or : (d : A) (P : A → Type 0) (n k : ℕ) (l : List A) → ((i : ℕ) → P (get_or l i d)) → (x : A) → Memᴰ x (take k (drop n l)) → P x
  run-get_or d P n k l h x m = let r = run-place n k l x m in subst P (get_or-place d l (n + r.0) x r.2) (h (n + r.0))
