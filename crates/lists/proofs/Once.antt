-- Lists without an element twice: a join, a part, a map of such lists is one. Assumes nothing.
use Rattle.std.specs.Prelude.{if◌then◌else◌}
use mathlib.Core.Path.{◌≡◌, refl, sym, ap, ◌∙◌, subst}
use mathlib.Core.Bool.{Bool, true, false}
use mathlib.Core.List.Memᴰ
use mathlib.Core.List.{List, [], ◌∷◌, ◌++◌, map, Memᴰ}
use mathlib.Core.Logic.{◌⊎◌, inl, inr, ⊎_elim}
use Rattle.lists.specs.Lists.{filter, Dup, here, there}

module _ {A : Type 0} where
  pub once-nil : Dup {A = A} [] → ⊥
  once-nil d = elim d [ ]

  pub dup-cases : {x : A} {l : List A} → Dup (x ∷ l) → Memᴰ x l ⊎ Dup l
  dup-cases (here m) = inl m
  dup-cases (there d) = inr d

  pub once-cons : {x : A} {l : List A} → (Memᴰ x l → ⊥) → (Dup l → ⊥) → Dup (x ∷ l) → ⊥
  once-cons h k d = ⊎_elim h k (dup-cases d)

  -- what is twice in one part, or in both, is twice in the join
  pub dup-left : (l r : List A) → Dup l → Dup (l ++ r)
  dup-left _ r (here m) = here (Memᴰ.append_left r m)
  dup-left _ r (there {l = l} d) = there (dup-left l r d)

  pub dup-right : (l r : List A) → Dup r → Dup (l ++ r)
  dup-right [] r d = d
  dup-right (x ∷ l) r d = there (dup-right l r d)

  dup_of : (x : A) (l r : List A) → Memᴰ x l → Memᴰ x r → Dup (l ++ r)
  dup_of x _ r (Memᴰ.head {xs = l} e) n = here (Memᴰ.append_right l (Memᴰ.cast (sym e) n))
  dup_of x _ r (Memᴰ.tail {xs = l} m) n = there (dup_of x l r m n)

  pub dup-both : (l r : List A) (x : A) → Memᴰ x l → Memᴰ x r → Dup (l ++ r)
  dup-both l r x m n = dup_of x l r m n

  -- and nothing else is
  pub dup-append : (l r : List A) → Dup (l ++ r) → Dup l ⊎ (Dup r ⊎ ((x : A) × Memᴰ x l × Memᴰ x r))
  dup-append [] r d = inr (inl d)
  dup-append (x ∷ l) r d = go d (dup-append l r)
    where
      go : Dup (x ∷ (l ++ r)) → (Dup (l ++ r) → Dup l ⊎ (Dup r ⊎ ((y : A) × Memᴰ y l × Memᴰ y r))) → Dup (x ∷ l) ⊎ (Dup r ⊎ ((y : A) × Memᴰ y (x ∷ l) × Memᴰ y r))
      go (here m) ih = ⊎_elim (λ (w : Memᴰ x l). inl (here w)) (λ (w : Memᴰ x r). inr (inr (x, Memᴰ.head refl, w))) (Memᴰ.append_cases l m)
      go (there e) ih = ⊎_elim (λ (w : Dup l). inl (there w)) (λ w. ⊎_elim (λ (v : Dup r). inr (inl v)) (λ v. inr (inr (v.0, Memᴰ.tail v.1, v.2))) w) (ih e)

  pub once-append : (l m : List A) → (Dup l → ⊥) → (Dup m → ⊥) → ((x : A) → Memᴰ x l → Memᴰ x m → ⊥) → Dup (l ++ m) → ⊥
  once-append l m h k a d = ⊎_elim h (λ w. ⊎_elim k (λ v. a v.0 v.1 v.2) w) (dup-append l m d)

  mem_kept : (p : A → Bool) (x : A) (l : List A) → Memᴰ x l → p x ≡ true → Memᴰ x (filter p l)
  mem_kept p x _ (Memᴰ.head {x = y} {xs = l} e) t = subst (λ (b : Bool). Memᴰ x (if b then y ∷ filter p l else filter p l)) (sym (ap p (sym e) ∙ t)) (Memᴰ.head e)
  mem_kept p x _ (Memᴰ.tail {x = y} {xs = l} m) t = go (p y) (mem_kept p x l m t)
    where
      go : (b : Bool) → Memᴰ x (filter p l) → Memᴰ x (if b then y ∷ filter p l else filter p l)
      go true w = Memᴰ.tail w
      go false w = w

  pub filter-mem : (p : A → Bool) (l : List A) (x : A) → Memᴰ x l → p x ≡ true → Memᴰ x (filter p l)
  filter-mem p l x m t = mem_kept p x l m t

  pub mem-filter : (p : A → Bool) (l : List A) (x : A) → Memᴰ x (filter p l) → Memᴰ x l
  mem-filter p [] x m = m
  mem-filter p (y ∷ l) x m = go (p y) m (mem-filter p l x)
    where
      go : (b : Bool) → Memᴰ x (if b then y ∷ filter p l else filter p l) → (Memᴰ x (filter p l) → Memᴰ x l) → Memᴰ x (y ∷ l)
      go true w ih = ⊎_elim (λ (e : x ≡ y). Memᴰ.head e) (λ (v : Memᴰ x (filter p l)). Memᴰ.tail (ih v)) (Memᴰ.cases_cons w)
      go false w ih = Memᴰ.tail (ih w)

  pub once-filter : (p : A → Bool) (l : List A) → (Dup l → ⊥) → Dup (filter p l) → ⊥
  once-filter p [] h d = h d
  once-filter p (y ∷ l) h d = go (p y) d (once-filter p l (λ w. h (there w)))
    where
      go : (b : Bool) → Dup (if b then y ∷ filter p l else filter p l) → (Dup (filter p l) → ⊥) → ⊥
      go true w ih = ⊎_elim (λ (v : Memᴰ y (filter p l)). h (here (mem-filter p l y v))) ih (dup-cases w)
      go false w ih = ih w

module _ {A B : Type 0} (f : A → B) (inj : (x y : A) → f x ≡ f y → x ≡ y) where
  mem-back : (x : A) (l : List A) → Memᴰ (f x) (map f l) → Memᴰ x l
  mem-back x l m = let t = Memᴰ.of_map f l m in Memᴰ.cast (sym (inj t.0 x t.2)) t.1

  pub once-map : (l : List A) → (Dup l → ⊥) → Dup (map f l) → ⊥
  once-map [] h d = once-nil d
  once-map (x ∷ l) h d = ⊎_elim (λ (m : Memᴰ (f x) (map f l)). h (here (mem-back x l m))) (λ (w : Dup (map f l)). once-map l (λ v. h (there v)) w) (dup-cases d)
