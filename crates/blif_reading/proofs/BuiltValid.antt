-- The network built for a model whose names are defined has valid signals, with or without a loop. Assumes nothing.
use mathlib.Core.Path.{◌≡◌, refl, sym, ap, ◌∙◌, subst}
use mathlib.Core.List.Memᴰ
use mathlib.Core.List.{List, [], ◌∷◌, ◌++◌, map, Memᴰ}
use mathlib.Core.Option.{Option, none, some}
use mathlib.Core.Logic.{inl, inr}
use Prim.Native.Nat.{ℕ, zero, suc, ◌+◌, ◌≤◌, ◌<◌}
use native.Mathlib.Omega.{arith}
use lib.ListN.{length, get_elem?, length-append}
use Rattle.lists.specs.Lists.{optional}
use Rattle.signal.specs.Signal.{Node, Const, Input, Var, Signal, one_s, zero_s}
use Rattle.gates.specs.Gate.{Gate, pins}
use Rattle.network.specs.Net.{Valid, ValidNode}
use Rattle.blif_meaning.specs.Model.{Line, Block, Latch, Cover, Model}
use Rattle.blif_reading.specs.Build.{line_gate, block_gate, new_gates, block_gates, all_new_gates, build}
use Rattle.blif_meaning.specs.WellFormed.{opt_name, sources, Defined, Closed}
use Rattle.blif_reading.proofs.Lookups.{Looks}
use Rattle.lists.proofs.Places.{place-lt}
use Rattle.blif_reading.proofs.ModelToBuilt.{block_gates-length}
use Rattle.blif_reading.proofs.CoverPins.{All, all_nil, all_cons, literals-all, line-all, cover_all, lit-source}

module _ {Name : Type 0} (signal_of : Name → Signal) (ins total : ℕ) where
  abbrev In : Node → Type 0
  In Const = Unit {0}
  In (Input i) = i < ins
  In (Var h) = h < total

  abbrev GateIn : Gate → Type 0
  GateIn x = All In tt (pins x)

  -- along a list
  abbrev AllIn : List Gate → Type 0
  AllIn [] = Unit {0}
  AllIn (x ∷ xs) = GateIn x × AllIn xs

  abbrev NamesIn : Block Name → Type 0
  NamesIn b = (x : Name) → Memᴰ x (sources b) → In (signal_of x).node

  abbrev AllNames : List (Block Name) → Type 0
  AllNames [] = Unit {0}
  AllNames (b ∷ bs) = NamesIn b × AllNames bs

  all_append : (xs ys : List Gate) → AllIn xs → AllIn ys → AllIn (xs ++ ys)
  all_append [] ys a b = b
  all_append (x ∷ xs) ys a b = (a.0, all_append xs ys a.1 b)

  opt-in : (e : Option Name) (s : Signal) → In s.node → ((x : Name) → Memᴰ x (opt_name e) → In (signal_of x).node) → In (optional signal_of s e).node
  opt-in none s p h = p
  opt-in (some x) s p h = h x (Memᴰ.head refl)

  main-in : (k : ℕ) (b : Block Name) → NamesIn b → ((i : ℕ) → i < length (new_gates signal_of b) → k + i < total) → GateIn (block_gate signal_of k b)
  main-in k (Latch l) h r =
      all_cons In tt (signal_of l.input) (optional signal_of one_s l.enable ∷ optional signal_of zero_s l.reset ∷ []) (h l.input (Memᴰ.head refl))
      (all_cons In tt (optional signal_of one_s l.enable) (optional signal_of zero_s l.reset ∷ []) (opt-in l.enable one_s tt (λ x m. h x (Memᴰ.tail (Memᴰ.append_left (opt_name l.reset) m))))
      (all_cons In tt (optional signal_of zero_s l.reset) [] (opt-in l.reset zero_s tt (λ x m. h x (Memᴰ.tail (Memᴰ.append_right (opt_name l.enable) m)))) (all_nil In tt)))
  main-in k (Cover xs y ls) h r = cover_all In tt k (map signal_of xs) ls (λ l w. literals-all In tt signal_of l.cols xs (λ x m. h x (lit-source l.cols xs x m))) r

  block_gates-in : (k : ℕ) (bs : List (Block Name)) → AllNames bs → k + length (all_new_gates signal_of bs) ≤ total → AllIn (block_gates signal_of k bs)
  block_gates-in k [] h u = tt
  block_gates-in k (b ∷ bs) h u =
      let e : length (new_gates signal_of b ++ all_new_gates signal_of bs) ≡ length (new_gates signal_of b) + length (all_new_gates signal_of bs) = length-append (new_gates signal_of b) (all_new_gates signal_of bs) in
      (main-in k b h.0 (λ i v. omega arith), block_gates-in (k + length (new_gates signal_of b)) bs h.1 (omega arith))

  lines-in : (xs : List Name) (ls : List Line) → ((x : Name) → Memᴰ x xs → In (signal_of x).node) → AllIn (map (line_gate (map signal_of xs)) ls)
  lines-in xs [] h = tt
  lines-in xs (l ∷ ls) h = (line-all In tt (map signal_of xs) l (literals-all In tt signal_of l.cols xs (λ x m. h x (lit-source l.cols xs x m))), lines-in xs ls h)

  more-in : (b : Block Name) → NamesIn b → AllIn (new_gates signal_of b)
  more-in (Latch l) h = tt
  more-in (Cover xs y []) h = tt
  more-in (Cover xs y (l ∷ [])) h = tt
  more-in (Cover xs y (l ∷ k ∷ ls)) h = lines-in xs (l ∷ k ∷ ls) h

  new_gates-in : (bs : List (Block Name)) → AllNames bs → AllIn (all_new_gates signal_of bs)
  new_gates-in [] h = tt
  new_gates-in (b ∷ bs) h = all_append (new_gates signal_of b) (all_new_gates signal_of bs) (more-in b h.0) (new_gates-in bs h.1)

  in-at : (xs : List Gate) → AllIn xs → (g : ℕ) (x : Gate) → get_elem? xs g ≡ some x → GateIn x
  in-at [] a g x e = absurd (let z : ◌≡◌ {A = ℕ} 0 1 = cc in omega arith)
  in-at (y ∷ xs) a zero x e = let q : y ≡ x = cc in subst GateIn q a.0
  in-at (y ∷ xs) a (suc g) x e = in-at xs a.1 g x e

  names-all : (bs : List (Block Name)) → ((b : Block Name) → Memᴰ b bs → NamesIn b) → AllNames bs
  names-all [] h = tt
  names-all (b ∷ bs) h = (h b (Memᴰ.head refl), names-all bs (λ c m. h c (Memᴰ.tail m)))

module _ {Name : Type 0} (m : Model Name) (signal_of : Name → Signal) (ok : Looks m signal_of) (closed : Closed m) where
  abbrev nb : ℕ
  nb = length m.blocks

  abbrev total : ℕ
  total = nb + length (all_new_gates signal_of m.blocks)

  all-length : length (build signal_of m).gates ≡ total
  all-length = length-append (block_gates signal_of nb m.blocks) (all_new_gates signal_of m.blocks) ∙ ap (λ (n : ℕ). n + length (all_new_gates signal_of m.blocks)) (block_gates-length signal_of nb m.blocks)

  name_in : (x : Name) → Defined m x → In signal_of (length m.inputs) total (signal_of x).node
  name_in x (inl (i, e)) = subst (λ (s : Signal). In signal_of (length m.inputs) total s.node) (sym (ok.input_at i x e)) (place-lt m.inputs i x e)
  name_in x (inr (j, b, e, t)) =
      let l : j < nb = place-lt m.blocks j b e in
      subst (λ (y : Name). In signal_of (length m.inputs) total (signal_of y).node) t (subst (λ (s : Signal). In signal_of (length m.inputs) total s.node) (sym (ok.block_at j b e)) (omega arith))

  in-valid : (n : Node) → In signal_of (length m.inputs) total n → ValidNode (build signal_of m) n
  in-valid Const u = tt
  in-valid (Input i) u = u
  in-valid (Var h) u = let e : length (build signal_of m).gates ≡ total = all-length in omega arith

  pub built-valid : Valid (build signal_of m)
  built-valid =
      let names : AllNames signal_of (length m.inputs) total m.blocks = names-all signal_of (length m.inputs) total m.blocks (λ b w x v. name_in x (closed.sources_defined b x w v)) in
      let every : AllIn signal_of (length m.inputs) total (build signal_of m).gates =
      all_append signal_of (length m.inputs) total (block_gates signal_of nb m.blocks) (all_new_gates signal_of m.blocks)
      (block_gates-in signal_of (length m.inputs) total nb m.blocks names (omega arith)) (new_gates-in signal_of (length m.inputs) total m.blocks names) in
      record {
        pins_valid = λ g x s e w. in-valid s.node (in-at signal_of (length m.inputs) total (build signal_of m).gates every g x e s w);
        outs_valid = λ s w. let t = Memᴰ.of_map signal_of m.outputs w in subst (λ (u : Signal). ValidNode (build signal_of m) u.node) t.2 (in-valid (signal_of t.0).node (name_in t.0 (closed.outputs_defined t.0 t.1)));
      }
