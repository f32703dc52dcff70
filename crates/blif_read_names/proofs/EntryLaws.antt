-- The entries of declarations are the signals that the definition's search finds. Assumes nothing.
use Rattle.refusals.specs.Order.{fine}
use mathlib.Core.Path.{◌≡◌, refl, sym, ap, ap₂, ◌∙◌, subst}
use mathlib.Core.Bool.{Bool, true, false, not, ◌||◌, cond, or_assoc, or_comm}
use mathlib.Core.List.Memᴰ
use mathlib.Core.List.{List, [], ◌∷◌, ◌++◌, map, map-append, flat_map, append_assoc, Memᴰ}
use mathlib.Core.Option.{some}
use mathlib.Core.Logic.{⊎_elim}
use Prim.Native.Nat.{ℕ, suc, ◌+◌, ◌<◌}
use native.Mathlib.Omega.{arith}
use lib.Dec.{eqb}
use lib.ListN.{length, get_elem?, length-append}
use borrow.Author.Tests.{ne_eqb}
use Rattle.lists.specs.Lists.{Bytes, same, known}
use Rattle.lists.proofs.Same.{same-is}
use Rattle.lists.proofs.Tests.{by-test}
use Rattle.lists.proofs.Known.{known-mem}
use Rattle.lists.proofs.Every.{Every, every-nil, every-cons, every_append}
use Rattle.lists.proofs.Places.{place-lt, mem-place, place-right, map-place}
use Rattle.signal.specs.Signal.{Signal, Input, Var, plain}
use Rattle.signal.specs.Cell.{sig_cell}
use Rattle.blif_text.specs.Decls.{Def, Decl, model, end, inputs, outputs, gate, ins_of, defs_of, ins, defs, defines}
use Rattle.name_index.specs.Between.Search.{Entry, signal_in}
use Rattle.blif_reading.specs.TextModel.{block_of, model_of}
use Rattle.blif_reading.specs.Read.{too_large, naming, signal_of}
use Rattle.blif_reading.proofs.Lookups.{looks}
use Rattle.blif_reading.proofs.Passed.{target-of, once-of}
use Rattle.blif_read_names.specs.Between.Entries.{input_entries, entries}
use Rattle.blif_reading.proofs.SizeLimits.{sizes-within}
use Rattle.blif_read_names.proofs.Defining.{input-names}

-- ---- a search among entries whose signals are a function's of their names

module _ (f : Bytes → ℕ) where
  -- the entry's signal is that of its name
  abbrev Right : Entry → Type 0
  Right e = e.signal ≡ f e.name

  signal-known : (es : List Entry) (x : Bytes) → Every Right es → signal_in es x ≡ cond (known x (map (λ (e : Entry). e.name) es)) (f x) 0
  signal-known [] x every-nil = refl
  signal-known (e ∷ es) x (every-cons h hs) =
      by-test (same x e.name)
      (λ t.
      ap (λ (b : Bool). cond b e.signal (signal_in es x)) t ∙ h ∙ ap f (sym (same-is x e.name t))
      ∙ sym (ap (λ (b : Bool). cond (b || known x (map (λ (e : Entry). e.name) es)) (f x) 0) t))
      (λ t.
      ap (λ (b : Bool). cond b e.signal (signal_in es x)) t ∙ signal-known es x hs
      ∙ sym (ap (λ (b : Bool). cond (b || known x (map (λ (e : Entry). e.name) es)) (f x) 0) t))

-- ---- the names of the entries are those defined

known-append : (x : Bytes) (l r : List Bytes) → known x (l ++ r) ≡ (known x l || known x r)
known-append x [] r = refl
known-append x (y ∷ l) r = ap (λ (b : Bool). same x y || b) (known-append x l r) ∙ sym (or_assoc (same x y) (known x l) (known x r))

-- a or b or c in another order
or_swap : (a b c : Bool) → (a || (b || c)) ≡ (b || (a || c))
or_swap a b c = sym (or_assoc a b c) ∙ ap (λ (x : Bool). x || c) (or_comm a b) ∙ or_assoc b a c

entries-known : (x : Bytes) (ds : List Decl) (i g : ℕ)
    → known x (map (λ (e : Entry). e.name) (entries i g ds)) ≡ (known x (ins ds) || known x (map defines (defs ds)))
unfolding ins defs flat_map ins_of defs_of
entries-known x [] i g = refl
entries-known x (model ∷ ds) i g = entries-known x ds i g
entries-known x (end ∷ ds) i g = entries-known x ds i g
entries-known x (outputs ns ∷ ds) i g = entries-known x ds i g
entries-known x (inputs ns ∷ ds) i g =
    let I = known x (flat_map ins_of ds) in
    let G = known x (map defines (flat_map defs_of ds)) in
    ap (known x) (map-append (λ (e : Entry). e.name) (input_entries i ns) (entries (i + length ns) g ds) ∙ ap (λ (l : List Bytes). l ++ map (λ (e : Entry). e.name) (entries (i + length ns) g ds)) (input-names i ns))
    ∙ known-append x ns (map (λ (e : Entry). e.name) (entries (i + length ns) g ds))
    ∙ ap (λ (b : Bool). known x ns || b) (entries-known x ds (i + length ns) g)
    ∙ sym (or_assoc (known x ns) I G)
    ∙ ap (λ (b : Bool). b || G) (sym (known-append x ns (flat_map ins_of ds)))
entries-known x (gate d ∷ ds) i g =
    ap (λ (b : Bool). same x (defines d) || b) (entries-known x ds i (suc g))
    ∙ or_swap (same x (defines d)) (known x (flat_map ins_of ds)) (known x (map defines (flat_map defs_of ds)))

-- ---- each entry has the signal of its name

module _ (all : List Decl) (named : naming false [] all ≡ fine) where
  -- input i is input signal i
  input-at : (i : ℕ) (x : Bytes) → get_elem? (ins all) i ≡ some x → signal_of all x ≡ plain (Input i)
  input-at i x e = (looks (model_of all) (once-of all named)).input_at i x e

  -- block j is gate j
  gate-at : (j : ℕ) (d : Def) → get_elem? (defs all) j ≡ some d → signal_of all (defines d) ≡ plain (Var j)
  gate-at j d e =
      ap (signal_of all) (sym (target-of d))
      ∙ (looks (model_of all) (once-of all named)).block_at j (block_of d) (map-place block_of (defs all) j d e)

  -- inputs behind others
  right-inputs : (ns rest before : List Bytes) (i : ℕ) → ins all ≡ before ++ (ns ++ rest) → i ≡ length before
      → Every (λ (e : Entry). e.signal ≡ sig_cell (signal_of all e.name)) (input_entries i ns)
  right-inputs [] rest before i e q = every-nil
  right-inputs (x ∷ ns) rest before i e q =
      let p : get_elem? (ins all) i ≡ some x =
      ap₂ (λ (l : List Bytes) (k : ℕ). get_elem? l k) e (q ∙ omega arith) ∙ place-right before (x ∷ (ns ++ rest)) 0 in
      every-cons (ap sig_cell (sym (input-at i x p)))
      (right-inputs ns rest (before ++ (x ∷ [])) (suc i) (e ∙ sym (append_assoc before (x ∷ []) (ns ++ rest))) (omega (arith, length-append before (x ∷ []))))

  -- declarations behind others
  right-entries : (ds : List Decl) (is : List Bytes) (gs : List Def) (i g : ℕ) → ins all ≡ is ++ ins ds → defs all ≡ gs ++ defs ds → i ≡ length is → g ≡ length gs
      → Every (λ (e : Entry). e.signal ≡ sig_cell (signal_of all e.name)) (entries i g ds)
  unfolding ins defs flat_map ins_of defs_of
  right-entries [] is gs i g a b p q = every-nil
  right-entries (model ∷ ds) is gs i g a b p q = right-entries ds is gs i g a b p q
  right-entries (end ∷ ds) is gs i g a b p q = right-entries ds is gs i g a b p q
  right-entries (outputs ns ∷ ds) is gs i g a b p q = right-entries ds is gs i g a b p q
  right-entries (inputs ns ∷ ds) is gs i g a b p q =
      every_append (right-inputs ns (flat_map ins_of ds) is i a p)
      (right-entries ds (is ++ ns) gs (i + length ns) g (a ∙ sym (append_assoc is ns (flat_map ins_of ds))) b (omega (arith, length-append is ns)) q)
  right-entries (gate d ∷ ds) is gs i g a b p q =
      let e : get_elem? (defs all) g ≡ some d =
      ap₂ (λ (l : List Def) (k : ℕ). get_elem? l k) b (q ∙ omega arith) ∙ place-right gs (d ∷ flat_map defs_of ds) 0 in
      every-cons (ap sig_cell (sym (gate-at g d e)))
      (right-entries ds is (gs ++ (d ∷ [])) i (suc g) a (b ∙ sym (append_assoc gs (d ∷ []) (flat_map defs_of ds))) p (omega (arith, length-append gs (d ∷ []))))

-- ---- the laws

-- the entries found are the signals of the definition's search
pub entry-signal : (ds : List Decl) → naming false [] ds ≡ fine → (x : Bytes)
    → signal_in (entries 0 0 ds) x ≡ cond (known x (ins ds ++ map defines (defs ds))) (sig_cell (signal_of ds x)) 0
entry-signal ds e x =
    signal-known (λ (y : Bytes). sig_cell (signal_of ds y)) (entries 0 0 ds) x (right-entries ds e ds [] [] 0 0 refl refl refl refl)
    ∙ ap (λ (b : Bool). cond b (sig_cell (signal_of ds x)) 0) (entries-known x ds 0 0 ∙ sym (known-append x (ins ds) (map defines (defs ds))))

-- a defined name's signal is not the constant zero
defined-cell : (ds : List Decl) → naming false [] ds ≡ fine → too_large ds ≡ false → (x : Bytes) → Memᴰ x (ins ds ++ map defines (defs ds))
    → 0 < sig_cell (signal_of ds x)
defined-cell ds e s x m =
    ⊎_elim
    (λ (w : Memᴰ x (ins ds)).
    let p = mem-place (ins ds) x w in
    let l : p.0 < 256 = omega (arith, place-lt (ins ds) p.0 x p.1, (sizes-within ds s).inputs) in
    subst (λ (y : Signal). 0 < sig_cell y) (sym (input-at ds e p.0 x p.1)) (omega arith))
    (λ (w : Memᴰ x (map defines (defs ds))).
    let t = Memᴰ.of_map defines (defs ds) w in
    let p = mem-place (defs ds) t.0 t.1 in
    subst (λ (y : Signal). 0 < sig_cell y) (sym (ap (signal_of ds) (sym t.2) ∙ gate-at ds e p.0 t.0 p.1)) (omega arith))
    (Memᴰ.append_cases (ins ds) m)

-- a name that is defined is found: zero is no name's signal
pub entry_found : (ds : List Decl) → naming false [] ds ≡ fine → too_large ds ≡ false → (x : Bytes) → known x (ins ds ++ map defines (defs ds)) ≡ true
    → not (eqb 0 (signal_in (entries 0 0 ds) x)) ≡ true
entry_found ds e s x k =
    let d = defined-cell ds e s x (known-mem x (ins ds ++ map defines (defs ds)) k) in
    let q : signal_in (entries 0 0 ds) x ≡ sig_cell (signal_of ds x) =
    entry-signal ds e x ∙ ap (λ (b : Bool). cond b (sig_cell (signal_of ds x)) 0) k in
    ap not (ap (eqb 0) q ∙ ne_eqb 0 (sig_cell (signal_of ds x)) (λ z. omega arith))
