-- Names that are used: what is found in the index is defined, and what is not found is refusal 11. Assumes nothing.
use Rattle.refusals.specs.Order.{fine}
use mathlib.Core.Path.{◌≡◌, refl, sym, ap, ap₂, ◌∙◌}
use mathlib.Core.Bool.{Bool, true, false, not, ◌&&◌, cond}
use mathlib.Core.List.{List, [], ◌∷◌, ◌++◌, map, flat_map}
use Prim.Native.Nat.{ℕ}
use Rattle.lists.specs.Lists.{Bytes, all, known}
use Rattle.lists.proofs.Range.{all_append, all_map}
use Rattle.lists.proofs.Tests.{by-test, and_left, and_right, and-false}
use Rattle.signal.specs.Cell.{sig_cell}
use Rattle.blif_text.specs.Decls.{Decl, ins, outs, defs, defines, used_names}
use Rattle.name_index.specs.Between.Search.{signal_in}
use Rattle.blif_reading.specs.Read.{too_large, naming, undefined, signal_of}
use Rattle.blif_read_names.specs.Between.Entries.{entries}
use Rattle.blif_read_signals.specs.Between.Resolve.{is_found, Signals}
use Rattle.blif_read_names.proofs.EntryLaws.{entry-signal, entry_found}

-- ---- a test of every element

all_same : {A : Type 0} (p q : A → Bool) → ((x : A) → p x ≡ q x) → (l : List A) → all p l ≡ all q l
all_same p q h [] = refl
all_same p q h (x ∷ l) = ap₂ (λ (a b : Bool). a && b) (h x) (all_same p q h l)

-- what is laid of elements that each have their own is laid of the others
map-where : {A B : Type 0} (p : A → Bool) (f g : A → B) → ((x : A) → p x ≡ true → f x ≡ g x) → (l : List A) → all p l ≡ true → map f l ≡ map g l
map-where p f g h [] e = refl
map-where p f g h (x ∷ l) e = ap₂ (λ y (ys : List _). y ∷ ys) (h x (and_left (p x) (all p l) e)) (map-where p f g h l (and_right (p x) (all p l) e))

-- ---- the index's answers

module _ (ds : List Decl) (named : naming false [] ds ≡ fine) (sized : too_large ds ≡ false) where
  -- the cell of a name's signal in the index
  abbrev sig : Bytes → ℕ
  sig x = signal_in (entries 0 0 ds) x

  -- whether it is defined
  abbrev is_known : Bytes → Bool
  is_known x = known x (ins ds ++ map defines (defs ds))

  -- a name is found where it is defined
  pub found-known : (x : Bytes) → is_found (sig x) ≡ is_known x
  found-known x =
      by-test (is_known x)
      (λ t. entry_found ds named sized x t ∙ sym t)
      (λ t. ap is_found (entry-signal ds named x ∙ ap (λ (b : Bool). cond b (sig_cell (signal_of ds x)) 0) t) ∙ sym t)

  -- and what is found is its signal
  pub found-signal : Signals sig (signal_of ds)
  found-signal x e = entry-signal ds named x ∙ ap (λ (b : Bool). cond b (sig_cell (signal_of ds x)) 0) (sym (found-known x) ∙ e)

  -- names are all found where all are defined
  pub found_all : (xs : List Bytes) → all is_found (map sig xs) ≡ all is_known xs
  found_all xs = all_map is_found sig xs ∙ all_same (λ (x : Bytes). is_found (sig x)) is_known found-known xs

  -- their signals
  pub found-signals : (xs : List Bytes) → all is_known xs ≡ true → map sig xs ≡ map (λ (x : Bytes). sig_cell (signal_of ds x)) xs
  found-signals xs e = map-where is_known sig (λ (x : Bytes). sig_cell (signal_of ds x)) (λ x t. found-signal x (found-known x ∙ t)) xs e

  undefined-is : undefined ds ≡ not (all is_known (outs ds) && all is_known (flat_map used_names (defs ds)))
  unfolding undefined
  undefined-is = ap not (all_append is_known (outs ds) (flat_map used_names (defs ds)))

  -- an output is undefined
  pub output-missing : all is_known (outs ds) ≡ false → undefined ds ≡ true
  output-missing e = undefined-is ∙ ap (λ (b : Bool). not (b && all is_known (flat_map used_names (defs ds)))) e

  -- a latch's input or a cover's is undefined
  pub use-missing : all is_known (flat_map used_names (defs ds)) ≡ false → undefined ds ≡ true
  use-missing e = undefined-is ∙ ap (λ (b : Bool). not (all is_known (outs ds) && b)) e ∙ ap not (and-false (all is_known (outs ds)))

  -- none is
  pub none-missing : all is_known (outs ds) ≡ true → all is_known (flat_map used_names (defs ds)) ≡ true → undefined ds ≡ false
  none-missing e f = undefined-is ∙ ap₂ (λ (a b : Bool). not (a && b)) e f
