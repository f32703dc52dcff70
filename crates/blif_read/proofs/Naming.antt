-- From the index of names to the gates placed: refusals 7 to 13. Assumes nothing.
use Rattle.refusals.specs.Order.{fine}
use Rattle.std.specs.Prelude.{Ok, Err}
use mathlib.Core.Path.{◌≡◌, sym, ap, ap₂, ◌∙◌, subst}
use mathlib.Core.Bool.{Bool, true, false}
use mathlib.Core.List.{List, [], ◌∷◌, ◌++◌, map, flat_map}
use Prim.Native.Nat.{ℕ, zero, suc, ◌+◌, ◌-◌, ◌*◌, ◌≤◌}
use native.Mathlib.Omega.{arith}
use lib.ListN.{length, take, length-map}
use lib.Seq.{length-take-le, get_or-take}
use Rattle.lists.specs.Lists.{Bytes, all, known, overwrite, sum_of}
use Rattle.lists.proofs.Over.{take-overwrite}
use Rattle.refusals.specs.declared.Refusal.{Refusal}
use Rattle.refusals.specs.declared.Refusal.TheVariants as refusal
use Rattle.signal.specs.Cell.{sig_cell}
use Rattle.network.specs.Sizes.{max_pins}
use Rattle.blif_text.specs.Decls.{Def, latch, cover, Decl, decls, ins, outs, defs, defines, used_names, decls_of}
use Rattle.blif_text.specs.Between.Places.{InText, tokens_of}
use Rattle.blif_text.specs.Between.Walk.{stmts_from, Inside}
use Rattle.blif_text.specs.Between.Blocks.{defs_at}
use Rattle.name_index.specs.Between.Search.{Entry, signal_in}
use Rattle.name_index.specs.Between.Index.{entry_count, entries_of}
use Rattle.blif_reading.specs.Read.{pin_count, naming, undefined, cover_faults, read_fault, signal_of, read_text}
use Rattle.blif_reading.specs.Between.Working.{GatesIn, placed, placed_count}
use Rattle.blif_read_names.specs.Between.Entries.{entries}
use Rattle.blif_read_names.specs.Between.Tables.{Named, Tables}
use Rattle.blif_read_names.specs.declared.Declared.{Declared}
use Rattle.blif_read_signals.specs.Between.Resolve.{is_found, all_found, Resolved, PlacedBy, Signals}
use Rattle.blif_read_signals.proofs.Placing.{pins-found, refused-found}
use Rattle.blif_read.specs.Between.Stages.{Sized, Defining, Resolving, Placing}
use Rattle.blif_reading.proofs.SizeLimits.{sizes-within}
use Rattle.blif_read_names.proofs.DefiningGates.{defs-few}
use Rattle.blif_read.proofs.Refusing.{refuses, refuses-refuse_if, goes_on, passes-refuse_if}
use Rattle.blif_read.proofs.Found.{found_all, found-signals, found-signal, output-missing, use-missing, none-missing}

-- ---- names

module _ {text tokens : List ℕ} (c : Sized text tokens) where
  -- the refusals of 7 to 10 are the text's
  naming-is : naming false [] (decls (stmts_from text tokens (length tokens) 0)) ≡ naming false [] (decls_of text)
  naming-is = sym (ap (naming false []) c.declared)

  -- a refusal of 7 to 10
  pub name-refused : {r : Refusal} → naming false [] (decls (stmts_from text tokens (length tokens) 0)) ≡ Err r → read_text text ≡ Err r
  name-refused h = refuses text _ c.left (sym naming-is ∙ h)

  module _ {index out_names blocks : List ℕ} where
    -- none
    pub names-entered : {d : Declared} → naming false [] (decls (stmts_from text tokens (length tokens) 0)) ≡ fine
        → Tables (decls (stmts_from text tokens (length tokens) 0)) text tokens (length tokens) index out_names blocks d.inputs d.gates d.outputs
        → Defining text tokens index out_names blocks d.inputs d.gates d.outputs
    names-entered {d} z h =
        let e : naming false [] (decls_of text) ≡ fine = sym naming-is ∙ z in
        record {
          tables = subst (λ (ds : List Decl). Tables ds text tokens (length tokens) index out_names blocks d.inputs d.gates d.outputs) (sym c.declared) h;
          sized = c.sized;
          once = e;
          left = goes_on text _ c.left e;
        }

-- the index has as many names as are declared
entries-counted : {ds : List Decl} {text tokens index blocks : List ℕ} {n i g o : ℕ} → Named ds text tokens n index blocks i g o → entries_of text index (entry_count index) ≡ entries 0 0 ds
entries-counted {text = text} {index = index} t = ap (entries_of text index) t.index_is.counted ∙ t.entries-are

-- the first places are within the text too
pub inside-first : {text cells : List ℕ} (o : ℕ) → Inside text cells o → Inside text (take o cells) (length (take o cells))
inside-first {text} {cells} o h =
    let e : length (take o cells) ≡ o = length-take-le o cells h.room in
    record {
      room = omega arith;
      inside = λ i l.
          subst (InText text) (sym (get_or-take o cells i 0 (omega (arith, e, l)))) (h.inside i (omega (arith, e, l)));
    }

module _ {text tokens index out_names blocks : List ℕ} {i g o : ℕ} (c : Defining text tokens index out_names blocks i g o) where
  -- "256 outputs"
  pub few-outs : o ≤ 256
  few-outs = omega (arith, c.tables.named.outputs, (sizes-within (decls_of text) c.sized).outputs)

  -- so many have room
  pub outs-fit : (m : ℕ) → 256 ≤ m → length (take o out_names) ≤ m
  outs-fit m h = omega (arith, length-take-le o out_names c.tables.outputs-in.room, few-outs)

  module _ {os os' : List ℕ} {r : Bool} (h : Resolved (map (signal_in (entries_of text index (entry_count index))) (tokens_of text (take o out_names))) os os' r) where
    abbrev ds : List Decl
    ds = decls_of text

    -- the signals asked for are those of the outputs
    asked : map (signal_in (entries_of text index (entry_count index))) (tokens_of text (take o out_names)) ≡ map (signal_in (entries 0 0 ds)) (outs ds)
    asked = ap₂ (λ (es : List Entry) (xs : List Bytes). map (signal_in es) xs) (entries-counted c.tables.named) c.tables.outputs-are

    -- whether all are defined
    all_known : r ≡ all (λ (x : Bytes). known x (ins ds ++ map defines (defs ds))) (outs ds)
    all_known = h.found ∙ ap (all is_found) asked ∙ found_all ds c.once c.sized (outs ds)

    -- an output is undefined
    pub output-refused : r ≡ false → read_text text ≡ Err refusal.Undefined
    output-refused e =
        refuses-refuse_if text (undefined ds) refusal.Undefined (cover_faults (defs ds)) c.left (output-missing ds c.once c.sized (sym all_known ∙ e))

    -- none is
    pub outputs-found : r ≡ true → 256 ≤ length os → Resolving text tokens index os' blocks i g o
    outputs-found e room =
        let k = sym all_known ∙ e in
        let s = found-signals ds c.once c.sized (outs ds) k in
        let cells : List ℕ = map (λ (x : Bytes). sig_cell (signal_of ds x)) (outs ds) in
        let l : length cells ≡ o = length-map (outs ds) (λ (x : Bytes). sig_cell (signal_of ds x)) ∙ sym c.tables.named.outputs in
        record {
          tables = c.tables.named;
          sized = c.sized;
          once = c.once;
          outs-known = k;
          outs-are =
              ap (take o) (h.laid e ∙ ap (λ (x : List ℕ). overwrite x os) (asked ∙ s))
              ∙ ap (λ (m : ℕ). take m (overwrite cells os)) (sym l)
              ∙ take-overwrite cells os (omega (arith, l, few-outs));
          left = c.left;
        }

-- ---- gates placed first

-- a gate has no more pins first than are counted
placed-within : (ds : List Def) → sum_of placed_count ds ≤ sum_of pin_count ds
unfolding pin_count
placed-within [] = omega arith
placed-within (latch l ∷ ds) = omega (arith, placed-within ds)
placed-within (cover ns ls ∷ ds) =
    let a : length ns - 1 ≤ (length ls + 1) * (length ns - 1 + 2) = wide (length ls) (length ns - 1) in
    omega (arith, a, placed-within ds)
  where
    wide : (k m : ℕ) → m ≤ (k + 1) * (m + 2)
    wide zero m = omega arith
    wide (suc k) m = omega (arith, wide k m)

module _ {text tokens index os blocks : List ℕ} {i g o : ℕ} (c : Resolving text tokens index os blocks i g o) where
  -- "1,024 gates"
  pub few-gates : g ≤ 1024
  few-gates = omega (arith, c.tables.gates, defs-few (defs (decls_of text)), (sizes-within (decls_of text) c.sized).gates)

  -- "16,384 pins"
  pub few-placed : sum_of placed_count (defs_at text tokens (length tokens) blocks g) ≤ max_pins
  few-placed =
      omega (arith, ap (sum_of placed_count) c.tables.blocks-are, placed-within (defs (decls_of text)), (sizes-within (decls_of text) c.sized).pins)

  -- whether all uses are defined
  uses-known : all_found (signal_in (entries_of text index (entry_count index))) (defs_at text tokens (length tokens) blocks g)
      ≡ all (λ (x : Bytes). known x (ins (decls_of text) ++ map defines (defs (decls_of text)))) (flat_map used_names (defs (decls_of text)))
  uses-known =
      ap₂ (λ (es : List Entry) (xs : List Def). all_found (signal_in es) xs) (entries-counted c.tables) c.tables.blocks-are
      ∙ found_all (decls_of text) c.once c.sized (flat_map used_names (defs (decls_of text)))

  module _ {gates pins_in : List ℕ} where
    -- one is undefined
    pub use-refused : {r : Refusal} → PlacedBy (signal_in (entries_of text index (entry_count index))) (defs_at text tokens (length tokens) blocks g) gates pins_in (Err r) → read_text text ≡ Err r
    use-refused h =
        let f = refused-found _ _ h.counted in
        refuses-refuse_if text (undefined (decls_of text)) refusal.Undefined (cover_faults (defs (decls_of text))) c.left
        (use-missing (decls_of text) c.once c.sized (sym uses-known ∙ f.0))
        ∙ ap Err (sym f.1)

    -- none is
    pub gates-placed : {used : ℕ} → PlacedBy (signal_in (entries_of text index (entry_count index))) (defs_at text tokens (length tokens) blocks g) gates pins_in (Ok used)
        → Placing text tokens blocks i g o gates pins_in os used
    gates-placed {used} h =
        let f = pins-found _ _ h.counted in
        record {
          inputs = c.tables.inputs;
          outputs = c.tables.outputs;
          blocks-in = c.tables.blocks-in;
          blocks-are = c.tables.blocks-are;
          left =
              passes-refuse_if text (undefined (decls_of text)) refusal.Undefined (cover_faults (defs (decls_of text))) c.left
              (none-missing (decls_of text) c.once c.sized c.outs-known (sym uses-known ∙ f.0));
          used-is = f.1 ∙ ap (sum_of placed_count) c.tables.blocks-are;
          gates-in =
              subst (λ (xs : List Def). GatesIn gates pins_in used (map (placed (signal_of (decls_of text))) xs)) c.tables.blocks-are
              (subst (λ (k : ℕ). GatesIn gates pins_in k (map (placed (signal_of (decls_of text))) (defs_at text tokens (length tokens) blocks g))) (sym f.1)
              (h.gates-in f.0 (signal_of (decls_of text))
              (subst (λ (es : List Entry). Signals (signal_in es) (signal_of (decls_of text))) (sym (entries-counted c.tables)) (found-signal (decls_of text) c.once c.sized))));
          outs-are = c.outs-are;
        }

-- ---- covers

module _ {text tokens blocks : List ℕ} {i g o : ℕ} {gates pins_in os : List ℕ} {used : ℕ} (c : Placing text tokens blocks i g o gates pins_in os used) where
  -- what the covers are refused for, the text is
  pub covers-left : read_fault text ≡ cover_faults (defs_at text tokens (length tokens) blocks g)
  covers-left = c.left ∙ sym (ap cover_faults c.blocks-are)
