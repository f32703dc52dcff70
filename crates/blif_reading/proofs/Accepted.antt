-- A text that no test refuses is one that reading accepts: so what is read means what the text means. Assumes nothing.
use Rattle.std.specs.Prelude.{⊤, Result, Ok, Err}
use mathlib.Core.Path.{◌≡◌, refl, ap, subst}
use mathlib.Core.Bool.{Bool}
use mathlib.Core.List.Memᴰ
use mathlib.Core.List.{List}
use mathlib.Core.Option.{Option, none, some}
use mathlib.Core.Logic.{◌↔◌}
use Prim.Native.Nat.{ℕ}
use native.Mathlib.Omega.{arith}
use lib.Dec.{leb, ltb}
use lib.ListN.{length}
use Rattle.lists.specs.Lists.{Bytes, any}
use Rattle.refusals.specs.Order.{◌or_else◌, refuse_if, fine}
use Rattle.refusals.specs.declared.Refusal.TheVariants as refusal
use Rattle.refusals.proofs.Order.{or_else-right}
use Rattle.network.specs.Net.{Net}
use Rattle.network.specs.Settle.{run}
use Rattle.sort_order.specs.Sorted.{sorted}
use Rattle.sort_order.proofs.Sorting.{sorted-free}
use Rattle.blif_text.specs.Statements.{parsed, first_bad, stmts}
use Rattle.blif_text.specs.Decls.{Decl, decls, defs, decls_of}
use Rattle.blif_meaning.specs.Model.{BlifRuns}
use Rattle.blif_reading.specs.Build.{build}
use Rattle.blif_reading.specs.TextModel.{block_of, model_of, model_of_text}
use Rattle.blif_reading.specs.Read.{decl_fault, read_fault, answer, signal_of, built_from, read_text}
use Rattle.blif_reading.specs.Accepts.{Accepts}
use Rattle.blif_meaning.specs.WellFormed.{GoodBlock}
use Rattle.blif_reading.proofs.Meaning.{built_of, sorted-means}
use Rattle.blif_reading.proofs.Passed.{Passed, passed, passed-valid, closed_of, once-of, good_of, goods-of}
use Rattle.refusals.specs.declared.Refusal.{Refusal}

-- ---- what is accepted and sorted

-- the text's model is accepted, and its gates are sorted
pub record Reads (text : Bytes) (new : Net) : Type 0 where
  pub accepted : Accepts (model_of_text text)
  pub is_sorted : sorted (built_of (model_of_text text)) ≡ some new

-- ---- what is read

read-fine : (f : Result ⊤ Refusal) (o : Option Net) (new : Net) → answer f o ≡ Ok new → (f ≡ fine) × (o ≡ some new)
unfolding answer
read-fine (Ok _) none new e = absurd (let z : ◌≡◌ {A = ℕ} 0 1 = cc in omega arith)
read-fine (Ok _) (some n) new e = (refl, (let q : n ≡ new = cc in ap some q))
read-fine (Err r) o new e = absurd (let z : ◌≡◌ {A = ℕ} 0 1 = cc in omega arith)

-- what is read passed every test, and is the sort of the gates as built
pub passed-read : (s : Bytes) (new : Net) → read_text s ≡ Ok new → Passed (decls_of s) × (sorted (built_from (decls_of s)) ≡ some new)
unfolding read_text read_fault
passed-read s new e =
    let r : (read_fault s ≡ fine) × (sorted (built_from (decls_of s)) ≡ some new) = read-fine (read_fault s) (sorted (built_from (decls_of s))) new e in
    let f₃ = or_else-right (refuse_if (ltb 32768 (length s)) refusal.TextTooLong) (refuse_if (any (leb 128) s) refusal.HighByte or_else first_bad (parsed s) or_else decl_fault (decls_of s)) r.0 in
    let f₄ = or_else-right (refuse_if (any (leb 128) s) refusal.HighByte) (first_bad (parsed s) or_else decl_fault (decls_of s)) f₃ in
    (passed (decls_of s) (or_else-right (first_bad (parsed s)) (decl_fault (decls_of s)) f₄), r.1)

pub reads_of : (s : Bytes) (new : Net) → read_text s ≡ Ok new → Reads s new
unfolding decls_of built_from
reads_of s new e =
    let ds : List Decl = decls (stmts (parsed s)) in
    let r = passed-read s new e in
    let p : Passed ds = r.0 in
    record {
      accepted = record {
        formed = record {
          once = once-of ds p.named;
          closed = closed_of ds p.used;
          good = λ b w. let t = Memᴰ.of_map block_of (defs ds) w in subst GoodBlock t.2 (good_of t.0 (goods-of (defs ds) p.covered t.0 t.1));
        };
        free = sorted-free (build (signal_of ds) (model_of ds)) (passed-valid ds p) new r.1;
      };
      is_sorted = r.1;
    }

-- for every list of rows the text has just one list of outputs, and it is that of the network read
pub read-means : (s : Bytes) (new : Net) → read_text s ≡ Ok new → (rows outs : List (List Bool)) → BlifRuns (model_of_text s) rows outs ↔ (outs ≡ run new rows)
read-means s new e rows outs = let r : Reads s new = reads_of s new e in sorted-means (model_of_text s) r.accepted new r.is_sorted rows outs
