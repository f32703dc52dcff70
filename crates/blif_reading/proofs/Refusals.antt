-- Which refusals reading answers: 2 to 14 and 34, whatever the text. Assumes nothing.
use Rattle.std.specs.Prelude.{⊤, Result, Ok, Err}
use mathlib.Core.Path.{◌≡◌, refl}
use mathlib.Core.Bool.{Bool, true, false, not, ◌||◌}
use mathlib.Core.List.{List, [], ◌∷◌, map, flat_map}
use mathlib.Core.Option.{Option, none, some}
use Prim.Native.Nat.{ℕ}
use native.Mathlib.Omega.{arith}
use mathlib.Core.Logic.{inl, inr}
use lib.Dec.{eqb, leb}
use borrow.Author.Tests.{eqb-true, leb-true}
use Rattle.lists.proofs.Tests.{by-test}
use Rattle.lists.specs.Lists.{Bytes}
use Rattle.refusals.specs.Numbers.{number_of, InReading}
use Rattle.refusals.specs.Order.{◌or_else◌, refuse_if, fine}
use Rattle.refusals.specs.declared.Refusal.{Refusal}
use Rattle.refusals.specs.declared.Refusal.TheVariants as refusal
use Rattle.blif_meaning.specs.Model.{Init}
use Rattle.network.specs.Net.{Net}
use Rattle.sort_order.specs.Sorted.{sorted}
use Rattle.blif_text.specs.Lines.{lines, joined, tokens}
use Rattle.blif_text.specs.Keywords.{keyword_of}
use Rattle.blif_text.specs.Statements.{model_stmt, init_among, latch_with, latch_stmt, by_keyword, stmt_of, parsed_line, parsed, refusal_of, first_bad}
use Rattle.blif_text.specs.Decls.{latch, cover, Def, Decl, model, end, inputs, outputs, gate, decls_of}
use Rattle.blif_text.specs.declared.Keyword.{Keyword}
use Rattle.blif_text.specs.declared.Keyword.TheVariants as key
use Rattle.blif_reading.specs.Read.{naming, cover_fault, cover_faults, decl_fault, read_fault, answer, built_from, read_text}

-- a check whose refusal, if it has one, is reading's
abbrev Reads : Result ⊤ Refusal → Type 0
Reads c = (r : Refusal) → c ≡ Err r → InReading r

-- the test of its number
abbrev reads : Refusal → Bool
reads k = leb (number_of k) 14 || eqb (number_of k) 34

-- one that passes it is
own : {k : Refusal} → reads k ≡ true → Reads (Err k)
own {k} t r e = let q : r ≡ k = cc in rw q (by-test (leb (number_of k) 14) (λ l. inl (leb-true (number_of k) 14 l)) (λ l. inr (eqb-true (number_of k) 34 (rw l at t))))

fine-reads : Reads fine
fine-reads r e = absurd (let z : ◌≡◌ {A = ℕ} 0 1 = cc in omega arith)

refuse_if-reads : (c : Bool) (k : Refusal) → reads k ≡ true → Reads (refuse_if c k)
unfolding refuse_if
refuse_if-reads true k t = own t
refuse_if-reads false k t = fine-reads

or_else-reads : (a b : Result ⊤ Refusal) → Reads a → Reads b → Reads (a or_else b)
unfolding ◌or_else◌
or_else-reads (Ok _) b p q = q
or_else-reads (Err k) b p q = p

-- ---- 4, 5 and 34

started-reads : (d q : Bytes) (o : Option Init) → Reads (refusal_of (latch_with d q o))
unfolding latch_with
started-reads d q none = own refl
started-reads d q (some i) = fine-reads

keyword-reads : (w : Keyword) (k : Bytes) (ts : List Bytes) → Reads (refusal_of (by_keyword w k ts))
unfolding model_stmt latch_stmt
keyword-reads key.Model k [] = own refl
keyword-reads key.Model k (n ∷ ts) = fine-reads
keyword-reads key.Inputs k ts = fine-reads
keyword-reads key.Outputs k ts = fine-reads
keyword-reads key.Latch k [] = own refl
keyword-reads key.Latch k (d ∷ []) = own refl
keyword-reads key.Latch k (d ∷ q ∷ ts) = started-reads d q (init_among ts)
keyword-reads key.Names k ts = fine-reads
keyword-reads key.End k ts = fine-reads
keyword-reads key.Exdc k ts = fine-reads
keyword-reads key.Unsupported k ts = own refl
keyword-reads key.Cube k ts = fine-reads

rows-read : (rows : List (List Bytes)) → Reads (first_bad (flat_map parsed_line rows))
unfolding flat_map parsed_line first_bad stmt_of
rows-read [] = fine-reads
rows-read ([] ∷ rows) = rows-read rows
rows-read ((k ∷ ts) ∷ rows) = or_else-reads _ _ (keyword-reads (keyword_of k) k ts) (rows-read rows)

bad-reads : (s : Bytes) → Reads (first_bad (parsed s))
unfolding parsed
bad-reads s = rows-read (map tokens (joined (lines s)))

-- ---- 7 to 13

naming-reads : (seen : Bool) (earlier : List Bytes) (ds : List Decl) → Reads (naming seen earlier ds)
unfolding naming
naming-reads seen earlier [] = fine-reads
naming-reads seen earlier (model ∷ ds) = or_else-reads _ _ (refuse_if-reads seen _ refl) (naming-reads true earlier ds)
naming-reads seen earlier (end ∷ ds) = or_else-reads _ _ (refuse_if-reads (not seen) _ refl) (naming-reads seen earlier ds)
naming-reads seen earlier (inputs ns ∷ ds) = or_else-reads _ _ (refuse_if-reads _ _ refl) (naming-reads seen _ ds)
naming-reads seen earlier (outputs ns ∷ ds) = naming-reads seen earlier ds
naming-reads seen earlier (gate (latch l) ∷ ds) = or_else-reads _ _ (refuse_if-reads _ _ refl) (naming-reads seen _ ds)
naming-reads seen earlier (gate (cover [] ls) ∷ ds) = own refl
naming-reads seen earlier (gate (cover (n ∷ ns) ls) ∷ ds) = or_else-reads _ _ (refuse_if-reads _ _ refl) (naming-reads seen _ ds)

cover-reads : (d : Def) → Reads (cover_fault d)
unfolding cover_fault
cover-reads (latch l) = fine-reads
cover-reads (cover ns ls) =
    or_else-reads _ _ (refuse_if-reads _ _ refl) (refuse_if-reads _ _ refl)

covers-read : (ds : List Def) → Reads (cover_faults ds)
unfolding cover_faults
covers-read [] = fine-reads
covers-read (d ∷ ds) = or_else-reads _ _ (cover-reads d) (covers-read ds)

decls-read : (ds : List Decl) → Reads (decl_fault ds)
unfolding decl_fault
decls-read ds =
    or_else-reads _ _ (refuse_if-reads _ _ refl)
    (or_else-reads _ _ (naming-reads false [] ds) (or_else-reads _ _ (refuse_if-reads _ _ refl) (covers-read _)))

-- ---- all

fault-reads : (s : Bytes) → Reads (read_fault s)
unfolding read_fault
fault-reads s =
    or_else-reads _ _ (refuse_if-reads _ _ refl)
    (or_else-reads _ _ (refuse_if-reads _ _ refl) (or_else-reads _ _ (bad-reads s) (decls-read (decls_of s))))

answer-reads : (c : Result ⊤ Refusal) (o : Option Net) → Reads c → (r : Refusal) → answer c o ≡ Err r → InReading r
unfolding answer
answer-reads (Ok _) none p r e = own {k = refusal.CombinationalLoop} refl r (let q : refusal.CombinationalLoop ≡ r = cc in rw q)
answer-reads (Ok _) (some n) p r e = absurd (let z : ◌≡◌ {A = ℕ} 0 1 = cc in omega arith)
answer-reads (Err k) o p r e = p r (let q : k ≡ r = cc in rw q)

pub reading-refuses : (s : Bytes) (r : Refusal) → read_text s ≡ Err r → InReading r
unfolding read_text
reading-refuses s r e = answer-reads (read_fault s) (sorted (built_from (decls_of s))) (fault-reads s) r e
