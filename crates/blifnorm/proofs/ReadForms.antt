-- The forms of a network that is read: none of its gates is an Xor or Xnor of the Nary form, so none is refused with 21. Assumes nothing.
use Rattle.std.specs.Prelude.{Ok}
use mathlib.Core.Path.{◌≡◌, refl, ap, ◌∙◌, subst}
use mathlib.Core.Bool.{Bool, true, false, cond, ◌&&◌}
use mathlib.Core.List.{List, [], ◌∷◌, map}
use Prim.Native.Nat.{ℕ, zero, suc, ◌+◌}
use lib.Dec.{ltb}
use lib.ListN.{length, get_or}
use Rattle.lists.specs.Lists.{Bytes, any}
use Rattle.lists.proofs.Every.{Every, every-nil, every-cons, every_append, every_map, every-no}
use Rattle.signal.specs.Signal.{Signal}
use Rattle.gates.specs.Gate.{OrN, AndN, Buf, Gate, Comb, Dff, pins}
use Rattle.gates.specs.Forms.{form_number, form_cell}
use Rattle.network.specs.Net.{Net}
use Rattle.network.specs.Renumber.{remap_gate, place_of, gate_or, permuted}
use Rattle.sort_order.proofs.Sorting.{sorted-order}
use Rattle.blif_text.specs.Decls.{Decl, defs, decls_of}
use Rattle.blif_meaning.specs.Model.{Line, Block, Latch, Cover}
use Rattle.blif_reading.specs.Build.{literals, literal_gate, line_gate, cover_gate, line_gates, block_gate, new_gates, block_gates, all_new_gates}
use Rattle.blif_reading.specs.TextModel.{block_of}
use Rattle.blif_writing.specs.WrittenModel.{exclusive, max_exclusive, wide}
use Rattle.blif_reading.specs.Read.{signal_of, built_from, read_text}
use Rattle.blif_reading.proofs.Passed.{passed-valid}
use Rattle.blif_reading.proofs.Accepted.{passed-read}

-- an Xor or Xnor of the Nary form, with any number of inputs
abbrev pub exclusive_gate : Gate → Bool
exclusive_gate x = exclusive (form_cell x)

-- none of these is one
abbrev pub NoExclusive : List Gate → Type 0
NoExclusive xs = Every (λ (x : Gate). exclusive_gate x ≡ false) xs

-- ---- the gates as built

literal-other : (p : Bool) (ls : List Signal) → exclusive_gate (literal_gate p ls) ≡ false
literal-other true [] = refl
literal-other true (l ∷ []) = refl
literal-other true (l ∷ k ∷ ls) = refl
literal-other false [] = refl
literal-other false (l ∷ []) = refl
literal-other false (l ∷ k ∷ ls) = refl

line_other : (ss : List Signal) (l : Line) → exclusive_gate (line_gate ss l) ≡ false
line_other ss l = literal-other l.out (literals l.cols ss)

joined-other : (b : Bool) → exclusive (form_number (cond b OrN AndN)) ≡ false
joined-other true = refl
joined-other false = refl

cover-other : (k : ℕ) (ss : List Signal) (ls : List Line) → exclusive_gate (cover_gate k ss ls) ≡ false
cover-other k ss [] = refl
cover-other k ss (l ∷ []) = line_other ss l
cover-other k ss (l ∷ m ∷ ls) = joined-other l.out

lines_other : (ss : List Signal) (ls : List Line) → NoExclusive (line_gates ss ls)
lines_other ss [] = every-nil
lines_other ss (l ∷ []) = every-nil
lines_other ss (l ∷ m ∷ ls) = every_map (line_gate ss) (l ∷ m ∷ ls) (line_other ss)

module _ (find : Bytes → Signal) where
  block-other : (k : ℕ) (b : Block Bytes) → exclusive_gate (block_gate find k b) ≡ false
  block-other k (Latch l) = refl
  block-other k (Cover xs y ls) = cover-other k (map find xs) ls

  more-other : (b : Block Bytes) → NoExclusive (new_gates find b)
  more-other (Latch l) = every-nil
  more-other (Cover xs y ls) = lines_other (map find xs) ls

  block_gates-other : (k : ℕ) (bs : List (Block Bytes)) → NoExclusive (block_gates find k bs)
  block_gates-other k [] = every-nil
  block_gates-other k (b ∷ bs) = every-cons (block-other k b) (block_gates-other (k + length (new_gates find b)) bs)

  new_gates-other : (bs : List (Block Bytes)) → NoExclusive (all_new_gates find bs)
  new_gates-other [] = every-nil
  new_gates-other (b ∷ bs) = every_append (more-other b) (new_gates-other bs)

built-other : (ds : List Decl) → NoExclusive (built_from ds).gates
unfolding built_from
built-other ds =
    let bs : List (Block Bytes) = map block_of (defs ds) in
    every_append (block_gates-other (signal_of ds) (length bs) bs) (new_gates-other (signal_of ds) bs)

-- ---- the gates sorted

remap-other : (π : ℕ → ℕ) (x : Gate) → exclusive_gate (remap_gate π x) ≡ exclusive_gate x
remap-other π (Comb f ps) = refl
remap-other π (Dff s) = refl

-- what stands at a place, or a buffer where nothing does
place_other : {xs : List Gate} → NoExclusive xs → (g : ℕ) → exclusive_gate (get_or xs g (Comb Buf [])) ≡ false
place_other every-nil g = refl
place_other (every-cons h hs) zero = h
place_other (every-cons h hs) (suc g) = place_other hs g

permuted-other : (l : List ℕ) (net : Net) → NoExclusive net.gates → NoExclusive (permuted l net).gates
permuted-other l net h = every_map (λ (o : ℕ). remap_gate (place_of l) (gate_or net o)) l (λ o. remap-other (place_of l) (gate_or net o) ∙ place_other h o)

-- ---- what is read

-- no gate of a network that is read is an Xor or Xnor of the Nary form
pub read-no-exclusive : (s : Bytes) (new : Net) → read_text s ≡ Ok new → NoExclusive new.gates
read-no-exclusive s new e =
    let ds = decls_of s in
    let r = passed-read s new e in
    let o = sorted-order (built_from ds) (passed-valid ds r.0) new r.1 in
    subst (λ (x : Net). NoExclusive x.gates) o.2 (permuted-other o.0 (built_from ds) (built-other ds))

not_wide : (x : Gate) → exclusive_gate x ≡ false → wide x ≡ false
not_wide x h = ap (λ (b : Bool). b && ltb max_exclusive (length (pins x))) h

-- so that none is too wide to be written
pub read-not-wide : (s : Bytes) (new : Net) → read_text s ≡ Ok new → any wide new.gates ≡ false
read-not-wide s new e = every-no wide not_wide (read-no-exclusive s new e)
