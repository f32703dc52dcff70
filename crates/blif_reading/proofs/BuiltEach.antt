-- Each gate built for definitions: its form can have its pins, and it is plain where no latch has an enable or a reset. Assumes nothing.
use mathlib.Core.Path.{◌≡◌, refl, subst}
use mathlib.Core.Bool.{Bool, true, false, cond}
use mathlib.Core.List.{List, [], ◌∷◌, map, Memᴰ}
use Prim.Native.Nat.{ℕ, suc, ◌+◌}
use lib.ListN.{length}
use Rattle.lists.specs.Lists.{Bytes, all}
use Rattle.lists.proofs.Every.{Every, every-nil, every-cons, every_append, every_map, every-place}
use Rattle.lists.proofs.Places.{mem-place}
use Rattle.lists.proofs.Range.{mem-all}
use Rattle.signal.specs.Signal.{Signal, zero_s, one_s, invert}
use Rattle.gates.specs.Gate.{AndN, OrN, NandN, Buf, Gate, Comb, is_plain}
use Rattle.gates.specs.Forms.{formed}
use Rattle.blif_text.specs.Decls.{Def, latch, cover, cover_ins}
use Rattle.blif_meaning.specs.Model.{Line, LatchDef, plain_latch}
use Rattle.blif_reading.specs.Build.{literals, literal_gate, line_gate, gate_run, cover_gate, line_gates, latch_gate, new_gates, block_gates, all_new_gates}
use Rattle.blif_reading.specs.TextModel.{line_of, block_of}
use Rattle.blif_reading.specs.Between.Working.{built_gates}

-- a property of every gate that a cover may get
record OfCovers (P : Gate → Type 0) : Type 0 where
  and : (ss : List Signal) → P (Comb AndN ss)
  or : (ss : List Signal) → P (Comb OrN ss)
  nand : (ss : List Signal) → P (Comb NandN ss)
  buf : (s : Signal) → P (Comb Buf (s ∷ []))

module _ {P : Gate → Type 0} (has : OfCovers P) where
  -- ---- the gates of a cover

  literal-has : (p : Bool) (ls : List Signal) → P (literal_gate p ls)
  literal-has true [] = has.buf one_s
  literal-has true (l ∷ []) = has.buf l
  literal-has true (l ∷ k ∷ ls) = has.and (l ∷ k ∷ ls)
  literal-has false [] = has.buf zero_s
  literal-has false (l ∷ []) = has.buf (invert l)
  literal-has false (l ∷ k ∷ ls) = has.nand (l ∷ k ∷ ls)

  joined-has : (b : Bool) (ss : List Signal) → P (Comb (cond b OrN AndN) ss)
  joined-has true ss = has.or ss
  joined-has false ss = has.and ss

  cover-has : (k : ℕ) (ss : List Signal) (ls : List Line) → P (cover_gate k ss ls)
  cover-has k ss [] = has.buf zero_s
  cover-has k ss (l ∷ []) = literal-has l.out (literals l.cols ss)
  cover-has k ss (l ∷ m ∷ ls) = joined-has l.out (gate_run k (suc (suc (length ls))))

  lines-have : (ss : List Signal) (ls : List Line) → Every P (line_gates ss ls)
  lines-have ss [] = every-nil
  lines-have ss (l ∷ []) = every-nil
  lines-have ss (l ∷ m ∷ ls) = every_map (line_gate ss) (l ∷ m ∷ ls) (λ n. literal-has n.out (literals n.cols ss))

  module _ (signal_of : Bytes → Signal) where
    -- ---- all gates

    block_gates-have : (k : ℕ) (gs : List Def) → ((l : LatchDef Bytes) → Memᴰ (latch l) gs → P (latch_gate signal_of l)) → Every P (block_gates signal_of k (map block_of gs))
    block_gates-have k [] h = every-nil
    block_gates-have k (latch l ∷ gs) h = every-cons (h l (Memᴰ.head refl)) (block_gates-have (k + 0) gs (λ d m. h d (Memᴰ.tail m)))
    block_gates-have k (cover ns ls ∷ gs) h =
        every-cons (cover-has k (map signal_of (cover_ins ns)) (map line_of ls))
        (block_gates-have (k + length (new_gates signal_of (block_of (cover ns ls)))) gs (λ d m. h d (Memᴰ.tail m)))

    new_gates-have : (gs : List Def) → Every P (all_new_gates signal_of (map block_of gs))
    new_gates-have [] = every-nil
    new_gates-have (latch l ∷ gs) = new_gates-have gs
    new_gates-have (cover ns ls ∷ gs) = every_append (lines-have (map signal_of (cover_ins ns)) (map line_of ls)) (new_gates-have gs)

    -- each gate has the property, if those of the latches have it
    built-have : (gs : List Def) → ((l : LatchDef Bytes) → Memᴰ (latch l) gs → P (latch_gate signal_of l)) → Every P (built_gates signal_of gs)
    built-have gs h = every_append (block_gates-have (length (map block_of gs)) gs h) (new_gates-have gs)

module _ (signal_of : Bytes → Signal) (gs : List Def) where
  -- the form of each can have its pins
  pub built-formed : Every (λ x. formed x ≡ true) (built_gates signal_of gs)
  built-formed = built-have (record { and = λ ss. refl; or = λ ss. refl; nand = λ ss. refl; buf = λ s. refl }) signal_of gs (λ l m. refl)

  -- each is plain, if each latch is its input and its output alone
  pub built-plain : ((l : LatchDef Bytes) → Memᴰ (latch l) gs → plain_latch l.input l.output l.init ≡ l) → all is_plain (built_gates signal_of gs) ≡ true
  built-plain h =
      let each : Every (λ x. is_plain x ≡ true) (built_gates signal_of gs) =
      built-have (record { and = λ ss. refl; or = λ ss. refl; nand = λ ss. refl; buf = λ s. refl }) signal_of gs
      (λ l m. subst (λ (d : LatchDef Bytes). is_plain (latch_gate signal_of d) ≡ true) (h l m) refl) in
      mem-all is_plain (built_gates signal_of gs) (λ x m. let at = mem-place (built_gates signal_of gs) x m in every-place each at.0 x at.1)
