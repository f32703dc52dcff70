-- What reading a text gives: refusals in order, and the network read (document 01, "Reading refuses, in order"). Refusal 1, which asks for
-- lent cells, stands with the code. Assumes nothing: these are definitions.
use Rattle.std.specs.Prelude.{Bool, true, false, ◌&&◌, ◌||◌, not, ℕ, ◌+◌, ◌-◌, ◌*◌, eqb, leb, ltb, length, if◌then◌else◌, ⊤, Result, Ok, Err}
use mathlib.Core.List.{List, [], ◌∷◌, ◌++◌, map, flat_map}
use Rattle.std.proofs.Math.Option.{Option, none, some}
use Rattle.lists.specs.Lists.{Bytes, all, any, sum_of, elem, known}
use Rattle.refusals.specs.Order.{◌or_else◌, refuse_if, fine}
use Rattle.refusals.specs.declared.Refusal.{Refusal}
use Rattle.refusals.specs.declared.Refusal.TheVariants as refusal
use Rattle.signal.specs.Signal.{Signal}
use Rattle.network.specs.Net.{Net}
use Rattle.network.specs.Sizes.{over_sizes}
use Rattle.sort_order.specs.Sorted.{sorted}
use Rattle.blif_text.specs.Lines.{max_text}
use Rattle.blif_text.specs.Statements.{parsed, first_bad}
use Rattle.blif_text.specs.Decls.{Def, latch, cover, Decl, model, end, inputs, outputs, gate, decls_of, ins, outs, defs, cover_out, defines, used_names, columns, output, is_one}
use Rattle.blif_reading.specs.Lookup.{lookup}
use Rattle.blif_reading.specs.Build.{build}
use Rattle.blif_reading.specs.TextModel.{model_of}

-- ---- 6: sizes

-- "plus k gates when k is 2 or more"
unfoldable pub added : ℕ → ℕ
added k = if ltb 1 k then k else 0

-- "a `.latch` is one gate"; "a `.names` .. one gate, plus k gates when k is 2 or more"
unfoldable pub gate_count : Def → ℕ
gate_count (latch d) = 1
gate_count (cover ns ls) = 1 + added (length ls)

-- "a `.latch` is .. three pins; a `.names` with n names before its last and k cube lines is (k + 1) × (n + 2) pins"
unfoldable pub pin_count : Def → ℕ
pin_count (latch d) = 3
pin_count (cover ns ls) = (length ls + 1) * (length ns - 1 + 2)

-- "6 when a size is passed"
unfoldable pub too_large : List Decl → Bool
too_large ds = over_sizes (length (ins ds)) (length (outs ds)) (sum_of gate_count (defs ds)) (sum_of pin_count (defs ds))

-- ---- 7 to 10: naming

-- a name of these stands earlier among them, or in `earlier`
unfoldable pub defined_twice : List Bytes → List Bytes → Bool
defined_twice earlier [] = false
defined_twice earlier (n ∷ ns) = known n earlier || defined_twice (earlier ++ (n ∷ [])) ns

-- "7 at a second `.model`; 8 at `.end` before any `.model`; 9 when `.names` is empty; 10 when a name is defined twice by inputs,
-- latch outputs or covers"; `seen` says that there was a `.model`, `earlier` lists the names defined so far
unfoldable pub naming : Bool → List Bytes → List Decl → Result ⊤ Refusal
naming seen earlier [] = fine
naming seen earlier (model ∷ ds) = refuse_if seen refusal.SecondModel or_else naming true earlier ds
naming seen earlier (end ∷ ds) = refuse_if (not seen) refusal.EndBeforeModel or_else naming seen earlier ds
naming seen earlier (inputs ns ∷ ds) = refuse_if (defined_twice earlier ns) refusal.DefinedTwice or_else naming seen (earlier ++ ns) ds
naming seen earlier (outputs ns ∷ ds) = naming seen earlier ds
naming seen earlier (gate (latch d) ∷ ds) = refuse_if (known d.output earlier) refusal.DefinedTwice or_else naming seen (earlier ++ (d.output ∷ [])) ds
naming seen earlier (gate (cover [] ls) ∷ ds) = Err refusal.NamesEmpty
naming seen earlier (gate (cover (n ∷ ns) ls) ∷ ds) =
    refuse_if (known (cover_out (n ∷ ns)) earlier) refusal.DefinedTwice or_else naming seen (earlier ++ (cover_out (n ∷ ns) ∷ [])) ds

-- ---- 11: uses

-- "11 when an output, latch input or cover input is undefined"
unfoldable pub undefined : List Decl → Bool
undefined ds = not (all (λ n. known n (ins ds ++ map defines (defs ds))) (outs ds ++ flat_map used_names (defs ds)))

-- ---- 12 and 13: covers

-- "a column other than 0, 1, dash" is wrong
abbrev pub is_column : ℕ → Bool
is_column c = elem c (48 ∷ 49 ∷ 45 ∷ [])

-- "12 when a line has neither one nor two tokens, or the wrong number of columns, a column other than 0, 1, dash, or an output
-- other than 0, 1"
unfoldable pub good_line : ℕ → List Bytes → Bool
good_line width ts =
    elem (length ts) (1 ∷ 2 ∷ []) && eqb width (length (columns ts)) && all is_column (columns ts)
    && known (output ts) ((48 ∷ []) ∷ (49 ∷ []) ∷ [])

-- "13 when its lines are all good but differ in output"
unfoldable pub cover_fault : Def → Result ⊤ Refusal
cover_fault (latch d) = fine
cover_fault (cover ns ls) =
    refuse_if (not (all (good_line (length ns - 1)) ls)) refusal.WrongCubeLine
    or_else refuse_if (any is_one ls && not (all is_one ls)) refusal.OutputsDiffer

-- "Then cover by cover": "The first wrong column of the first wrong cube line ends the whole pass"
unfoldable pub cover_faults : List Def → Result ⊤ Refusal
cover_faults [] = fine
cover_faults (g ∷ gs) = cover_fault g or_else cover_faults gs

-- ---- reading

-- 6 to 13
unfoldable pub decl_fault : List Decl → Result ⊤ Refusal
decl_fault ds =
    refuse_if (too_large ds) refusal.SizePassed
    or_else naming false [] ds
    or_else refuse_if (undefined ds) refusal.Undefined
    or_else cover_faults (defs ds)

-- "2 when the text is over 32,768 bytes. 3 when it has a byte of 128 or more", then 4, 5 and 34, then 6 to 13
unfoldable pub read_fault : Bytes → Result ⊤ Refusal
read_fault text =
    refuse_if (ltb max_text (length text)) refusal.TextTooLong
    or_else refuse_if (any (leb 128) text) refusal.HighByte
    or_else first_bad (parsed text)
    or_else decl_fault (decls_of text)

-- "14 at a combinational loop among the gates as built"
unfoldable pub answer : Result ⊤ Refusal → Option Net → Result Net Refusal
answer (Ok _) none = Err refusal.CombinationalLoop
answer (Ok _) (some net) = Ok net
answer (Err r) net = Err r

-- the signal of a name that these declarations define
abbrev pub signal_of : List Decl → Bytes → Signal
signal_of ds = lookup (model_of ds)

-- the gates as built
unfoldable pub built_from : List Decl → Net
built_from ds = build (signal_of ds) (model_of ds)

-- what reading gives, where the cells suffice: a refusal, or the gates as built, and "Then the network is sorted"
unfoldable pub read_text : Bytes → Result Net Refusal
read_text text = answer (read_fault text) (sorted (built_from (decls_of text)))
