-- One gate placed: its record and its run of pins, and the block that it is placed for. Assumes nothing.
use Rattle.std.specs.Prelude.{Result, Ok, Err, unwrap_or}
use mathlib.Core.Path.{◌≡◌, refl, sym, ap, ap₂, ◌∙◌, subst}
use mathlib.Core.Bool.{Bool, true, false, not, and-true, false≢true}
use borrow.Author.Tests.{ne_eqb}
use mathlib.Core.List.{List, [], ◌∷◌, ◌++◌, map}
use mathlib.Core.Option
use Prim.Native.Nat.{ℕ, zero, suc, ◌+◌, ◌-◌, ◌*◌, ◌≤◌, ◌<◌}
use native.Mathlib.Nat.{add-zero}
use native.Mathlib.Omega.{arith}
use lib.ListN.{length, get_or, take, drop, length-take, length-drop, length-map}
use lib.Seq.{slice, get_or-take, get_or-drop, take-length, drop-drop, length-slice}
use Rattle.lists.specs.Lists.{Bytes, all}
use Rattle.lists.specs.Between.Lists.{overwrite_at}
use Rattle.lists.proofs.OverAt.{part-laid}
use Rattle.lists.proofs.Places.{run-within}
use Rattle.signal.specs.declared.Signal as signal
use Rattle.gates.specs.declared.Gate.TheVariants as G
use Rattle.network.specs.Record.{gate_width}
use Rattle.network.specs.Between.Record.{hand_record, LayRoom, GateLaid}
use Rattle.network.proofs.RecordCells.{record-in}
use Rattle.blif_meaning.specs.Model.{Init, Unknown, init_bit, plain_latch}
use Rattle.blif_text.specs.Between.Places.{token_of, tokens_of}
use Rattle.blif_text.specs.Between.Walk.{rows_from}
use Rattle.blif_text.specs.Statements.{init_among}
use Rattle.blif_text.specs.Between.PlacedStatements.{init_in, latch_in, start_of}
use Rattle.std.specs.declared.option.Option as std-option
use Rattle.blif_text.proofs.Starts.{unwrap-start_of}
use Rattle.blif_text.proofs.WordLaws.{drop-take}
use Rattle.blif_text.specs.Decls.{Def, latch, cover, cover_ins, used_names}
use Rattle.blif_text.specs.Between.Blocks.{first_name, name_count, line_count, def_from, def_at, Blocks}
use Rattle.blif_text.proofs.BlockLaws.{cover-from}
use Rattle.blif_text.proofs.RowWalk.{part, part_length}
use Rattle.blif_reading.specs.Between.Working.{placed_count}
use Rattle.blif_read_signals.specs.Between.Resolve.{is_found, placed_to, Resolved}
use Rattle.blif_read_signals.specs.Between.Steps.{GateRoom, latch_of, and_in_hand, GatePlaced, DefPlaced}
use Rattle.refusals.specs.declared.Refusal.TheVariants as refusal
use Rattle.refusals.specs.declared.Refusal.{Refusal}

-- ---- placed or not

-- all names of a cover's inputs were
pub cover-placed : (text names : List ℕ) {sig : Bytes → ℕ} {q gates pins_in gates' : List ℕ} {j at : ℕ} {r : Bool}
    → Resolved (map sig (tokens_of text names)) (take (length pins_in - at) (drop at pins_in)) q r → r ≡ true → GateRoom gates pins_in j at (length names)
    → gates' ≡ overwrite_at (j * gate_width) (hand_record at (and_in_hand at (length names))) gates
    → GatePlaced sig (and_in_hand at (length names)) (tokens_of text names) (map sig (tokens_of text names)) j at gates pins_in gates'
    (take at pins_in ++ (q ++ drop (length pins_in - at) (drop at pins_in))) (Ok (at + length names))
cover-placed text names {sig} {pins_in = pins_in} {at = at} w t m g =
    let run : List ℕ = map sig (tokens_of text names) in
    let e : length names ≡ length run = sym (length-map (tokens_of text names) sig ∙ length-map names (token_of text)) in
    record {
      end = ap₂ (λ (k : ℕ) (b : Bool). placed_to b (at + k)) e (sym t ∙ w.found);
      records = λ v. g;
      runs = λ v. part-laid at run pins_in (omega (arith, m.few, m.cells.pin_room)) (w.laid t);
    }

-- a latch whose input has this cell, and room for it
module _ (sig : Bytes → ℕ) (x y : Bytes) (i : Init) {d : ℕ} (e : d ≡ sig x) where
  input-is : all is_found (map sig (x ∷ [])) ≡ is_found d
  input-is = and-true (is_found (sig x)) ∙ ap is_found (sym e)

  pub latch-missing : (j at : ℕ) (gates pins_in : List ℕ) {gates' pins_in' : List ℕ} → d ≡ 0
      → DefPlaced sig (latch (plain_latch x y i)) j at gates pins_in gates' pins_in' (Err refusal.Undefined)
  unfolding used_names
  latch-missing j at gates pins_in z =
      let f : all is_found (map sig (x ∷ [])) ≡ false = input-is ∙ ap is_found z in
      record {
        end = ap (λ (b : Bool). placed_to b (at + 3)) (sym f);
        records = λ u. absurd (false≢true (sym f ∙ u));
        runs = λ u. absurd (false≢true (sym f ∙ u));
      }

  module _ (one zero : signal.Signal) (v : Bool) (j at : ℕ) (gates pins_in : List ℕ) (m : GateRoom gates pins_in j at 3) where
    pub latch-fits : LayRoom (G.Dff (record { a = d }) one zero v) j at gates pins_in
    latch-fits =
        record {
          record-in = record-in m.low m.cells.gate_room;
          room = omega (arith, m.few, m.cells.pin_room);
          few = m.few;
          from = tt;
        }

    pub latch-placed : {gates' pins_in' : List ℕ} {r : ℕ} → (d ≡ 0 → ⊥) → one.a ≡ 1 → zero.a ≡ 0 → v ≡ init_bit i
        → GateLaid (G.Dff (record { a = d }) one zero v) j at gates pins_in gates' pins_in' r → DefPlaced sig (latch (plain_latch x y i)) j at gates pins_in gates' pins_in' (Ok r)
    unfolding used_names
    latch-placed n eo ez ev p =
        let f : all is_found (map sig (x ∷ [])) ≡ true = input-is ∙ ap not (ne_eqb 0 d (λ z. n (sym z))) in
        record {
          end = ap Ok p.end ∙ ap (λ (b : Bool). placed_to b (at + 3)) (sym f);
          records = λ w.
              p.records ∙ (λ k. overwrite_at (j * gate_width) (hand_record at (G.Dff (record { a = e k }) (record { a = eo k }) (record { a = ez k }) (ev k))) gates);
          runs = λ w. p.runs ∙ (λ k. overwrite_at at (e k ∷ eo k ∷ ez k ∷ []) pins_in);
        }

-- what the code tells of the start value, from the tokens behind the two names
pub start-told : (text tokens : List ℕ) {s : std-option.Option Bool} {v : Bool} → v ≡ unwrap_or s false
    → s ≡ start_of (init_among (tokens_of text (take (length tokens - 2) (drop 2 tokens)))) → v ≡ init_bit (latch_of text tokens).init
start-told text tokens e q =
    let n : length tokens ≡ 0 + length tokens = omega arith in
    e ∙ ap (λ (x : std-option.Option Bool). unwrap_or x false) (q ∙ ap (λ (x : List ℕ). start_of (init_among (tokens_of text x))) (sym (drop-take 2 (length tokens) tokens)))
    ∙ unwrap-start_of (init_in text tokens 2 (length tokens))
    ∙ ap (λ (k : ℕ). init_bit (Option.get_or (init_in text tokens 2 k) Unknown)) n

-- ---- the tokens of a latch, as the code takes them from all

module _ (text tokens : List ℕ) (f c : ℕ) (h : f + c ≤ length tokens) where
  abbrev behind : List ℕ
  behind = part f (f + c) tokens

  behind-length : length behind ≡ c
  behind-length = part_length tokens f (f + c) h ∙ omega arith

  name-at : (i : ℕ) → i < c → get_or behind i 0 ≡ get_or tokens (f + i) 0
  name-at i l = get_or-take (f + c - f) (drop f tokens) i 0 (omega arith) ∙ get_or-drop f tokens i 0

  rest-is : slice (0 + 2) (0 + length behind) behind ≡ slice (f + 2) (f + c) tokens
  rest-is =
      let n : 0 + length behind ≡ length behind = omega arith in
      ap (λ (k : ℕ). drop 2 (take k behind)) n
      ∙ ap (drop 2) (take-length behind ∙ sym (drop-take f (f + c) tokens))
      ∙ drop-drop 2 f (take (f + c) tokens)

  latch-part : 2 ≤ c → latch_of text behind ≡ latch_in text tokens (record { first = f; count = c })
  latch-part two =
      let a : get_or behind 0 0 ≡ get_or tokens f 0 = name-at 0 (omega arith) ∙ ap (λ (k : ℕ). get_or tokens k 0) (add-zero f) in
      let b : get_or behind 1 0 ≡ get_or tokens (f + 1) 0 = name-at 1 (omega arith) in
      (λ i. plain_latch (token_of text (a i)) (token_of text (b i)) (Option.get_or (init_among (tokens_of text (rest-is i))) Unknown))

-- ---- the block's definition

take-map : {A B : Type 0} (g : A → B) (m : ℕ) (l : List A) → take m (map g l) ≡ map g (take m l)
take-map g zero l = refl
take-map g (suc m) [] = refl
take-map {A} {B} g (suc m) (x ∷ l) = ap (λ (r : List B). g x ∷ r) (take-map g m l)

-- the names of a cover's inputs, as the code takes them from the tokens
abbrev inputs_at : List ℕ → ℕ → ℕ → List ℕ
inputs_at tokens f c = take (f + c - 1 - f) (drop f tokens)

module _ {text tokens : List ℕ} {n : ℕ} {blocks : List ℕ} {f c : ℕ} (j : ℕ) (b : Blocks text tokens n blocks (j + 1)) (ef : f ≡ first_name blocks j) (ec : c ≡ name_count blocks j) where
  -- as the record says
  def_is : def_at text tokens n blocks j ≡ def_from text tokens n f c (line_count blocks j)
  def_is = ap₂ (λ (a k : ℕ). def_from text tokens n a k (line_count blocks j)) (sym ef) (sym ec)

  -- a latch's tokens are among them, two or more
  pub latch-among : {l : ℕ} → l ≡ line_count blocks j → c ≡ 0 → (f + l ≤ length tokens) × (2 ≤ l)
  latch-among el z =
      let k = b.each j (omega arith) in
      (omega (arith, k.latch_tokens (sym ec ∙ z), b.places.room), omega (arith, k.latch_names (sym ec ∙ z)))

  latch-is : {l : ℕ} → l ≡ line_count blocks j → c ≡ 0 → def_at text tokens n blocks j ≡ latch (latch_of text (part f (f + l) tokens))
  latch-is {l} el z =
      let m = latch-among el z in
      def_is
      ∙ ap₂ (λ (k i : ℕ). def_from text tokens n f k i) z (sym el)
      ∙ ap latch (sym (latch-part text tokens f l m.0 m.1))

  cover-is : (c ≡ 0 → ⊥) → def_at text tokens n blocks j ≡ cover (tokens_of text (slice f (f + c) tokens)) (take (line_count blocks j) (rows_from text tokens n (f + c)))
  cover-is z = def_is ∙ cover-from text tokens n f c (line_count blocks j) z

  pub cover-among : f + c ≤ n
  cover-among = omega (arith, (b.each j (omega arith)).cover_names)

  inputs-length : length (inputs_at tokens f c) ≡ c - 1
  inputs-length = omega (arith, length-take (f + c - 1 - f) (drop f tokens), length-drop f tokens, cover-among, b.places.room)

  all-length : length (tokens_of text (slice f (f + c) tokens)) ≡ c
  all-length =
      let l : f + c ≤ length tokens = omega (arith, cover-among, b.places.room) in
      length-map (slice f (f + c) tokens) (token_of text) ∙ length-slice f (f + c) tokens l ∙ omega arith

  ins-are : cover_ins (tokens_of text (slice f (f + c) tokens)) ≡ tokens_of text (inputs_at tokens f c)
  unfolding cover_ins
  ins-are =
      let e : length (tokens_of text (slice f (f + c) tokens)) - 1 ≡ f + c - 1 - f = omega (arith, all-length) in
      ap (λ (k : ℕ). take k (tokens_of text (slice f (f + c) tokens))) e
      ∙ take-map (token_of text) (f + c - 1 - f) (slice f (f + c) tokens)
      ∙ ap (tokens_of text) (run-within f (f + c - 1 - f) (f + c) tokens (omega arith))

  module _ {gates pins_in : List ℕ} {at : ℕ} where
    pub cover-room : GateRoom gates pins_in j at (placed_count (def_at text tokens n blocks j)) → (c ≡ 0 → ⊥) → GateRoom gates pins_in j at (length (inputs_at tokens f c))
    cover-room m z =
        let e : placed_count (def_at text tokens n blocks j) ≡ length (inputs_at tokens f c) = ap placed_count (cover-is z) ∙ ap (λ (k : ℕ). k - 1) all-length ∙ sym inputs-length in
        rw e at m

    module _ {sig : Bytes → ℕ} {gates' pins_in' : List ℕ} {r : Result ℕ Refusal} where
      pub latch-def : {l : ℕ} → l ≡ line_count blocks j → c ≡ 0 → DefPlaced sig (latch (latch_of text (part f (f + l) tokens))) j at gates pins_in gates' pins_in' r
          → DefPlaced sig (def_at text tokens n blocks j) j at gates pins_in gates' pins_in' r
      unfolding used_names
      latch-def el z p = subst (λ (d : Def). DefPlaced sig d j at gates pins_in gates' pins_in' r) (sym (latch-is el z)) p

      pub cover-def : (c ≡ 0 → ⊥)
          → GatePlaced sig (and_in_hand at (length (inputs_at tokens f c))) (tokens_of text (inputs_at tokens f c)) (map sig (tokens_of text (inputs_at tokens f c))) j at gates pins_in gates' pins_in' r
          → DefPlaced sig (def_at text tokens n blocks j) j at gates pins_in gates' pins_in' r
      unfolding used_names
      cover-def z p =
          let names = tokens_of text (inputs_at tokens f c) in
          subst (λ (d : Def). DefPlaced sig d j at gates pins_in gates' pins_in' r) (sym (cover-is z))
          (subst (λ (ns : List Bytes). GatePlaced sig (and_in_hand at (length ns)) ns (map sig ns) j at gates pins_in gates' pins_in' r) (sym ins-are)
          (subst (λ (k : ℕ). GatePlaced sig (and_in_hand at k) names (map sig names) j at gates pins_in gates' pins_in' r) (sym (length-map (inputs_at tokens f c) (token_of text))) p))
