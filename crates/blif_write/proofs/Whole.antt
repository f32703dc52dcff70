-- The whole text, and what `write_blif` answers. Assumes nothing.
use Rattle.std.specs.Prelude.{if◌then◌else◌, Ok}
use mathlib.Core.Path.{◌≡◌, sym, ◌∙◌, ap, ap₂}
use mathlib.Core.Bool.{Bool, true, false, ◌||◌, or-true}
use mathlib.Core.List.{List, [], ◌∷◌, ◌++◌, map, flat_map, append_assoc}
use Prim.Native.Nat.{ℕ, ◌-◌, ◌^◌, ◌≤◌, ◌<◌, min}
use native.Mathlib.Omega.{arith}
use lib.Dec.{ltb}
use lib.ListN.{length, get_or, take, drop, length-append, length-drop}
use lib.Seq.{take-append-le, length-take-le}
use borrow.Author.Tests.{lt-ltb, le-ltb}
use Rattle.lists.specs.Lists.{Bytes, bytes, zeros, any}
use Rattle.lists.proofs.Places.{flat_map-append}
use Rattle.lists.proofs.Over.{length-overwrite, take-overwrite}
use Rattle.lists.proofs.OverAt.{zeros-behind}
use Rattle.lists.proofs.Tests.{by_order}
use Rattle.refusals.specs.declared.Refusal.TheVariants as refusal
use Rattle.network.specs.Net.{Net}
use Rattle.network.specs.Cells.{Lent, is_network, net_of}
use Rattle.network.proofs.Lent.{network-readable, network-sizes}
use Rattle.blif_text.specs.Lines.{max_text}
use Rattle.blif_writing.specs.Names.{name_bytes}
use Rattle.blif_writing.specs.WrittenModel.{latch_blocks, comb_blocks, inverter_block, inverters, wide, input_names}
use Rattle.blif_writing.specs.Text.{line, all_lines, head_lines, text_of}
use Rattle.blif_write_names.specs.Between.Text.{Wrote}
use Rattle.blif_write.specs.Into.{write_outcome, refused_text, written_text, too_long, write_into}
use Rattle.blif_write.specs.Between.Parts.{latches_text, covers_text, head_text, Readable, inverters_text, Writable}

-- ---- the whole text

to-right : (a b c d e f : Bytes) → ((((a ++ b) ++ c) ++ d) ++ e) ++ f ≡ a ++ (b ++ (c ++ (d ++ (e ++ f))))
to-right a b c d e f = simp append_assoc

pub whole-text : (net : Net)
    → ((((head_text net.inputs net.outputs ++ latches_text 0 net.gates) ++ bytes "\n") ++ covers_text 0 net.gates) ++ inverters_text net)
    ++ bytes ".names vdd\n1\n.names gnd\n" ≡ text_of net
unfolding head_text line flat_map
whole-text net =
    let ls : List Bytes = all_lines (latch_blocks name_bytes 0 net.gates) in
    let cs : List Bytes = all_lines (comb_blocks name_bytes 0 net.gates) in
    let is : List Bytes = all_lines (map (inverter_block name_bytes) (inverters net)) in
    let ts : List Bytes = bytes ".names vdd" ∷ bytes "1" ∷ bytes ".names gnd" ∷ [] in
    let h : Bytes = head_text net.inputs net.outputs in
    to-right h (flat_map line ls) (bytes "\n") (flat_map line cs) (flat_map line is) (bytes ".names vdd\n1\n.names gnd\n")
    ∙ ap (λ (t : Bytes). h ++ (flat_map line ls ++ (bytes "\n" ++ (flat_map line cs ++ t)))) (sym (flat_map-append line is ts))
    ∙ ap (λ (t : Bytes). h ++ (flat_map line ls ++ (bytes "\n" ++ t))) (sym (flat_map-append line cs (is ++ ts)))
    ∙ ap (λ (t : Bytes). h ++ t) (sym (flat_map-append line ls ([] ∷ (cs ++ (is ++ ts)))))
    ∙ sym (flat_map-append line (head_lines (input_names name_bytes 0 net.inputs) (map name_bytes net.outputs)) (ls ++ ([] ∷ (cs ++ (is ++ ts)))))

-- ---- what refusal 20 leaves

pub network-read : (l : Lent) → ((i : ℕ) → get_or l.pins_lent i 0 < 2 ^ 32) → ((i : ℕ) → get_or l.outs_lent i 0 < 2 ^ 32) → is_network l ≡ true
    → Readable l.cells l.pins_lent l.counts.gates
network-read l p o e =
    let few = (network-sizes l e).few.gates in
    record {
      few = few;
      read = λ g h. let x = network-readable l (record { pin_words = p; out_words = o }) e g h in record { low = omega (arith, few); gate = x.0; is = x.1 };
    }

-- ---- the answers

module _ (l : Lent) (n : ℕ) where
  pub answers-layout : is_network l ≡ false → refused_text refusal.NotANetwork n ≡ write_into l n
  unfolding write_into
  answers-layout e = sym (rw e)

  pub answers-wide : is_network l ≡ true → any wide (net_of l).gates ≡ true → refused_text refusal.WideExclusive n ≡ write_into l n
  unfolding write_into
  answers-wide e w = sym (rw (e, w))

  answers-text : Writable l → (if too_long (text_of (net_of l)) n then refused_text refusal.TextDoesNotFit n else written_text (text_of (net_of l)) n) ≡ write_into l n
  unfolding write_into
  answers-text w = sym (rw (w.network, w.narrow))

  pub answers-long : Writable l → too_long (text_of (net_of l)) n ≡ true → refused_text refusal.TextDoesNotFit n ≡ write_into l n
  answers-long w e = ap (λ (b : Bool). if b then refused_text refusal.TextDoesNotFit n else written_text (text_of (net_of l)) n) (sym e) ∙ answers-text w

  pub answers-written : Writable l → too_long (text_of (net_of l)) n ≡ false → written_text (text_of (net_of l)) n ≡ write_into l n
  answers-written w e = ap (λ (b : Bool). if b then refused_text refusal.TextDoesNotFit n else written_text (text_of (net_of l)) n) (sym e) ∙ answers-text w

-- the two limits are one
too_long_lem : (t : Bytes) (n : ℕ) → min n max_text < length t → too_long t n ≡ true
too_long_lem t n h =
    by_order (length t) n
    (λ k. ap (λ (b : Bool). ltb n (length t) || b) (lt-ltb max_text (length t) (omega arith)) ∙ or-true (ltb n (length t)))
    (λ k. ap (λ (b : Bool). b || ltb max_text (length t)) (lt-ltb n (length t) k))

short-enough : (t : Bytes) (n : ℕ) → length t ≤ min n max_text → too_long t n ≡ false
short-enough t n h = ap₂ (λ (a b : Bool). a || b) (le-ltb n (length t) (omega arith)) (le-ltb max_text (length t) (omega arith))

-- a slice of which the room was lent to a writer of the text t, and what the writer left of it
module _ (t o q : Bytes) (room end : ℕ) (r : room ≡ min (length o) max_text) (w : Wrote t (take room o) q end) where
  room-length : length (take room o) ≡ room
  room-length = length-take-le room o (omega arith)

  left-length : length q ≡ room
  left-length = ap length w.out ∙ length-overwrite t (take room o) ∙ room-length

  after-length : length (q ++ drop room o) ≡ length o
  after-length = omega (arith, length-append q (drop room o), length-drop room o, left-length)

  wrote-long : room < end → too_long t (length o) ≡ true
  wrote-long h = too_long_lem t (length o) (omega (arith, w.len, room-length))

  wrote-short : end ≤ room → too_long t (length o) ≡ false
  wrote-short h = short-enough t (length o) (omega (arith, w.len, room-length))

  module _ (h : end ≤ room) where
    end_is : end ≡ length t
    end_is = omega (arith, w.len, room-length)

    text-kept : take end (q ++ drop room o) ≡ t
    text-kept =
        ap (λ (k : ℕ). take k (q ++ drop room o)) end_is
        ∙ take-append-le (length t) q (drop room o) (omega (arith, end_is, left-length))
        ∙ ap (take (length t)) w.out
        ∙ take-overwrite t (take room o) (omega (arith, end_is, room-length))

-- the same, where the text is the network's
module _ (l : Lent) (o : Bytes) {q : Bytes} {room end : ℕ} (w : Writable l) (r : room ≡ min (length o) max_text)
    (v : Wrote (text_of (net_of l)) (take room o) q end) where
  pub ends-long : room < end → refused_text refusal.TextDoesNotFit (length (q ++ drop room o)) ≡ write_into l (length o)
  ends-long h =
      let t : Bytes = text_of (net_of l) in
      ap (refused_text refusal.TextDoesNotFit) (after-length t o q room end r v) ∙ answers-long l (length o) w (wrote-long t o q room end r v h)

  pub ends-written : {z : Bytes} → end ≤ room → z ≡ zeros (length (take (length (q ++ drop room o) - end) (drop end (q ++ drop room o))))
      → write_outcome (Ok end) (take end (q ++ drop room o) ++ (z ++ drop (length (q ++ drop room o) - end) (drop end (q ++ drop room o)))) ≡ write_into l (length o)
  ends-written h e =
      let t : Bytes = text_of (net_of l) in
      ap₂ (λ (n : ℕ) (p : Bytes). write_outcome (Ok n) p) (end_is t o q room end r v h)
      (zeros-behind (q ++ drop room o) end (text-kept t o q room end r v h) (sym (end_is t o q room end r v h)) (after-length t o q room end r v) e)
      ∙ answers-written l (length o) w (wrote-short t o q room end r v h)
