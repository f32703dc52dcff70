-- What is written is read, as a network with equal outputs; so no text is written for two networks with other outputs. Assumes nothing.
use Rattle.std.specs.Prelude.{Ok}
use mathlib.Core.Path.{◌≡◌, refl, sym, ap, ap₂, ◌∙◌, subst}
use mathlib.Core.Bool.{false}
use mathlib.Core.Option.{Option, none, some}
use Prim.Native.Nat.{◌≤◌}
use lib.ListN.{length}
use Rattle.lists.specs.Lists.{Bytes}
use Rattle.network.specs.Net.{Net}
use Rattle.sort_order.specs.Sorted.{sorted}
use Rattle.sort_order.proofs.Sorting.{none-loop}
use Rattle.blif_meaning.specs.Model.{Model}
use Rattle.blif_writing.specs.WrittenModel.{written}
use Rattle.blif_writing.specs.Names.{name_bytes}
use Rattle.blif_writing.specs.Text.{text_of}
use Rattle.blif_reading.specs.TextModel.{model_of_text}
use Rattle.blif_reading.specs.Read.{too_large, answer, built_from, read_text}
use Rattle.blif_text.specs.Decls.{decls_of}
use Rattle.round_trip.specs.Conditions.{RoundTripNet}
use Rattle.network.specs.Settle.{SameOutputs}
use Rattle.blif_reading.specs.Accepts.{Accepts}
use Rattle.blif_writing.proofs.NamesDiffer.{unname, unname-name}
use Rattle.blif_reading.proofs.Meaning.{built_of, accepted-valid}
use Rattle.round_trip.proofs.WrittenMeans.{written-accepts, same-outputs}
use Rattle.round_trip.proofs.Rendered.{parses}
use Rattle.round_trip.proofs.NoFault.{no-fault}

pub same-sym : {a b : Net} → SameOutputs a b → SameOutputs b a
same-sym s = record { inputs = sym s.inputs; outputs = sym s.outputs; runs = λ rows. sym (s.runs rows); one_left = s.one_right; one_right = s.one_left }

pub same-trans : {a b c : Net} → SameOutputs a b → SameOutputs b c → SameOutputs a c
same-trans s t = record { inputs = s.inputs ∙ t.inputs; outputs = s.outputs ∙ t.outputs; runs = λ rows. s.runs rows ∙ t.runs rows; one_left = s.one_left; one_right = t.one_right }

module _ (net : Net) (good : RoundTripNet net) where
  pub round-trip-parses : model_of_text (text_of net) ≡ written name_bytes net
  round-trip-parses = parses net good.plain.flops

  accepts : Accepts (written name_bytes net)
  accepts = written-accepts name_bytes unname unname-name net good.valid good.plain.free good.formed

  -- the gates built for what is written are sorted
  sorts : (new : Net) × (sorted (built_of (written name_bytes net)) ≡ some new)
  sorts = go (sorted built) refl
    where
      built : Net
      built = built_of (written name_bytes net)

      go : (o : Option Net) → sorted built ≡ o → (new : Net) × (sorted built ≡ some new)
      go none e = absurd (accepts.free ((none-loop built (accepted-valid (written name_bytes net) accepts)).0 e))
      go (some new) e = (new, e)

  -- and so are those of the text, which gives equal outputs
  pub text-sorts : (new : Net) × (sorted (built_of (model_of_text (text_of net))) ≡ some new) × SameOutputs new net
  text-sorts =
      let s = sorts in (
        s.0,
        ap (λ (m : Model Bytes). sorted (built_of m)) round-trip-parses ∙ s.1,
        same-outputs name_bytes unname unname-name net good.valid good.plain.free good.formed s.0 s.1,
      )

  -- within our sizes it is read
  pub read_back : length (text_of net) ≤ 32768 → too_large (decls_of (text_of net)) ≡ false
      → (new : Net) × (read_text (text_of net) ≡ Ok new) × SameOutputs new net
  unfolding read_text answer built_from decls_of
  read_back short small =
      let s = text-sorts in
      (s.0, ap₂ answer (no-fault net good.plain.flops accepts short small) s.1, s.2)

-- two networks that share a text have as many inputs and outputs and equal outputs
pub never-shared : (a b : Net) → RoundTripNet a → RoundTripNet b → text_of a ≡ text_of b → SameOutputs a b
never-shared a b good_a good_b e =
    let x = text-sorts a good_a in
    let y = text-sorts b good_b in
    let p : some x.0 ≡ some y.0 = sym x.1 ∙ ap (λ (t : Bytes). sorted (built_of (model_of_text t))) e ∙ y.1 in
    let q : y.0 ≡ x.0 = cc in
    same-trans (same-sym x.2) (subst (λ (n : Net). SameOutputs n b) q y.2)
