-- A network that is read: valid, formed, sorted, plain, without a loop, and within the sizes. Assumes nothing.
use Rattle.std.specs.Prelude.{Ok}
use mathlib.Core.Path.{◌≡◌, sym, ap, ◌∙◌}
use mathlib.Core.Bool.{true}
use mathlib.Core.List.{List}
use native.Mathlib.Omega.{arith}
use lib.ListN.{length, get_elem?, length-map}
use Rattle.lists.specs.Lists.{Bytes, all}
use Rattle.lists.proofs.Every.{every-place}
use Rattle.gates.specs.Gate.{Gate, is_plain}
use Rattle.network.specs.Net.{Net, Valid, Formed, Loop, topo_sorted}
use Rattle.network.specs.Between.Sizes.{WithinSizes}
use Rattle.network.specs.Record.{pin_cells}
use Rattle.network.proofs.Summary.{sorted-free}
use Rattle.sort_order.proofs.Summary.{sorted-keeps, sort-sorts}
use Rattle.sort_order.proofs.Keeps.{sorted-plain}
use Rattle.blif_text.specs.Decls.{Decl, outs, defs, decls_of}
use Rattle.blif_text.proofs.PlainLatches.{declared-plain}
use Rattle.blif_reading.specs.Read.{signal_of, built_from, read_text}
use Rattle.blif_reading.proofs.BuiltCounts.{built-gates, built-pins}
use Rattle.blif_reading.proofs.BuiltEach.{built-formed, built-plain}
use Rattle.blif_reading.proofs.BuiltNet.{gates-are}
use Rattle.blif_reading.proofs.SizeLimits.{sizes-within}
use Rattle.blif_reading.proofs.Passed.{passed-valid}
use Rattle.blif_reading.proofs.Accepted.{passed-read}

-- what is known of a network that is read
pub record NetRead (net : Net) : Type 0 where
  pub valid : Valid net
  pub formed : Formed net
  pub sorted : topo_sorted net ≡ true
  pub plain : all is_plain net.gates ≡ true
  pub free : Loop net → ⊥
  pub sizes : WithinSizes net.inputs (length net.outputs) (length net.gates) (length (pin_cells net.gates))

-- the gates as built have pin counts that their forms can have
formed-built : (ds : List Decl) → Formed (built_from ds)
formed-built ds g x e = every-place (built-formed (signal_of ds) (defs ds)) g x (ap (λ (l : List Gate). get_elem? l g) (gates-are ds) ∙ e)

-- and their flip-flops are plain
plain-built : (s : Bytes) → all is_plain (built_from (decls_of s)).gates ≡ true
plain-built s = let ds = decls_of s in ap (all is_plain) (sym (gates-are ds)) ∙ built-plain (signal_of ds) (defs ds) (declared-plain s)

pub read-net : (s : Bytes) (new : Net) → read_text s ≡ Ok new → NetRead new
unfolding built_from
read-net s new e =
    let r = passed-read s new e in
    let ds = decls_of s in
    let w = sizes-within ds r.0.within in
    let valid = passed-valid ds r.0 in
    let k = sorted-keeps (built_from ds) new valid r.1 in
    let sorts = sort-sorts (built_from ds) new valid r.1 in
    let g = ap length (gates-are ds) in
    let p = ap (λ (l : List Gate). length (pin_cells l)) (gates-are ds) in
    record {
      valid = k.valid;
      formed = k.formed (formed-built ds);
      sorted = sorts;
      plain = sorted-plain (built_from ds) new valid r.1 (plain-built s);
      free = sorted-free new sorts;
      sizes =
          record {
            inputs = omega (arith, k.inputs, w.inputs);
            outputs = omega (arith, k.outputs, length-map (outs ds) (signal_of ds), w.outputs);
            gates = omega (arith, k.gates, g, built-gates (signal_of ds) (defs ds), w.gates);
            pins = omega (arith, k.pins, p, built-pins (signal_of ds) (defs ds), w.pins);
          };
    }
