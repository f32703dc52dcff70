-- `find_order` puts the stages together. Assumes nothing.
use mathlib.Core.Path.{◌∙◌}
use Prim.Native.Nat.{ℕ}
use native.Mathlib.Omega.{arith}
use lib.ListN.{length, length-replicate}
use Rattle.network.specs.Sizes.{max_gates}
use Rattle.sort.specs.Between.Steps.{cell_graph}
use Rattle.sort.proofs.Finding.{started-graph, found-is}
use Rattle.sort.proofs.Starting.{flopped-same, flopped-marked}
use Rattle.sort.proofs.find_order.Goals as goal

pub visit_all-at-requires : goal.visit_all-at-requires
visit_all-at-requires c = let G = cell_graph c.args.gates.now c.args.pins.now (length c.args.order.now) in
    let z = length-replicate {A = ℕ} max_gates 0 in
    let f = flopped-same c.requires.cells.combs c.mark_flops-k.ensures in
    rw c.mark_flops-k.auto.order record {
      cells = c.requires.cells;
      begins = record {
        long =
            record {
              counts = c.count_uses.auto.counts ∙ z;
              marks = c.mark_flops-k.auto.marks ∙ z;
              stack = c.start_stack-top.auto.stack ∙ z;
              order = omega (arith, c.mark_flops-k.auto.order);
            };
        counted = c.count_uses.ensures.counted;
        marked = flopped-marked G _ _ _ _ f;
        first = started-graph G _ _ _ _ _ _ _ f c.count_uses.ensures.counted c.start_stack-top.ensures;
      };
      within = c.count_uses.ensures.within;
    }

pub returns : goal.returns
returns c = let G = cell_graph c.args.gates.now c.args.pins.now (length c.args.order.now) in
    found-is G c.requires.cells.valid c.mark_flops-k.auto.order (flopped-same c.requires.cells.combs c.mark_flops-k.ensures) (rw c.mark_flops-k.auto.order at c.visit_all-at.ensures.recorded)
