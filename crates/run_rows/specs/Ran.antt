-- When a run answers a length, and what the rows written are then (document 02, CR 1: "Each clock does what demand 3's definition of a clock
-- says"). Assumes nothing: these are definitions.
--   RunsFor l t n        nothing refuses the network l, the rows' text t and n bytes
--   RanFor net t k out   the first k bytes are the rows that document 01's clock allows for the text's rows, and no others
use Rattle.std.specs.Prelude.{◌≡◌, Bool, true, List, ℕ, ◌-◌, ◌≤◌, length, take, drop}
use Rattle.std.proofs.Math.Option.{some}
use Rattle.lists.specs.Lists.{Bytes, all, zeros}
use Rattle.gates.specs.Gate.{is_plain}
use Rattle.network.specs.Net.{Net, topo_sorted}
use Rattle.network.specs.Clock.{NetRuns}
use Rattle.network.specs.Settle.{run}
use Rattle.network.specs.Cells.{Lent, net_of, is_network}
use Rattle.run_rows.specs.Rows.{rows_text, rows_of}

-- none of 20, 29, 30 and 31
pub record RunsFor (l : Lent) (t : Bytes) (n : ℕ) : Type 0 where
  -- the lent cells are a network
  pub network : is_network l ≡ true
  -- no combinational gate "has a gate input whose number is not lower than its own"
  pub sorted : topo_sorted (net_of l) ≡ true
  -- no flip-flop "has another enable or reset"
  pub plain : all is_plain (net_of l).gates ≡ true
  -- rows
  pub rows : List (List Bool)
  -- which the text has
  pub has : rows_of (net_of l).inputs t ≡ some rows
  -- the output rows fit
  pub room : length (rows_text (run (net_of l) rows)) ≤ n

-- the rows written
pub record RanFor (net : Net) (t : Bytes) (k : ℕ) (out : Bytes) : Type 0 where
  -- rows
  pub rows : List (List Bool)
  -- which the text has
  pub has : rows_of net.inputs t ≡ some rows
  -- rows of outputs
  pub outs : List (List Bool)
  -- which document 01's clock allows for these rows, clock by clock from the start values
  pub runs : NetRuns net rows outs
  -- and no others
  pub only : (others : List (List Bool)) → NetRuns net rows others → others ≡ outs
  -- the bytes are their text
  pub written : take k out ≡ rows_text outs
  -- all of it
  pub long : k ≡ length (rows_text outs)
  -- "with zero bytes after it"
  pub rest : drop k out ≡ zeros (length out - k)
