-- What the functions of a report ask of rows and networks. Assumes nothing: these are definitions.
use Rattle.std.specs.Prelude.{◌≡◌, Bool, true, List, ℕ, suc, ◌≤◌, ◌<◌, eqb, length, Result, Ok}
use Rattle.lists.specs.Lists.{Bytes, all}
use Rattle.gates.specs.Gate.{is_plain}
use Rattle.network.specs.Net.{topo_sorted}
use Rattle.network.specs.Cells.{Lent, net_of, is_network}
use Rattle.blif_text.specs.Lines.{split}
use Rattle.run_rows.specs.Rows.{rows_text, Wide}
use Rattle.pass_report.specs.declared.Verdicts.{Verdicts}
use Rattle.refusals.specs.declared.Refusal.{Refusal}

-- the bytes are these rows of one output or more, each of this width with its LF
pub record OutputRows (outs : List (List Bool)) (width : ℕ) (t : Bytes) : Type 0 where
  -- the rows' text
  pub text : t ≡ rows_text outs
  -- the number of outputs
  pub outputs : ℕ
  -- there is one
  pub some-output : 0 < outputs
  -- each row has a bit for each
  pub wide : Wide outputs outs
  -- and an LF
  pub width_is : width ≡ suc outputs

-- at most 128 rows, so that the room for the outputs suffices
pub record FewRows (t : Bytes) : Type 0 where
  -- "1 to 128"
  pub few : length (split (eqb 10) t) ≤ 128

-- what is lent passes 20, 29 and 30, as every network does that was read, and there is room for the outputs of the commands t
pub record RunReady (l : Lent) (t : Bytes) : Type 0 where
  -- it is a network
  pub network : is_network l ≡ true
  -- sorted
  pub sorted : topo_sorted (net_of l) ≡ true
  -- with plain flip-flops
  pub plain : all is_plain (net_of l).gates ≡ true
  -- at most 128 rows
  pub commands : FewRows t

-- the counts of a report are at most 128, so that 32 bits hold each
pub record FewCounts (commands : ℕ) (v : Verdicts) : Type 0 where
  -- the rows
  pub rows : commands ≤ 128
  -- those accepted
  pub accepted : v.accepted ≤ 128
  -- those rejected
  pub rejected : v.rejected ≤ 128

-- the same of what is found
pub record FewJudged (commands : ℕ) (j : Result Verdicts Refusal) : Type 0 where
  -- whatever is counted is few
  pub counted : (v : Verdicts) → j ≡ Ok v → FewCounts commands v
