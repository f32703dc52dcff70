-- What reading means, as a reviewer would read it (document 01, src/io/blif.rs). Assumes nothing.
--   built-means      a model that is accepted runs as the gates built for it
--   read-means       demand 2: a text that is read runs as the network read
--   read-allowed     what the Berkeley text allows at power-up, and what is taken of it
--   reading-refuses  which refusals reading answers
--   behind-end       what stands behind `.end` or `.exdc` is not read
--   behind-end-refused  but has to parse
use Rattle.refusals.specs.Order.{fine}
use Rattle.std.specs.Prelude.{Ok, Err}
use mathlib.Core.Path.{◌≡◌, refl}
use mathlib.Core.Bool.{Bool, false}
use mathlib.Core.List.{List, ◌++◌, Memᴰ}
use mathlib.Core.Logic.{◌↔◌, ◌⊎◌}
use Prim.Native.Nat.{◌≤◌}
use lib.Dec.{leb}
use lib.ListN.{length}
use Rattle.lists.specs.Lists.{Bytes, any}
use Rattle.network.specs.Net.{Net}
use Rattle.network.specs.Clock.{NetRuns}
use Rattle.network.specs.Settle.{run}
use Rattle.blif_meaning.specs.Model.{I0, I1, LatchDef, Latch, Model, MayRun, BlifRuns}
use Rattle.blif_meaning.proofs.PowerUp.{runs-allowed, only-allowed}
use Rattle.blif_text.specs.Lines.{max_text}
use Rattle.blif_text.specs.Statements.{parsed, first_bad}
use Rattle.blif_text.specs.Ended.{Ended, MayFollow}
use Rattle.network.proofs.Summary.{one-run-start}
use Rattle.refusals.specs.Numbers.{InReading}
use Rattle.refusals.specs.declared.Refusal.{Refusal}
use Rattle.blif_reading.specs.TextModel.{model_of_text}
use Rattle.blif_reading.specs.Lookup.{lookup}
use Rattle.blif_reading.specs.Build.{build}
use Rattle.blif_reading.specs.Accepts.{Accepts}
use Rattle.blif_reading.specs.Read.{read_text}
use Rattle.blif_reading.proofs.Meaning as meaning
use Rattle.blif_reading.proofs.Accepted as reading
use Rattle.blif_reading.proofs.ReadNet.{read-net}
use Rattle.blif_reading.proofs.Refusals as texts
use Rattle.blif_reading.proofs.BehindEnd as ended

-- a model that reading accepts, runs as the gates built for it run, and they run as it does: for every list of input
-- rows the same lists of output rows, by the Berkeley text on one side and by document 01's "A clock" on the other
pub built-means : (m : Model Bytes) → Accepts m → (rows outs : List (List Bool))
    → BlifRuns m rows outs ↔ NetRuns (build (lookup m) m) rows outs
built-means m acc = meaning.built-means m acc

-- demand 2: where a text is read as a network, for every list of input rows the text has just one list of outputs, by the Berkeley text,
-- and it is the network's, by the relation and by the function
pub read-means : (text : Bytes) (net : Net) → read_text text ≡ Ok net → (rows outs : List (List Bool))
    → (BlifRuns (model_of_text text) rows outs ↔ NetRuns net rows outs) × (BlifRuns (model_of_text text) rows outs ↔ (outs ≡ run net rows))
read-means text net e rows outs =
    let k = read-net text net e in
    let x = one-run-start net k.valid k.free rows outs in
    let m = reading.read-means text net e rows outs in
    (((λ r. x.1 (m.0 r)), (λ r. m.1 (x.0 r))), m)

-- "2 and 3 read as zero": of a text whose latches have such initial states the Berkeley text allows more runs, and the network's is one of
-- them; of any other text it is the only one
pub read-allowed : (text : Bytes) (net : Net) → read_text text ≡ Ok net → (rows : List (List Bool))
    → MayRun (model_of_text text) rows (run net rows)
    × (((d : LatchDef Bytes) → Memᴰ (Latch d) (model_of_text text).blocks → (d.init ≡ I0) ⊎ (d.init ≡ I1))
    → (outs : List (List Bool)) → MayRun (model_of_text text) rows outs → outs ≡ run net rows)
read-allowed text net e rows = (
  runs-allowed ((read-means text net e rows (run net rows)).1.1 refl),
  (λ told outs r. (read-means text net e rows outs).1.0 (only-allowed told r)),
)

-- "Reading refuses, in order: .. 2 .. 14", and 34, and nothing else; 1 is told of the lent cells
pub reading-refuses : (text : Bytes) (r : Refusal) → read_text text ≡ Err r → InReading r
reading-refuses = texts.reading-refuses

-- "`.end` stops naming, building and size counting as `.exdc` does": a text that one of them ends is read, or refused, as the same text with
-- more behind it, if that parses by itself and both fit
pub behind-end : (text rest : Bytes) → Ended text → MayFollow text rest → read_text (text ++ rest) ≡ read_text text
behind-end = ended.behind-end

-- "later statements must still parse": the first that does not refuses the text, whatever comes before it, but for 2, 3 and the refusals of
-- statements before it
pub behind-end-refused : (text rest : Bytes) → Ended text → length (text ++ rest) ≤ max_text → any (leb 128) (text ++ rest) ≡ false
    → first_bad (parsed text) ≡ fine → {r : Refusal} → first_bad (parsed rest) ≡ Err r → read_text (text ++ rest) ≡ Err r
behind-end-refused text rest e few plain good bad = ended.behind-end-refused text rest e few plain good bad
