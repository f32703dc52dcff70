-- What is taken at power-up beside what the Berkeley text allows. Assumes nothing.
--   runs-allowed  each run that is taken is allowed
--   only-allowed  where every latch starts at 0 or 1, no other run is
use mathlib.Core.Path.{◌≡◌}
use mathlib.Core.Bool.{Bool}
use mathlib.Core.List.{List, Memᴰ}
use mathlib.Core.Logic.{◌⊎◌, inl, inr}
use Rattle.blif_meaning.specs.Model.{Init, I0, I1, DontCare, Unknown, LatchDef, Latch, Model, MayHold, Holds, MayRun, BlifRuns}

-- the value that is taken is one that the Berkeley text allows
may-hold : (i : Init) (b : Bool) → Holds i b → MayHold i b
may-hold I0 b e = e
may-hold I1 b e = e
may-hold DontCare b e = tt
may-hold Unknown b e = tt

-- of 0 and of 1 it allows no other
told-holds : (i : Init) (b : Bool) → (i ≡ I0) ⊎ (i ≡ I1) → MayHold i b → Holds i b
told-holds i b (inl e) h = rw e (rw e at h)
told-holds i b (inr e) h = rw e (rw e at h)

module _ {Name : Type 0} {m : Model Name} {rows outs : List (List Bool)} where
  pub runs-allowed : BlifRuns m rows outs → MayRun m rows outs
  runs-allowed r = record { held = r.held; starts = λ d w. may-hold d.init (r.held d.output) (r.starts d w); runs = r.runs }

  pub only-allowed : ((d : LatchDef Name) → Memᴰ (Latch d) m.blocks → (d.init ≡ I0) ⊎ (d.init ≡ I1)) → MayRun m rows outs → BlifRuns m rows outs
  only-allowed told r = record { held = r.held; starts = λ d w. told-holds d.init (r.held d.output) (told d w) (r.starts d w); runs = r.runs }
