-- Where the parts of a sheet stand in its text, as `read_sheet` answers them. Assumes nothing: these are definitions.
--   sheet_answer t s   the places of the sheet s in its text t, or 32
use Rattle.std.proofs.Math.Option.{Option, none, some}
use Rattle.std.specs.Prelude.{◌-◌, length, Result, Ok, Err}
use Rattle.lists.specs.Lists.{Bytes}
use Rattle.refusals.specs.declared.Refusal.TheVariants as refusal
use Rattle.pass_sheet.specs.Sheet.{Sheet, command_text}
use Rattle.pass_sheet.specs.declared.SheetPlaces.{SheetPlaces}
use Rattle.refusals.specs.declared.Refusal.{Refusal}

-- how many bytes the part has, which stands behind `part=`; how many rows; and where these start, which stand at the end
abbrev pub places_of : Bytes → Sheet → SheetPlaces
places_of t s = record { part = length s.part; rows = length s.rows; commands = length t - length (command_text s) }

-- the sheet's places, or 32 where there is none
abbrev pub sheet_answer : Bytes → Option Sheet → Result SheetPlaces Refusal
sheet_answer t none = Err refusal.WrongSheet
sheet_answer t (some s) = Ok (places_of t s)
