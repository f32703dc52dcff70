-- What `read_sheet` promises, as a reviewer would read it. Assumes nothing.
--   sheet-of-text    which texts are sheets

use mathlib.Core.Path.{◌≡◌}
use mathlib.Core.Option.{some}
use mathlib.Core.Logic.{◌↔◌}
use Rattle.lists.specs.Lists.{Bytes}
use Rattle.pass_sheet.specs.Sheet.{Sheet, sheet_of, sheet_text, IsSheet}
use Rattle.pass_sheet.proofs.SheetTexts as texts

-- "The sheet is lines in fixed order": a text is a sheet exactly where it is the text of one, of 1 to 16 letters or digits and 1 to 128 rows, and
-- within 40,960 bytes; and it is that one
pub sheet-of-text : (t : Bytes) (s : Sheet) → (sheet_of t ≡ some s) ↔ ((t ≡ sheet_text s) × IsSheet s)
sheet-of-text = texts.sheets-are
