-- The seven keywords (document 01, src/io/blif.rs). Assumes nothing: these are definitions.
use Rattle.std.specs.Prelude.{Bool, eqb, if◌then◌else◌}
use mathlib.Core.List.{List, [], ◌∷◌, head_d}
use Rattle.lists.specs.Lists.{Bytes, bytes, same}
use Rattle.blif_text.specs.declared.Keyword.{Keyword}
use Rattle.blif_text.specs.declared.Keyword.TheVariants as key

-- the bytes of a keyword, and which it is
pub record Spelling : Type 0 where
  -- the bytes
  pub name : Bytes
  -- the keyword
  pub keyword : Keyword

-- the same, from its parts
abbrev pub spelling : Bytes → Keyword → Spelling
spelling n x = record { name = n; keyword = x }

-- "`.model`, `.inputs`, `.outputs`, `.latch`, `.names`, `.end`, `.exdc`"
abbrev pub keywords : List Spelling
keywords =
    spelling (bytes ".model") key.Model
    ∷ spelling (bytes ".inputs") key.Inputs
    ∷ spelling (bytes ".outputs") key.Outputs
    ∷ spelling (bytes ".latch") key.Latch
    ∷ spelling (bytes ".names") key.Names
    ∷ spelling (bytes ".end") key.End
    ∷ spelling (bytes ".exdc") key.Exdc
    ∷ []

-- "a leading dot"
abbrev pub leading_dot : Bytes → Bool
leading_dot k = eqb (head_d k 0) 46

-- the first of these that a token is: "compared byte for byte"; "another first token with a leading dot is unsupported; any other
-- statement is a cube line"
abbrev pub keyword_among : List Spelling → Bytes → Keyword
keyword_among [] k = if leading_dot k then key.Unsupported else key.Cube
keyword_among (n ∷ ns) k = if same k n.name then n.keyword else keyword_among ns k

-- the keyword of a statement's first token
unfoldable pub keyword_of : Bytes → Keyword
keyword_of k = keyword_among keywords k
