-- The hash of a name, byte by byte. Assumes nothing.
use mathlib.Core.Path.{◌≡◌}
use Prim.Native.Nat.{ℕ, ◌≤◌, ◌<◌}
use lib.ListN.{length, drop}
use Rattle.lists.specs.Lists.{Bytes}
use Rattle.name_index.specs.Between.Index.{hashes, hash_from, hash_of}

-- the first i bytes are hashed: going on with the others gives the name's hash
pub record Hashing (name : Bytes) (h i : ℕ) : Type 0 where
  pub within : i ≤ length name
  pub small : h < hashes
  pub rest : hash_from h (drop i name) ≡ hash_of name
