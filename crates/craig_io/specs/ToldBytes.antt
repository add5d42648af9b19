-- Bytes that a source or a sink may tell.
use Rattle.std.specs.Prelude.{◌≡◌, ℕ, List, Option, Some}

-- where bytes were told, the same bytes are told afterwards
pub record StaysTold (before after : Option (List ℕ)) : Type 0 where
  -- neither fewer nor others
  pub same : (bytes : List ℕ) → before ≡ Some bytes → after ≡ Some bytes
