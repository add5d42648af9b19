-- Bytes cut at a separator.
use Rattle.std.specs.Prelude.{ℕ, Bool, ◌==◌, nat_lt, List, [], length, Option, Some, None, if◌then◌else◌}
use Rattle.std.specs.List.{after_first, position_or_len, slice_split}

-- whether the byte is this one
abbrev pub is_byte : ℕ → ℕ → Bool
is_byte separator b = b == separator

-- what stands behind the first such byte, where there is one
abbrev pub behind_first : ℕ → List ℕ → Option (List ℕ)
behind_first separator bytes = if nat_lt (position_or_len (is_byte separator) bytes) (length bytes) then Some (after_first (is_byte separator) bytes) else None

-- the pieces of what stands behind a separator
abbrev pub pieces_behind : ℕ → Option (List ℕ) → List (List ℕ)
pieces_behind separator None = []
pieces_behind separator (Some bytes) = slice_split (is_byte separator) bytes
