-- The words of a line.
use Rattle.std.specs.Prelude.{ℕ, Bool, true, false, ◌||◌, ◌==◌, List, [], ◌∷◌}
use Rattle.std.specs.List.{filter, slice_split}

-- whether the byte is a space, a tab or a carriage return
abbrev pub is_separator : ℕ → Bool
is_separator b = b == 32 || b == 9 || b == 13

-- whether the list has a byte
abbrev pub has_byte : List ℕ → Bool
has_byte [] = false
has_byte (b ∷ bs) = true

-- the words: what stands between the separators, where it has a byte
abbrev pub words : List ℕ → List (List ℕ)
words bytes = filter has_byte (slice_split is_separator bytes)
