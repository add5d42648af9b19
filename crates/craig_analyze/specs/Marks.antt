-- Sets of numbers that are marked by flags.
use Rattle.std.specs.Prelude.{◌≡◌, ℕ, Bool, true, false, List, [], ◌∷◌, ◌++◌, Contains, slice_index_or, if◌then◌else◌}
use Rattle.craig_base.specs.Counting.{count_of}

-- a flag is set exactly where the number is in the list, and no number stands twice in it
abbrev pub AreMarks : List Bool → List ℕ → Type 0
AreMarks flags marked = (n : ℕ) → count_of n marked ≡ (if slice_index_or flags n false then 1 else 0)

-- the number was not in the list and now stands last, or it was and nothing changed
abbrev pub IsMarked : ℕ → List ℕ → List ℕ → Bool → Type 0
IsMarked n old new true = (¬ Contains old n) × (new ≡ old ++ n ∷ [])
IsMarked n old new false = Contains old n × (new ≡ old)
