-- A count of faults: a number of 64 bits that stands still at its last value.
use Rattle.std.specs.Prelude.{◌≡◌, ℕ, ◌+◌, ◌<◌, min, ◌⊎◌}

-- the count rose from old to new: it grew, or it stands at its last value
abbrev pub Rose : ℕ → ℕ → Type 0
Rose old new = (old < new) ⊎ (new ≡ 18446744073709551615)

-- one more, where the count does not stand at its last value
abbrev pub raised : ℕ → ℕ
raised count = min (count + 1) 18446744073709551615
