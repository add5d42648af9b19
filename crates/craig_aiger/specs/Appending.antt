-- A vector of bytes to whose end bytes are appended in the memory that it has.
use Rattle.std.specs.Prelude.{◌≡◌, ℕ, ◌+◌, ◌≤◌, List, ◌++◌, length, vec_len, vec_capacity}
use Rattle.std.specs.declared.vec.Vec.{Vec}

-- so many bytes more fit
abbrev pub HasRoom : {Z : Type 0} → Vec ℕ Z → ℕ → Type 0
HasRoom v n = vec_len v + n ≤ vec_capacity v

-- the bytes stand at the end now, and the memory is no less
pub record IsAppended {Z : Type 0} (old : Vec ℕ Z) (bytes : List ℕ) (new : Vec ℕ Z) : Type 0 where
  -- the bytes stand behind what was there
  pub items_are : new.items ≡ old.items ++ bytes
  -- the vector is longer by so many
  pub longer : vec_len new ≡ vec_len old + length bytes
  -- its memory is no less
  pub capacity : vec_capacity old ≤ vec_capacity new
