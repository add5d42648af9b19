-- What a read does to the bytes left, where they are told.
use Rattle.std.specs.Prelude.{◌≡◌, ℕ, ◌≤◌, List, [], length, take, drop, Option, Some}

-- where the bytes left were told, the first n of them stand at the start of into and are gone, and n is 0 only where none was left
pub record TakesFirst (n : ℕ) (into : List ℕ) (before after : Option (List ℕ)) : Type 0 where
  -- no more than were left
  pub within : (bytes : List ℕ) → before ≡ Some bytes → n ≤ length bytes
  -- they stand at the start
  pub stand : (bytes : List ℕ) → before ≡ Some bytes → take n into ≡ take n bytes
  -- those behind them are left
  pub gone : (bytes : List ℕ) → before ≡ Some bytes → after ≡ Some (drop n bytes)
  -- 0 is the end
  pub end : (bytes : List ℕ) → before ≡ Some bytes → n ≡ 0 → bytes ≡ []
