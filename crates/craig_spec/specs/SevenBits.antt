-- Numbers as bytes with groups of seven bits, the lowest first. The top bit of a byte says that another group follows.
--
-- After Biere, The AIGER and-inverter graph format, version 20071012, section 2.2, where gates are written so.
use Rattle.std.specs.Prelude.{ℕ, zero, suc, ◌+◌, ◌-◌, ◌*◌, ◌/◌, ◌%◌, List, [], ◌∷◌, nat_lt, if◌then◌else◌}

-- a number in so many groups more than one at most, as few as do
abbrev pub groups_in : ℕ → ℕ → List ℕ
groups_in zero n = n % 128 ∷ []
groups_in (suc more) n = if nat_lt n 128 then n ∷ [] else (128 + n % 128) ∷ groups_in more (n / 128)

-- a number below 2 ^ 63 in as few groups as do, nine at most
unfoldable pub groups_of : ℕ → List ℕ
groups_of n = groups_in 8 n

-- what stands at the front of bytes that are to begin with a number
pub data FirstNumber : Type 0 where
  -- a number, and the bytes behind it
  Number : ℕ → List ℕ → FirstNumber
  -- the bytes end within the number
  Ends : FirstNumber
  -- the number has more groups than it may have
  TooLong : FirstNumber

-- a number with one group more below its own
abbrev pub with_lower : ℕ → FirstNumber → FirstNumber
with_lower low (Number n rest) = Number (low + 128 * n) rest
with_lower low Ends = Ends
with_lower low TooLong = TooLong

-- the number of at most so many groups at the front of the bytes
abbrev pub number_of_groups : ℕ → List ℕ → FirstNumber
number_of_groups zero bytes = TooLong
number_of_groups (suc more) [] = Ends
number_of_groups (suc more) (b ∷ bytes) = if nat_lt b 128 then Number b bytes else with_lower (b - 128) (number_of_groups more bytes)

-- the number at the front of the bytes, in nine groups at most
unfoldable pub first_number : List ℕ → FirstNumber
first_number bytes = number_of_groups 9 bytes
