-- The names of variables in a script, listed by the dense numbers of the variables.
use Rattle.std.specs.Prelude.{ℕ, ◌≤◌, List, [], ◌∷◌, ◌++◌, length, nat_eq, All, if◌then◌else◌}
use Rattle.std.specs.List.{IsDistinct, list_any}

-- a name is a number from 1 to 2147483647
abbrev pub IsName : ℕ → Type 0
IsName n = (1 ≤ n) × (n ≤ 2147483647)

-- a list of different names
pub record AreNames (names : List ℕ) : Type 0 where
  -- no name stands twice
  pub distinct : IsDistinct nat_eq names
  -- each is in the range of names
  pub in_range : All IsName names
  -- so there are no more of them than the range has numbers
  pub few : length names ≤ 2147483647

-- the names after one is asked for: they stay if it is one of them, and else it goes last
abbrev pub with_name : List ℕ → ℕ → List ℕ
with_name names name = if list_any (nat_eq name) names then names else names ++ name ∷ []
