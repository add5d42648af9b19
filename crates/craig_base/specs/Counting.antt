-- How often a number stands in a list.
use Rattle.std.specs.Prelude.{ℕ, ◌≤◌, List, nat_eq, count_by}

-- how often the number stands in the list
abbrev pub count_of : ℕ → List ℕ → ℕ
count_of x xs = count_by (nat_eq x) xs

-- no number stands more than m times in the list
abbrev pub NoneMoreThan : ℕ → List ℕ → Type 0
NoneMoreThan m xs = (x : ℕ) → count_of x xs ≤ m
