-- Which of the assumptions of a solve are named as failed.
use Rattle.std.specs.Prelude.{◌≡◌, ◌≢◌, ℕ, ◌<◌, List, map, Some, slice_get, Contains}
use Rattle.std.specs.List.Sorted.{IsStrictlyIncreasing}
use Rattle.craig_spec.specs.Cut.{PartLiteral}

-- the failed assumptions stand among the assumptions, in order, each at the first place of its literal
pub record NamesFailed (assumptions failed : List PartLiteral) : Type 0 where
  -- their places among the assumptions
  pub places : List ℕ
  -- the places rise
  pub rising : IsStrictlyIncreasing places
  -- the failed ones stand there
  pub failed_are : map (slice_get assumptions) places ≡ map Some failed
  -- and at no earlier place does an assumption have the same literal
  pub first : (p q : ℕ) (a b : PartLiteral) → Contains places p → slice_get assumptions p ≡ Some a → q < p → slice_get assumptions q ≡ Some b → b.literal ≢ a.literal
