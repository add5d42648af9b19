-- Steps that are lent from a store, each by its place.
use Rattle.std.specs.Prelude.{◌≡◌, ℕ, List, Option, Some, slice_get, slice_index_or, map, ◌<◌, All, length}
use Rattle.std.specs.Option.{ForSome}
use Rattle.craig_spec.specs.Chain.{ToldStep, Original, Derived, AreRising}
use Rattle.craig_spec.specs.Needed.{unforgotten}
use Rattle.craig_proof.specs.StoredSteps.{no_step}
use Rattle.craig_proof.specs.declared.needed_step.NeededStep.{NeededStep}
use Rattle.craig_proof.specs.declared.needed_step.NeededStep.TheVariants as lent

-- what is said holds of the step at the place
abbrev pub IsAtPlace : List ToldStep → ℕ → (ToldStep → Type 0) → Type 0
IsAtPlace steps place Says = (s : ToldStep) × (slice_get steps place ≡ Some s) × Says s

-- what was lent is where the step comes from
abbrev pub IsLent : ToldStep → NeededStep → Type 0
IsLent s (lent.Original part literals) = (s.origin ≡ Original part.0) × (s.literals ≡ literals.now)
IsLent s (lent.Derived first rest) = s.origin ≡ Derived first.0 rest

-- at the id of each step the table has its place
abbrev pub ArePlaces : List ToldStep → List ℕ → Type 0
ArePlaces steps places = (k : ℕ) (s : ToldStep) → slice_get steps k ≡ Some s → slice_get places s.id ≡ Some k

-- the step at a place
abbrev pub step_at : List ToldStep → ℕ → ToldStep
step_at steps place = slice_index_or steps place no_step

-- the steps at the places, not forgotten
abbrev pub steps_at : List ToldStep → List ℕ → List ToldStep
steps_at steps places = map (λ place. unforgotten (step_at steps place)) places

-- each place is one of a step
abbrev pub AreWithin : List ToldStep → List ℕ → Type 0
AreWithin steps places = All (λ place. place < length steps) places

-- the steps at the places stand by rising id, with their table, if they have one
pub record AreLent (steps : List ToldStep) (needed : List ℕ) (table : Option (List ℕ)) : Type 0 where
  -- the ids of all steps rise
  pub all_rising : AreRising steps
  -- each place is one of a step
  pub within : AreWithin steps needed
  -- so the ids of those that are lent rise
  pub rising : AreRising (steps_at steps needed)
  -- the table has their places
  pub places : ForSome table (ArePlaces (steps_at steps needed))
