-- The steps that a root needs, as they are found.
use Rattle.std.specs.Prelude.{◌≡◌, max, suc, ◌<◌, ◌≤◌, ◌||◌, ◌&&◌, ℕ, Bool, not, List, [], ◌∷◌, Option, Some, None, Contains, IsTrue, length, nat_eq, slice_index_or}
use Rattle.std.specs.BTreeSet.{BTreeSet, contains}
use Rattle.std.specs.List.{list_any}
use Rattle.std.specs.Option.{ForSome}
use Rattle.std.specs.Ordering.{nat_cmp}
use Rattle.craig_spec.specs.Chain.{ToldStep, Told, antecedents}

-- the id of the last step
abbrev pub last_id : List ToldStep → Option ℕ
last_id [] = None
last_id (s ∷ []) = Some s.id
last_id (s ∷ r ∷ steps) = last_id (r ∷ steps)

-- one of the steps has the id
abbrev pub HasId : List ToldStep → ℕ → Type 0
HasId steps id = IsTrue (list_any (λ s. nat_eq s.id id) steps)

-- the id is in the set
abbrev pub waits : BTreeSet ℕ → ℕ → Bool
waits set id = contains nat_cmp set id

-- the ids that pass the test are in the set beside those that were in it before, and no others
abbrev pub WaitsMore : (ℕ → Bool) → BTreeSet ℕ → BTreeSet ℕ → Type 0
WaitsMore test before after = (id : ℕ) → waits after id ≡ (test id || waits before id)

-- the step of the greatest id in the set was found, and the id is taken out
pub record IsTaken (steps : List ToldStep) (before after : BTreeSet ℕ) (s : ToldStep) : Type 0 where
  -- it is one of the steps
  pub stands : Contains steps s
  -- its id was in the set
  pub waited : IsTrue (waits before s.id)
  -- and all others stay in it
  pub others : (id : ℕ) → waits after id ≡ (not (nat_eq id s.id) && waits before id)
  -- which are lower
  pub lower : (id : ℕ) → IsTrue (waits after id) → id < s.id

-- a number above all of the list
abbrev pub bound_of : List ℕ → ℕ
bound_of [] = 0
bound_of (n ∷ ns) = max (suc n) (bound_of ns)

-- where nothing was told before, it is these steps afterwards
abbrev pub TellsSteps : List ToldStep → Option Told → Option Told → Type 0
TellsSteps steps before after = ForSome before (λ _. (u : Told) × (after ≡ Some u) × (u.steps ≡ steps) × (u.greatest ≡ last_id steps))

-- the ids of a set, when the steps from a place on are done: they have the roots, and are all reached from these
pub record BackMarks (steps : List ToldStep) (IsRoot IsReached : ℕ → Type 0) (p : ℕ → Bool) (place : ℕ) : Type 0 where
  -- each root is in the set
  pub rooted : (x : ℕ) → IsRoot x → IsTrue (p x)
  -- with each step from the place on the set has its antecedents
  pub closed : (k : ℕ) (d : ToldStep) (x : ℕ) → place ≤ k → k < length steps → IsTrue (p (slice_index_or steps k d).id) → Contains (antecedents (slice_index_or steps k d).origin) x → IsTrue (p x)
  -- what is in the set is reached
  pub reached : (x : ℕ) → IsTrue (p x) → IsReached x
