-- The literals that are assigned, and the tables by which they are looked up.
use Rattle.std.specs.Prelude.{◌≡◌, ℕ, ◌*◌, ◌<◌, ◌≤◌, List, [], ◌∷◌, ◌++◌, All, length, slice_index_or}
use Rattle.craig_spec.specs.Literal.{Literal}
use Rattle.craig_base.specs.Literals.{literal_code}
use Rattle.craig_watch.specs.declared.trail_entry.TrailEntry.{TrailEntry}
use Rattle.craig_watch.specs.declared.value.Value.{Value}
use Rattle.craig_watch.specs.Trail.{Trail, value_under, AreDistinct, AreLevels}

-- what contracts see of the literals that are assigned
pub record AssignedView : Type 0 where
  -- how many variables are known: they are those below it
  pub vars : ℕ
  -- the literals that are assigned
  pub trail : Trail

-- what is true of a trail over known variables
pub record IsTrail (vars : ℕ) (t : Trail) : Type 0 where
  -- the literals of each variable fit their type
  pub few : vars ≤ 2147483648
  -- only known variables are assigned
  pub known : All (λ e. e.literal.var < vars) t
  -- no variable is assigned twice
  pub distinct : AreDistinct t
  -- the level of each literal is the number of decisions up to it
  pub levels : AreLevels t

-- the table has, by the code of a literal, its value
pub record AreValues (values : List Value) (vars : ℕ) (t : Trail) : Type 0 where
  -- each literal of a known variable has one
  pub sized : 2 * vars ≤ length values
  -- it is that under the trail
  pub at : (l : Literal) (d : Value) → literal_code l < length values → slice_index_or values (literal_code l) d ≡ value_under t l

-- the last literal is gone from the trail
pub record TakesLast (old new : AssignedView) : Type 0 where
  -- the entry that is gone
  pub last : TrailEntry
  -- it stood last
  pub trail : old.trail ≡ new.trail ++ last ∷ []
  -- no variable became known or unknown
  pub vars : new.vars ≡ old.vars
