-- The order of decisions: which variables are to be decided still.
use Rattle.std.specs.Prelude.{◌≡◌, ℕ, ◌<◌, ◌≤◌, ◌||◌, Bool, true, false, List, [], length, max, nat_eq, slice_index_or}
use Rattle.craig_watch.specs.Held.{HeldView}
use Rattle.craig_watch.specs.Trail.{IsAssigned}

-- what contracts see of an order
pub record OrderView : Type 0 where
  -- by known variable, whether it was given back since it was last decided
  pub given_back : List Bool
  -- whether memory was refused
  pub dead : Bool

-- no variable is known
abbrev pub nothing_known : OrderView
nothing_known = record { given_back = []; dead = false }

-- whether the variable counts as given back
abbrev pub is_given_back : OrderView → ℕ → Bool
is_given_back o v = slice_index_or o.given_back v false

-- the variables below the number are known, and the new ones among them count as given back
pub record IsGrown (old new : OrderView) (vars : ℕ) : Type 0 where
  -- what was known and what is below the number is known
  pub known : length new.given_back ≡ max (length old.given_back) vars
  -- what was known counts as before
  pub as_before : (v : ℕ) → v < length old.given_back → is_given_back new v ≡ is_given_back old v
  -- what is new counts as given back
  pub given_back : (v : ℕ) → length old.given_back ≤ v → v < vars → is_given_back new v ≡ true
  -- it is dead where it was dead
  pub dead : new.dead ≡ old.dead

-- the one variable counts as given back, and each other one counts as before
pub record IsGivenBack (old new : OrderView) (var : ℕ) : Type 0 where
  -- the same variables are known
  pub known : length new.given_back ≡ length old.given_back
  -- the one variable counts as given back, each other one as before
  pub counts : (v : ℕ) → is_given_back new v ≡ (nat_eq v var || is_given_back old v)
  -- it is dead where it was dead
  pub dead : new.dead ≡ old.dead

-- the variable is known and free
abbrev pub IsFree : HeldView → ℕ → Type 0
IsFree h v = (v < h.vars) × ¬ IsAssigned h.trail v

-- every free variable counts as given back
abbrev pub FreeAreGivenBack : HeldView → OrderView → Type 0
FreeAreGivenBack h o = (v : ℕ) → IsFree h v → is_given_back o v ≡ true

-- each free variable of which P holds counts as before
pub record CountsAsBefore (h : HeldView) (old new : OrderView) (P : ℕ → Type 0) : Type 0 where
  -- the same variables are known
  pub known : length new.given_back ≡ length old.given_back
  -- each free variable of which P holds counts as before
  pub counts : (v : ℕ) → IsFree h v → P v → is_given_back new v ≡ is_given_back old v
  -- it is dead where it was dead
  pub dead : new.dead ≡ old.dead
