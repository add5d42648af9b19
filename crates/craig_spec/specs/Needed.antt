-- The steps that a clause rests on.
use Rattle.std.specs.Prelude.{◌≡◌, ◌↔◌, ℕ, Bool, false, List, Contains, IsTrue, map, filter}
use Rattle.craig_spec.specs.Truth.{Assignment, clause_value}
use Rattle.craig_spec.specs.Chain.{Origin, Original, Derived, ToldStep, Told, antecedents, IsUnforgotten}

-- with each step the set has the antecedents of the step
abbrev pub IsClosed : List ToldStep → (ℕ → Bool) → Type 0
IsClosed steps p = (s : ToldStep) (a : ℕ) → Contains steps s → IsTrue (p s.id) → Contains (antecedents s.origin) a → IsTrue (p a)

-- the id is in each closed set that has the root: it is the root, or an antecedent of a needed step
abbrev pub IsNeeded : List ToldStep → ℕ → ℕ → Type 0
IsNeeded steps root id = (p : ℕ → Bool) → IsTrue (p root) → IsClosed steps p → IsTrue (p id)

-- the step, not forgotten
abbrev pub unforgotten : ToldStep → ToldStep
unforgotten s = record { id = s.id; literals = s.literals; origin = s.origin; forgotten = false }

-- the part is the steps that the root needs, in order, and none of them is forgotten
abbrev pub IsNeededPart : List ToldStep → ℕ → List ToldStep → Type 0
IsNeededPart steps root part = (p : ℕ → Bool) × ((s : ToldStep) → Contains steps s → IsTrue (p s.id) ↔ IsNeeded steps root s.id) × (part ≡ map unforgotten (filter (λ s. p s.id) steps))

-- the step is an original
abbrev pub IsOriginal : Origin → Type 0
IsOriginal (Original part) = Unit {0}
IsOriginal (Derived first rest) = ⊥

-- the originals that the id needs are true under the assignment
abbrev pub OriginalsHold : List ToldStep → ℕ → Assignment → Type 0
OriginalsHold steps id a = (s : ToldStep) → Contains steps s → IsOriginal s.origin → IsNeeded steps id s.id → IsTrue (clause_value a s.literals)

-- each clause that was told is true wherever the originals under it are
abbrev pub AllFollow : List ToldStep → Type 0
AllFollow steps = (s : ToldStep) (a : Assignment) → Contains steps s → OriginalsHold steps s.id a → IsTrue (clause_value a s.literals)

-- some of the steps are gone, but none that an id needs that isn't forgotten
pub record Reclaims (before after : Told) : Type 0 where
  -- the greatest id that was told stays
  pub greatest : after.greatest ≡ before.greatest
  -- which steps are left
  pub kept : ToldStep → Bool
  -- these, in order
  pub steps : after.steps ≡ filter kept before.steps
  -- with each step that is left its antecedents are
  pub closed : (s r : ToldStep) → Contains before.steps s → Contains before.steps r → IsTrue (kept s) → Contains (antecedents s.origin) r.id → IsTrue (kept r)
  -- what an id needs that isn't forgotten is left
  pub needed : (s : ToldStep) (id : ℕ) → Contains before.steps s → IsUnforgotten before.steps id → IsNeeded before.steps id s.id → IsTrue (kept s)
