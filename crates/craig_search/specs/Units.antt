-- Unit clauses of literals that are true at level 0.
use Rattle.std.specs.Prelude.{◌≡◌, ◌≢◌, ◌⊎◌, ◌≤◌, List, [], ◌∷◌, ◌++◌, ℕ, Option, Some, Contains, is_some, length}
use Rattle.craig_spec.specs.Literal.{Literal, Clause, negation}
use Rattle.craig_spec.specs.Chain.{Told}
use Rattle.craig_base.specs.Arena.{ArenaView}
use Rattle.craig_proof.specs.declared.step.Step.{Step}
use Rattle.craig_watch.specs.declared.value.Value.TheVariants.{True}
use Rattle.craig_watch.specs.Trail.{entry_of, value_under}
use Rattle.craig_watch.specs.Held.{HeldView, held_clause}
use Rattle.craig_search.specs.Journal.{StayKept}
use Rattle.craig_search.specs.Searching.{GoesOn}

-- the clause of the id has the literal
abbrev pub HasLiteral : ArenaView → ℕ → Literal → Type 0
HasLiteral a id l = (c : Clause) × (held_clause a id ≡ Some c) × Contains c l

-- the step resolves on the literal with a held unit clause
pub record ResolvesWithUnit (a : ArenaView) (l : Literal) (s : Step) : Type 0 where
  -- it resolves on the literal
  pub pivot : s.pivot ≡ l
  -- with the unit clause of the negation
  pub unit : held_clause a s.antecedent.0 ≡ Some (negation l ∷ [])

-- a literal is the one that stays, or a step more resolves on it with a held unit clause
abbrev pub IsResolvedAway : ArenaView → Literal → Literal → List Step → List Step → Type 0
IsResolvedAway a stays l old new =
    ((l ≡ stays) × (new ≡ old)) ⊎ ((l ≢ stays) × ((s : Step) × ResolvesWithUnit a l s × (new ≡ old ++ s ∷ [])))

-- unit clauses of literals that are true at level 0 were told and held as their reasons, and nothing else was done
pub record DerivesUnits (old new : HeldView) (told_old told_new : Option Told) : Type 0 where
  -- at level 0 alone
  pub root : (new.level ≡ 0) ⊎ (new ≡ old)
  -- the search goes on
  pub goes_on : GoesOn old new told_old told_new
  -- what was held is held still
  pub stay : StayKept old.arena new.arena
  -- ids were given on
  pub given : old.arena.given ≤ new.arena.given
  -- each clause that came is the unit clause of a true literal
  pub units : (id : ℕ) (c : Clause) → held_clause new.arena id ≡ Some c → (held_clause old.arena id ≡ Some c) ⊎ ((l : Literal) × (c ≡ l ∷ []) × (value_under old.trail l ≡ True))
  -- the known variables are the same
  pub vars : new.vars ≡ old.vars
  -- the present level is the same
  pub level : new.level ≡ old.level
  -- it is dead where it was dead
  pub dead : new.dead ≡ old.dead
  -- as many literals are assigned
  pub assigned : length new.trail ≡ length old.trail
  -- of the same variables
  pub variables : (v : ℕ) → is_some (entry_of new.trail v) ≡ is_some (entry_of old.trail v)
  -- with the same values
  pub values : (l : Literal) → value_under new.trail l ≡ value_under old.trail l
