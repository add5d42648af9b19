-- What a search leaves of the clauses that it was lent.
use Rattle.std.specs.Prelude.{◌≡◌, ℕ, ◌<◌, ◌≤◌, true, false, Some, IsTrue, length}
use Rattle.craig_spec.specs.Literal.{Clause}
use Rattle.craig_spec.specs.Chain.{SameLiterals}
use Rattle.craig_spec.specs.Truth.{Implies, clause_value}
use Rattle.craig_spec.specs.Occurs.{Occurs, occurs_in_clause}
use Rattle.craig_base.specs.Arena.{FlaggedClause, IsReordered, clause_at, clauses_of}
use Rattle.craig_watch.specs.Held.{HeldView, held_clause}
use Rattle.craig_order.specs.Order.{OrderView, FreeAreGivenBack}
use Rattle.craig_search.specs.declared.verdict.Verdict.{Verdict}
use Rattle.craig_search.specs.declared.verdict.Verdict.TheVariants.{Model, Failed, Limit}

-- the same clause, which may be marked anew
pub record IsSameClause (c d : FlaggedClause) : Type 0 where
  -- the same literals in any order
  pub literals : SameLiterals c.literals d.literals
  -- learnt or not as before
  pub learnt : d.flags.learnt ≡ c.flags.learnt

-- what a search leaves of the clauses that were held, and what it adds to them
pub record Leaves (old new : HeldView) : Type 0 where
  -- the known variables are the same
  pub vars : new.vars ≡ old.vars
  -- and so is whether memory was refused
  pub dead : new.dead ≡ old.dead
  -- ids are given on
  pub given : old.arena.given ≤ new.arena.given
  -- a clause that is not learnt stays as it is, but for the order of its literals
  pub stay : (id : ℕ) (c : FlaggedClause) → clause_at old.arena id ≡ Some c → c.flags.learnt ≡ false → (d : FlaggedClause) × (clause_at new.arena id ≡ Some d) × IsReordered c d
  -- a clause under an older id was held before
  pub older : (id : ℕ) (d : FlaggedClause) → id < old.arena.given → clause_at new.arena id ≡ Some d → (c : FlaggedClause) × (clause_at old.arena id ≡ Some c) × IsSameClause c d
  -- a clause under a newer id is learnt
  pub learnt : (id : ℕ) (d : FlaggedClause) → old.arena.given ≤ id → clause_at new.arena id ≡ Some d → d.flags.learnt ≡ true
  -- each clause follows from those that were held
  pub implied : (id : ℕ) (c : Clause) → held_clause new.arena id ≡ Some c → Implies (clauses_of old.arena) (λ s. IsTrue (clause_value s c))
  -- and has variables of theirs alone
  pub variables : (id x : ℕ) (c : Clause) → held_clause new.arena id ≡ Some c → IsTrue (occurs_in_clause x c) → Occurs x (clauses_of old.arena)

-- the order is ready for a search
pub record IsReady (h : HeldView) (o : OrderView) : Type 0 where
  -- it knows the variables that are held
  pub known : length o.given_back ≡ h.vars
  -- and every free one was given back to it
  pub given_back : FreeAreGivenBack h o

-- by the verdict: a model stays on the trail, and else the level is 0 again
abbrev pub IsAtRest : HeldView → OrderView → Verdict → Type 0
IsAtRest h o Model = length o.given_back ≡ h.vars
IsAtRest h o (Failed root places) = (h.level ≡ 0) × IsReady h o
IsAtRest h o (Limit lemmas) = (h.level ≡ 0) × IsReady h o
