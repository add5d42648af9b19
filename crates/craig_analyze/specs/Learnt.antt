-- What conflict analysis learns: clauses with their chains, and asserting clauses.
use Rattle.std.specs.Prelude.{◌≡◌, ◌⊎◌, ◌↔◌, ℕ, ◌<◌, ◌≤◌, List, [], ◌∷◌, Some, length, map, All, Contains}
use Rattle.craig_spec.specs.Literal.{Literal, Clause}
use Rattle.craig_spec.specs.Chain.{ChainOk}
use Rattle.craig_base.specs.Arena.{ArenaView}
use Rattle.craig_base.specs.Clauses.{IsNormal}
use Rattle.craig_base.specs.Counting.{NoneMoreThan}
use Rattle.craig_base.specs.LemmaRule.{ContainsClause}
use Rattle.craig_proof.specs.Tracer.{chain_of}
use Rattle.craig_watch.specs.Trail.{IsFalse, level_at}
use Rattle.craig_watch.specs.Held.{HeldView, held_clause}
use Rattle.craig_analyze.specs.declared.learnt.Learnt.{Learnt}

-- a clause that a chain over held clauses derives
pub record IsDerived (a : ArenaView) (l : Learnt) : Type 0 where
  -- the clause is normal
  pub normal : IsNormal l.lits
  -- the chain over held clauses ends in its literals
  pub chain : ChainOk (held_clause a) l.lits l.first.0 (chain_of l.rest)

-- the number is the greatest of the list, or 0 where the list is empty
abbrev pub IsGreatestOf : List ℕ → ℕ → Type 0
IsGreatestOf ns m = All (λ n. n ≤ m) ns × (Contains ns m ⊎ ((ns ≡ []) × (m ≡ 0)))

-- the list has this many different numbers
pub record IsNumberOfDifferent (ns : List ℕ) (m : ℕ) : Type 0 where
  -- the different numbers
  pub different : List ℕ
  -- each stands there once
  pub once : NoneMoreThan 1 different
  -- they are the numbers of the list
  pub same : (n : ℕ) → Contains different n ↔ Contains ns n
  -- there are this many
  pub number : length different ≡ m

-- a false clause whose first literal alone is of the present level
pub record IsAssertingClause (h : HeldView) (l : Learnt) : Type 0 where
  -- the first literal
  pub first : Literal
  -- the others
  pub rest : Clause
  -- they are the clause
  pub parts : l.lits ≡ first ∷ rest
  -- all are false
  pub falsified : All (IsFalse h.trail) l.lits
  -- the first has the present level
  pub first_level : level_at h.trail first ≡ h.level
  -- the others have lower levels above 0
  pub rest_levels : All (λ m. (0 < level_at h.trail m) × (level_at h.trail m < h.level)) rest
  -- the greatest level of the others, to which a search goes back
  pub back : IsGreatestOf (map (level_at h.trail) rest) l.back
  -- how many levels the literals have, of Audemard and Simon, "Predicting Learnt Clauses Quality in Modern SAT Solvers" (IJCAI 2009)
  pub glue : IsNumberOfDifferent (map (level_at h.trail) l.lits) l.glue
  -- no held clause is contained in it
  pub new : (id : ℕ) (c : Clause) → held_clause h.arena id ≡ Some c → ¬ ContainsClause l.lits c
