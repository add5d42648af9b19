-- The laws of told steps and of the part of them that a root needs.
use Rattle.std.specs.Prelude.{◌≡◌, false, ℕ, List, Some, Contains}
use Rattle.craig_spec.specs.Literal.{Clause}
use Rattle.craig_spec.specs.Chain.{ToldStep, Told, IsTold, IsUnforgotten, clause_told}
use Rattle.craig_spec.specs.Needed.{IsNeeded, IsNeededPart, unforgotten}
use Rattle.craig_proof.specs.NeededSteps.{last_id}

-- a clause that is found under an id is that of a step
abbrev pub FoundClausesAreOfSteps : Type 0
FoundClausesAreOfSteps = (steps : List ToldStep) (id : ℕ) (c : Clause) → clause_told steps id ≡ Some c → (s : ToldStep) × Contains steps s × (s.id ≡ id) × (s.literals ≡ c)

-- an id that isn't forgotten is that of a step that isn't
abbrev pub UnforgottenIdsAreOfSteps : Type 0
UnforgottenIdsAreOfSteps = (steps : List ToldStep) (id : ℕ) → IsUnforgotten steps id → (s : ToldStep) × Contains steps s × (s.id ≡ id) × (s.forgotten ≡ false)

-- each step of the part is one of the whole, not forgotten, that the root needs
abbrev pub PartsHaveNeededSteps : Type 0
PartsHaveNeededSteps = (steps part : List ToldStep) (root : ℕ) (s : ToldStep) → IsNeededPart steps root part → Contains part s → (r : ToldStep) × Contains steps r × (s ≡ unforgotten r) × IsNeeded steps root r.id

-- each step that the root needs is in the part
abbrev pub PartsHaveAllNeededSteps : Type 0
PartsHaveAllNeededSteps = (steps part : List ToldStep) (root : ℕ) (s : ToldStep) → IsNeededPart steps root part → Contains steps s → IsNeeded steps root s.id → Contains part (unforgotten s)

-- under an id that the root needs the part has the clause of the whole
abbrev pub PartsKeepClauses : Type 0
PartsKeepClauses = (steps part : List ToldStep) (root id : ℕ) → IsNeededPart steps root part → IsNeeded steps root id → clause_told part id ≡ clause_told steps id

-- the root is the last step of the part
abbrev pub PartsEndInTheRoot : Type 0
PartsEndInTheRoot = (t : Told) (part : List ToldStep) (root : ℕ) → IsTold t → IsUnforgotten t.steps root → IsNeededPart t.steps root part → last_id part ≡ Some root

-- a root that isn't forgotten is not forgotten in the part either
abbrev pub PartsKeepTheRoot : Type 0
PartsKeepTheRoot = (steps part : List ToldStep) (root : ℕ) → IsNeededPart steps root part → IsUnforgotten steps root → IsUnforgotten part root
