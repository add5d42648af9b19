-- The laws of a tracer that covers the clauses of a solver.
use Rattle.std.specs.Prelude.{◌≡◌, ◌≤◌, ◌+◌, ℕ, List, Option, Some, None, All, is_some}
use Rattle.std.specs.Option.{ForSome, option_map}
use Rattle.craig_spec.specs.Literal.{Clause}
use Rattle.craig_spec.specs.Chain.{ChainStep, Derived, Told, IsUnforgotten, ChainOk, GivesSame, antecedents, clause_told, nothing_told, without_id}
use Rattle.craig_spec.specs.Needed.{Reclaims}
use Rattle.craig_proof.specs.Covers.{IsCovering, IsOldOrNext}
use Rattle.craig_proof.specs.Tracer.{Appends, chain_of, original_step, derived_step}
use Rattle.craig_proof.specs.declared.step.Step.{Step}

-- no id of a covered clause is forgotten
abbrev pub CoveredIdsAreUnforgotten : Type 0
CoveredIdsAreUnforgotten = (told : Option Told) (f : ℕ → Option Clause) (given id : ℕ) (c : Clause) → IsCovering told f given → f id ≡ Some c → ForSome told (λ t. IsUnforgotten t.steps id)

-- no antecedent of a chain over covered clauses is forgotten
abbrev pub CoveredAntecedentsAreUnforgotten : Type 0
CoveredAntecedentsAreUnforgotten = (told : Option Told) (f : ℕ → Option Clause) (given : ℕ) (literals : Clause) (first : ℕ) (rest : List ChainStep) → IsCovering told f given → ChainOk f literals first rest → ForSome told (λ t. All (IsUnforgotten t.steps) (antecedents (Derived first rest)))

-- a chain over covered clauses is one over the told steps
abbrev pub CoveredChainsAreTold : Type 0
CoveredChainsAreTold = (told : Option Told) (f : ℕ → Option Clause) (given : ℕ) (literals : Clause) (first : ℕ) (rest : List ChainStep) → IsCovering told f given → ChainOk f literals first rest → ForSome told (λ t. ChainOk (clause_told t.steps) literals first rest)

-- a tracer that was told nothing covers a solver that has no clauses
abbrev pub NothingToldCoversNoClauses : Type 0
NothingToldCoversNoClauses = (told : Option Told) (f : ℕ → Option Clause) (given : ℕ) → ForSome told (λ t. t ≡ nothing_told) → ((id : ℕ) → f id ≡ None) → IsCovering told f given

-- covering lasts when clauses are let go or reordered, or ids are numbered
abbrev pub FewerClausesAreCovered : Type 0
FewerClausesAreCovered = (told : Option Told) (f g : ℕ → Option Clause) (given more : ℕ) → IsCovering told f given → given ≤ more → ((id : ℕ) → GivesSame g f id) → IsCovering told g more

-- covering lasts when an original is told under the next id
abbrev pub OriginalsKeepCovering : Type 0
OriginalsKeepCovering = (before after : Option Told) (f g : ℕ → Option Clause) (given part : ℕ) (literals : Clause) → IsCovering before f given → Appends before after (original_step given part literals) → IsOldOrNext f g given literals → IsCovering after g (given + 1)

-- covering lasts when a derived clause is told under the next id
abbrev pub DerivedClausesKeepCovering : Type 0
DerivedClausesKeepCovering = (before after : Option Told) (f g : ℕ → Option Clause) (given : ℕ) (literals : Clause) (first : ℕ) (rest : List Step) → IsCovering before f given → Appends before after (derived_step given literals first rest) → ChainOk f literals first (chain_of rest) → IsOldOrNext f g given literals → IsCovering after g (given + 1)

-- covering lasts when an id is forgotten under which there is no clause
abbrev pub ForgettingKeepsCovering : Type 0
ForgettingKeepsCovering = (before after : Option Told) (f : ℕ → Option Clause) (given id : ℕ) → IsCovering before f given → after ≡ option_map (without_id id) before → f id ≡ None → IsCovering after f given

-- covering lasts when steps are given up
abbrev pub ReclaimingKeepsCovering : Type 0
ReclaimingKeepsCovering = (before after : Option Told) (f : ℕ → Option Clause) (given : ℕ) → IsCovering before f given → is_some after ≡ is_some before → ((t : Told) → before ≡ Some t → (u : Told) × (after ≡ Some u) × Reclaims t u) → IsCovering after f given
