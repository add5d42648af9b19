-- What a tracer is told, in the terms of the field.
use Rattle.std.specs.Prelude.{◌≡◌, ℕ, List, Option, Some, All, map, false}
use Rattle.std.specs.Option.{ForSome, option_map}
use Rattle.craig_spec.specs.Literal.{Clause}
use Rattle.craig_spec.specs.Chain.{ChainStep, Original, Derived, ToldStep, Told, ChainOk, IsUnforgotten, antecedents, clause_told, with_step}
use Rattle.craig_spec.specs.Needed.{Reclaims}
use Rattle.craig_proof.specs.declared.step.Step.{Step}

-- one resolution of a chain
abbrev pub chain_step : Step → ChainStep
chain_step s = record { pivot = s.pivot; antecedent = s.antecedent.0 }

-- the steps of a chain after its first antecedent
abbrev pub chain_of : List Step → List ChainStep
chain_of steps = map chain_step steps

-- the step of an original of the part
abbrev pub original_step : ℕ → ℕ → Clause → ToldStep
original_step id part literals = record { id = id; literals = literals; origin = Original part; forgotten = false }

-- the step of a derived clause
abbrev pub derived_step : ℕ → Clause → ℕ → List Step → ToldStep
derived_step id literals first rest = record { id = id; literals = literals; origin = Derived first (chain_of rest); forgotten = false }

-- where the meaning was told, the one step stands behind it
abbrev pub Appends : Option Told → Option Told → ToldStep → Type 0
Appends before after step = after ≡ option_map (λ t. with_step t step) before

-- where the meaning was told, no antecedent of the chain is forgotten
abbrev pub AreUnforgotten : Option Told → ℕ → List ChainStep → Type 0
AreUnforgotten told first rest = ForSome told (λ t. All (IsUnforgotten t.steps) (antecedents (Derived first rest)))

-- where the meaning was told, the chain over the told clauses ends in these literals
abbrev pub IsToldChain : Option Told → Clause → ℕ → List ChainStep → Type 0
IsToldChain told literals first rest = ForSome told (λ t. ChainOk (clause_told t.steps) literals first rest)

-- where the meaning was told, it is told afterwards, with steps given up that no clause needs that isn't forgotten
abbrev pub IsReclaimed : Option Told → Option Told → Type 0
IsReclaimed before after = (t : Told) → before ≡ Some t → (u : Told) × (after ≡ Some u) × Reclaims t u
