-- What a solver answers.
use Rattle.std.specs.Prelude.{◌≡◌, All, ℕ, List, ◌++◌, Option, Some, None, length, map}
use Rattle.craig_spec.specs.Literal.{Clause}
use Rattle.craig_spec.specs.Truth.{IsModel, AreContradictory}
use Rattle.craig_base.specs.Clauses.{IsNormal}
use Rattle.craig_base.specs.LemmaRule.{MeetsLemmaRule}
use Rattle.craig_base.specs.declared.script_part.Part.{Part}
use Rattle.craig_base.specs.Values.{assignment_of_values}
use Rattle.craig_search.specs.Verdict.{Assumptions, AreFirstPlaces, at_places, units}
use Rattle.craig_solver.specs.declared.answer.Answer.{Answer}
use Rattle.craig_solver.specs.declared.answer.Answer.TheVariants.{Model, Failed, Limit}

-- the accepted clauses without their parts
abbrev pub accepted_clauses : List (Part × Clause) → List Clause
accepted_clauses accepted = map (λ a. a.1) accepted

-- what the answer says of the accepted clauses and the assumptions: a model of them all; assumptions by their first places that the clauses contradict; or as many lemmas as the limit, no literal twice in one
abbrev pub IsAnswer : List Clause → ℕ → Assumptions → Option ℕ → Answer → Type 0
IsAnswer clauses vars assumptions limit (Model values) =
    (length values ≡ vars) × IsModel (assignment_of_values values) (clauses ++ units assumptions)
IsAnswer clauses vars assumptions limit (Failed root places) =
    AreFirstPlaces assumptions places × AreContradictory clauses (units (at_places assumptions places))
IsAnswer clauses vars assumptions limit (Limit lemmas) =
    (limit ≡ Some (length lemmas)) × MeetsLemmaRule clauses lemmas × All IsNormal lemmas

-- the answer is a model or a refutation
abbrev pub IsDefiniteAnswer : Answer → Type 0
IsDefiniteAnswer (Model values) = Unit {0}
IsDefiniteAnswer (Failed root places) = Unit {0}
IsDefiniteAnswer (Limit lemmas) = ⊥

-- the root that an answer has
abbrev pub root_of_answer : Answer → Option ℕ
root_of_answer (Model values) = None
root_of_answer (Failed root places) = Some root.0
root_of_answer (Limit lemmas) = None
