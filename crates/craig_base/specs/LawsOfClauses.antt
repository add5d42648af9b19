-- The laws of lists of clauses.
use Rattle.std.specs.Prelude.{◌<◌, ◌≤◌, ◌*◌, ◌^◌, ℕ, List, All, AllPairs, Contains, length}
use Rattle.craig_spec.specs.Literal.{Clause}
use Rattle.craig_spec.specs.Chain.{SameLiterals}
use Rattle.craig_spec.specs.Occurs.{Occurs}
use Rattle.craig_base.specs.Clauses.{IsTautology}
use Rattle.craig_base.specs.LemmaRule.{MeetsLemmaRule, NoneMoreThanTwice}

-- none of the clauses is a tautology, and each variable of theirs is below the number
abbrev pub AreClausesOver : ℕ → List Clause → Type 0
AreClausesOver v cs = All (λ c. ¬ IsTautology c × All (λ l. l.var < v) c) cs

-- at most 3^v clauses over v variables, none of them a tautology, stand in a list in which no two have the same literals
abbrev pub ClausesAreFew : Type 0
ClausesAreFew = (v : ℕ) (cs : List Clause) → AreClausesOver v cs → AllPairs (λ c d. ¬ SameLiterals c d) cs → length cs ≤ 3 ^ v

-- and at most twice as many in one in which no three have the same literals
abbrev pub RepeatedClausesAreFew : Type 0
RepeatedClausesAreFew = (v : ℕ) (cs : List Clause) → AreClausesOver v cs → NoneMoreThanTwice cs → length cs ≤ 2 * 3 ^ v

-- so there are at most so many lemmas over clauses that have no variables but those of a list
abbrev pub LemmasAreFew : Type 0
LemmasAreFew = (vars : List ℕ) (clauses lemmas : List Clause) → ((x : ℕ) → Occurs x clauses → Contains vars x) → MeetsLemmaRule clauses lemmas → length lemmas ≤ 2 * 3 ^ length vars
