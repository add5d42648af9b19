use Rattle.craig_base.proofs.FoundLemmas.{clause_at-Contains, literals_of-live, Contains-clauses_of, literals_of-Contains, clauses_of-with_clause}
use Rattle.craig_base.proofs.laws.clauses_are_found.Goals as goal

pub returns-clause-found : goal.returns-clause-found
returns-clause-found c = clause_at-Contains

pub returns-clause-literals : goal.returns-clause-literals
returns-clause-literals c = literals_of-live

pub returns-clause-listed : goal.returns-clause-listed
returns-clause-listed c = Contains-clauses_of

pub returns-clause-looked_up : goal.returns-clause-looked_up
returns-clause-looked_up c = literals_of-Contains

pub returns-clause-added : goal.returns-clause-added
returns-clause-added c = clauses_of-with_clause
