-- What the answer `Normal` says.
use Rattle.std.specs.Prelude.{List}
use Rattle.craig_spec.specs.Literal.{Literal}
use Rattle.craig_base.specs.declared.normal_form.Normal.{Normal}
use Rattle.craig_base.specs.declared.normal_form.Normal.TheVariants.{Clause, Tautology}

-- the answer is that the list is a tautology
abbrev pub IsTautologyAnswer : Normal → Type 0
IsTautologyAnswer (Clause c) = ⊥
IsTautologyAnswer Tautology = Unit {0}

-- the fact holds of the clause, where the answer is a clause
abbrev pub OnClause : (List Literal → Type 0) → Normal → Type 0
OnClause P (Clause c) = P c
OnClause P Tautology = Unit {0}
