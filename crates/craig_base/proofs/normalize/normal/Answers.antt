use Rattle.craig_base.proofs.ClausesLemmas.{IsTautology-neighbours, IsTautology-SameLiterals, IsNormal-vars_apart, vars_apart-ascending}
use Rattle.craig_base.proofs.normalize.normal.Goals as goal

pub returns-then-has_equal_neighbours-clause-tautology : goal.returns-then-has_equal_neighbours-clause-tautology
returns-then-has_equal_neighbours-clause-tautology c =
    let found = rw c.as_slice.ensures at c.if-has_equal_neighbours.ensures.found in
    (λ _. (IsTautology-SameLiterals _ _ c.in_ok-literals.ensures.members).1 (IsTautology-neighbours _ found.0 c.in_ok-literals.ensures.ascending found.1 found.2), λ _. tt)

pub returns-clause-tautology : goal.returns-clause-tautology
returns-clause-tautology c =
    let none = rw c.as_slice.ensures at c.if-has_equal_neighbours.ensures.none in
    let normal = IsNormal-vars_apart _ (vars_apart-ascending _ c.in_ok-literals.ensures.ascending none) in
    (λ e. absurd e, λ t. normal.not_tautology ((IsTautology-SameLiterals _ _ c.in_ok-literals.ensures.members).0 t))

pub returns-clause-is_normal : goal.returns-clause-is_normal
returns-clause-is_normal c =
    let none = rw c.as_slice.ensures at c.if-has_equal_neighbours.ensures.none in
    IsNormal-vars_apart _ (vars_apart-ascending _ c.in_ok-literals.ensures.ascending none)
