use Rattle.std.proofs.Common.{ℕ}
use Rattle.craig_aiger_read.proofs.NumberingLemmas.{both_literals, first_literal, second_literal}
use Rattle.craig_aiger_read.proofs.variables.number_gate.Goals as goal

pub number_literal-requires : goal.number_literal-requires
number_literal-requires c = c.requires

pub returns-in_err-number_literal-clause-gate : goal.returns-in_err-number_literal-clause-gate
returns-in_err-number_literal-clause-gate c = rw c.from_residual.ensures (first_literal _ _ _ _ c.in_err-number_literal.ensures.number)

pub returns-in_err-number_literal-clause-within : goal.returns-in_err-number_literal-clause-within
returns-in_err-number_literal-clause-within c = rw c.from_residual.ensures tt

pub number_literal-requires-2 : goal.number_literal-requires-2
number_literal-requires-2 c = c.requires

pub returns-in_err-number_literal-2-clause-gate : goal.returns-in_err-number_literal-2-clause-gate
returns-in_err-number_literal-2-clause-gate c = rw c.from_residual-in_err-number_literal-2.ensures (second_literal _ _ _ _ c.in_err-number_literal-2.ensures.number)

pub returns-in_err-number_literal-2-clause-within : goal.returns-in_err-number_literal-2-clause-within
returns-in_err-number_literal-2-clause-within c = rw c.from_residual-in_err-number_literal-2.ensures tt

pub returns-clause-gate : goal.returns-clause-gate
returns-clause-gate c =
    both_literals _ _ _ _ _ _ (λ (l : ℕ) (r : ℕ). record { left = l; right = r }) c.in_ok-number_literal.ensures.number c.in_ok-number_literal-2.ensures.number

pub returns-clause-within : goal.returns-clause-within
returns-clause-within c = (c.in_ok-number_literal.ensures.within, c.in_ok-number_literal-2.ensures.within)
