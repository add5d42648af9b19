use Rattle.std.proofs.Common.{arith}
use Rattle.craig_aiger_read.proofs.NumberLemmas.{pow-small}
use Rattle.craig_aiger_read.proofs.decimal.value_of.Goals as goal

pub overflow_mul-value : goal.overflow_mul-value
overflow_mul-value c = omega (arith, c.loop-digit.invariant.0, pow-small c.loop-digit.digit-index 17 (omega arith))

pub overflow_add-value : goal.overflow_add-value
overflow_add-value c = omega (arith, c.loop-digit.invariant.0, pow-small c.loop-digit.digit-index 17 (omega arith))

pub returns-clause-bound : goal.returns-clause-bound
returns-clause-bound c = omega (arith, c.loop-digit.invariant.0, pow-small c.loop-digit.digit-index 18 (omega arith))
