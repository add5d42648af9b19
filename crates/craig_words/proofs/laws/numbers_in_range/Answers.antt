use Rattle.std.proofs.Common.{arith}
use Rattle.craig_words.proofs.SetLemmas.{between_all, between_only, limit_all, limit_only}
use Rattle.craig_words.proofs.laws.numbers_in_range.Goals as goal

pub returns-clause-limit : goal.returns-clause-limit
returns-clause-limit c = λ n low high. limit_all n low high (omega arith)

pub returns-clause-only_limit : goal.returns-clause-only_limit
returns-clause-only_limit c = limit_only

pub returns-clause-steps : goal.returns-clause-steps
returns-clause-steps c = λ n low high. between_all 1 60 n low high (omega arith)

pub returns-clause-only_steps : goal.returns-clause-only_steps
returns-clause-only_steps c = between_only 1 60
