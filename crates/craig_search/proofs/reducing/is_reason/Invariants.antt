use Rattle.std.proofs.Common.{ℕ, ◌<◌, get_or}
use Rattle.craig_spec.specs.Literal.{Literal}
use Rattle.craig_base.specs.Arena.{literals_at}
use Rattle.craig_search.specs.Reducing.{IsNotForcedBy}
use Rattle.craig_search.proofs.reducing.is_reason.Given as goal

-- no literal so far was forced by the clause
abbrev pub invariant-loop-lit : goal.invariant-loop-lit
invariant-loop-lit l = (k : ℕ) (d : Literal) → k < l.lit-index → IsNotForcedBy l.held.trail l.id (get_or (literals_at l.held.arena l.id.0) k d)
