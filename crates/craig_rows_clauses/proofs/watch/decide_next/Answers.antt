use Rattle.std.proofs.Common.{ap, refl, ◌∙◌}
use Rattle.craig_rows_clauses.proofs.watch.decide_next.Goals as goal

pub returns-then-not-known : goal.returns-then-not-known
returns-then-not-known c = refl

pub returns-in_err-propagate : goal.returns-in_err-propagate
returns-in_err-propagate c = c.in_err-propagate.ensures.same_clauses.vars

pub returns-in_default : goal.returns-in_default
returns-in_default c = c.in_ok-propagate.ensures.lengthened.vars

pub returns-then-ne : goal.returns-then-ne
returns-then-ne c = c.in_ok-propagate.ensures.lengthened.vars

pub decide-requires-clause-complete : goal.decide-requires-clause-complete
decide-requires-clause-complete c = c.in_ok-propagate.ensures.complete c.in-None.is

pub returns : goal.returns
returns c = ap (λ h. h.vars) c.decide.ensures.decided ∙ c.in_ok-propagate.ensures.lengthened.vars
