use Rattle.std.proofs.lemmas.Result.{IfOk-from_err}
use Rattle.craig_aig.proofs.ChoiceLemmas.{ConeWithin-equal}
use Rattle.craig_aig.proofs.arena.Aig.or.Goals as goal

pub returns-clause-cone : goal.returns-clause-cone
returns-clause-cone c =
    ConeWithin-equal c.args.self.now c.args.left c.args.right c.not.result c.not-2.result c.and.new.self c.in_ok-neither.neither c.not-3.result
    (c.not.ensures.cone c.args.self.now) (c.not-2.ensures.cone c.args.self.now) (c.not-3.ensures.cone c.and.new.self) c.in_ok-neither.ensures.cone

pub returns-in_err-neither-clause-conjunction : goal.returns-in_err-neither-clause-conjunction
returns-in_err-neither-clause-conjunction c = IfOk-from_err _ _ c.from_residual.ensures.0

pub returns-in_err-neither-clause-within : goal.returns-in_err-neither-clause-within
returns-in_err-neither-clause-within c = IfOk-from_err _ _ c.from_residual.ensures.0

pub returns-in_err-neither-clause-computes : goal.returns-in_err-neither-clause-computes
returns-in_err-neither-clause-computes c = IfOk-from_err _ _ c.from_residual.ensures.0

pub returns-in_err-neither-clause-cone : goal.returns-in_err-neither-clause-cone
returns-in_err-neither-clause-cone c = IfOk-from_err _ _ c.from_residual.ensures.0

pub returns-in_err-neither-clause-grows : goal.returns-in_err-neither-clause-grows
returns-in_err-neither-clause-grows c = c.and.ensures.grows

pub returns-in_err-neither-clause-count : goal.returns-in_err-neither-clause-count
returns-in_err-neither-clause-count c = c.and.ensures.count

pub returns-clause-grows : goal.returns-clause-grows
returns-clause-grows c = c.and.ensures.grows

pub returns-clause-count : goal.returns-clause-count
returns-clause-count c = c.and.ensures.count
