use Rattle.std.proofs.Common.{◌≤◌, ◌∙◌, arith, length}
use Rattle.craig_base.proofs.HeadsLemmas.{laid_out-cut, arena_with-cut, tight_at_end}
use Rattle.craig_base.proofs.closing_gaps.close_gaps.Goals as goal

pub returns-clause-laid_out : goal.returns-clause-laid_out
returns-clause-laid_out c =
    let all : length c.loop-place.heads ≤ c.loop-place.place = omega (arith, c.loop-place.auto.heads, c.loop-place-test.false) in
    laid_out-cut c.loop-place.heads c.loop-place.literals c.loop-place.place c.loop-place.end all c.loop-place.invariant.laid_out c.loop-place.invariant.closed

pub returns-clause-same : goal.returns-clause-same
returns-clause-same c =
    let all : length c.loop-place.heads ≤ c.loop-place.place = omega (arith, c.loop-place.auto.heads, c.loop-place-test.false) in
    arena_with-cut c.loop-place.heads c.loop-place.literals c.loop-place.place c.loop-place.end all c.loop-place.invariant.laid_out c.loop-place.invariant.closed ∙ c.loop-place.invariant.same

pub returns-clause-tight : goal.returns-clause-tight
returns-clause-tight c =
    let all : length c.loop-place.heads ≤ c.loop-place.place = omega (arith, c.loop-place.auto.heads, c.loop-place-test.false) in
    tight_at_end c.loop-place.heads c.loop-place.place c.loop-place.end all c.loop-place.invariant.closed
