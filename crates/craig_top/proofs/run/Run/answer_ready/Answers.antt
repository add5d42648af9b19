use Rattle.std.proofs.Common.{◌∙◌, arith, refl}
use Rattle.std.proofs.lemmas.Result.{err_from_is_err_and}
use Rattle.craig_top.proofs.GatheredLemmas.{Gathers-fewer}
use Rattle.craig_top.proofs.PutsLemmas.{AnswersAndPuts-none, AnswersAndPuts-more, AnswersAndPuts-begun, AnswersAndPuts-broken, AnswersAndPuts-lines, AnswersAndPuts-session, AnswersAndPuts-put, not_empty}
use Rattle.craig_top.proofs.run.Run.answer_ready.Goals as goal

pub loop-enough-init : goal.loop-enough-init
loop-enough-init g c = record { put = AnswersAndPuts-none _ _ _; quiet = refl }

pub returns-in_err-put_all-clause-stopped : goal.returns-in_err-put_all-clause-stopped
returns-in_err-put_all-clause-stopped g c =
    let p = err_from_is_err_and c.from_residual.result c.from_residual.ensures.1 in
    rw (p.1, p.2) (AnswersAndPuts-broken _ _ _ _ _ _ _ _ _ c.loop-enough.invariant.put c.gather-gathered.ensures.whole c.deref.ensures.value (not_empty _ c.in_err-put_all.ensures.empty) c.in_err-put_all.ensures.begun)

pub returns-in_err-enough-clause-stopped : goal.returns-in_err-enough-clause-stopped
returns-in_err-enough-clause-stopped g c =
    let p = err_from_is_err_and c.from_residual-in_err-enough.result c.from_residual-in_err-enough.ensures.1 in
    rw (p.1, p.2) (AnswersAndPuts-begun _ _ _ _ _ _ _ _ _ c.loop-enough.invariant.put c.gather-gathered.ensures.whole c.deref.ensures.value c.in_ok-put_all.ensures.written)

pub returns-then-not-enough-clause-lines : goal.returns-then-not-enough-clause-lines
returns-then-not-enough-clause-lines g c =
    AnswersAndPuts-lines _ _ _ _ _ _ (AnswersAndPuts-more _ _ _ _ _ _ _ _ _ _ _ c.loop-enough.invariant.put c.in_ok-enough.ensures.gathered c.deref.ensures.value c.in_ok-put_all.ensures.written)
    (c.in_ok-enough.ensures.all c.if-not-enough.true)

pub returns-then-not-enough-clause-session : goal.returns-then-not-enough-clause-session
returns-then-not-enough-clause-session g c =
    AnswersAndPuts-session _ _ _ _ _ _ (AnswersAndPuts-more _ _ _ _ _ _ _ _ _ _ _ c.loop-enough.invariant.put c.in_ok-enough.ensures.gathered c.deref.ensures.value c.in_ok-put_all.ensures.written)
    (c.in_ok-enough.ensures.all c.if-not-enough.true)

pub returns-then-not-enough-clause-put : goal.returns-then-not-enough-clause-put
returns-then-not-enough-clause-put g c =
    AnswersAndPuts-put _ _ _ _ _ _ (AnswersAndPuts-more _ _ _ _ _ _ _ _ _ _ _ c.loop-enough.invariant.put c.in_ok-enough.ensures.gathered c.deref.ensures.value c.in_ok-put_all.ensures.written)
    (c.in_ok-enough.ensures.all c.if-not-enough.true)

pub loop-enough-smaller : goal.loop-enough-smaller
loop-enough-smaller g c = Gathers-fewer _ _ _ _ _ c.in_ok-enough.ensures.gathered (omega (arith, c.in_ok-enough.ensures.enough c.if-not-enough.false))

pub loop-enough-preserved : goal.loop-enough-preserved
loop-enough-preserved g c = record {
  put = AnswersAndPuts-more _ _ _ _ _ _ _ _ _ _ _ c.loop-enough.invariant.put c.in_ok-enough.ensures.gathered c.deref.ensures.value c.in_ok-put_all.ensures.written;
  quiet = c.in_ok-put_all.ensures.quiet ∙ c.loop-enough.invariant.quiet;
}
