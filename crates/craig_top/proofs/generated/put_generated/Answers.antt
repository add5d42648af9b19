use Rattle.std.proofs.Common.{◌∙◌, refl, sym, ap, subst, ℕ, List, Err}
use Rattle.std.proofs.lemmas.Result.{err_from_is_err_and}
use Rattle.craig_top.specs.GeneratedRun.{GeneratedReply}
use Rattle.craig_top.proofs.FaultsLemmas.{CountsFaults-failed}
use Rattle.craig_top.proofs.GeneratedRunLemmas.{all_put, no_fault, last_failed, no_memory, nothing_put, reply_begun, summary_begun, summary_put}
use Rattle.craig_top.proofs.generated.put_generated.Goals as goal

pub summary-requires-clause-some : goal.summary-requires-clause-some
summary-requires-clause-some g c = c.requires.some

pub summary-requires-clause-few : goal.summary-requires-clause-few
summary-requires-clause-few g c = c.requires.few

pub returns-in_err-summary-clause-promise : goal.returns-in_err-summary-clause-promise
returns-in_err-summary-clause-promise g c =
    let p = err_from_is_err_and c.from_residual.result c.from_residual.ensures.1 in rw (p.1, p.2) (nothing_put c.args.steps _)

pub returns-in_err-summary-clause-write_fault : goal.returns-in_err-summary-clause-write_fault
returns-in_err-summary-clause-write_fault g c =
    let p = err_from_is_err_and c.from_residual.result c.from_residual.ensures.1 in no_memory _ _ _ _ p.1 p.2 refl

pub returns-in_err-put_all-clause-promise : goal.returns-in_err-put_all-clause-promise
returns-in_err-put_all-clause-promise g c =
    let p = err_from_is_err_and c.from_residual-in_err-put_all.result c.from_residual-in_err-put_all.ensures.1 in
    rw (p.1, p.2) (summary_begun c.args.settings c.args.steps c.deref.result.now _ _ (c.deref.ensures.value ∙ c.in_ok-summary.ensures) c.in_err-put_all.ensures.begun)

pub returns-in_err-put_all-clause-write_fault : goal.returns-in_err-put_all-clause-write_fault
returns-in_err-put_all-clause-write_fault g c =
    let p = err_from_is_err_and c.from_residual-in_err-put_all.result c.from_residual-in_err-put_all.ensures.1 in
    CountsFaults-failed _ _ _ (p.1 ∙ ap Err p.2) c.in_err-put_all.ensures.fault c.in_err-put_all.ensures.count

pub last_reply-requires-clause-limit : goal.last_reply-requires-clause-limit
last_reply-requires-clause-limit g c = c.requires.limit

pub last_reply-requires-clause-some : goal.last_reply-requires-clause-some
last_reply-requires-clause-some g c = c.requires.some

pub last_reply-requires-clause-few : goal.last_reply-requires-clause-few
last_reply-requires-clause-few g c = c.requires.few

pub returns-in_err-reply-clause-promise : goal.returns-in_err-reply-clause-promise
returns-in_err-reply-clause-promise g c =
    let p = err_from_is_err_and c.from_residual-in_err-reply.result c.from_residual-in_err-reply.ensures.1 in
    rw (p.1, p.2) (summary_put c.args.steps c.deref.result.now _ _ (c.deref.ensures.value ∙ c.in_ok-summary.ensures) c.in_ok-put_all.ensures.written)

pub returns-in_err-reply-clause-write_fault : goal.returns-in_err-reply-clause-write_fault
returns-in_err-reply-clause-write_fault g c =
    let p = err_from_is_err_and c.from_residual-in_err-reply.result c.from_residual-in_err-reply.ensures.1 in no_memory _ _ _ _ p.1 p.2 c.in_ok-put_all.ensures.quiet

pub returns-in_err-put_all-2-clause-promise : goal.returns-in_err-put_all-2-clause-promise
returns-in_err-put_all-2-clause-promise g c =
    let p = err_from_is_err_and c.from_residual-in_err-put_all-2.result c.from_residual-in_err-put_all-2.ensures.1 in
    rw (p.1, p.2)
    (reply_begun c.args.settings c.args.steps c.deref.result.now c.deref-2.result.now _ _ _ (c.deref.ensures.value ∙ c.in_ok-summary.ensures) c.in_ok-put_all.ensures.written
    (subst (λ (t : List ℕ). GeneratedReply c.args.settings c.args.steps t) (sym c.deref-2.ensures.value) c.in_ok-reply.ensures) c.in_err-put_all-2.ensures.begun)

pub returns-in_err-put_all-2-clause-write_fault : goal.returns-in_err-put_all-2-clause-write_fault
returns-in_err-put_all-2-clause-write_fault g c =
    let p = err_from_is_err_and c.from_residual-in_err-put_all-2.result c.from_residual-in_err-put_all-2.ensures.1 in
    last_failed _ _ _ _ (p.1 ∙ ap Err p.2) c.in_ok-put_all.ensures.quiet c.in_err-put_all-2.ensures.fault c.in_err-put_all-2.ensures.count

pub returns-clause-promise : goal.returns-clause-promise
returns-clause-promise g c =
    all_put c.args.settings c.args.steps c.deref.result.now c.deref-2.result.now _ _ _ (c.deref.ensures.value ∙ c.in_ok-summary.ensures) c.in_ok-put_all.ensures.written
    (subst (λ (t : List ℕ). GeneratedReply c.args.settings c.args.steps t) (sym c.deref-2.ensures.value) c.in_ok-reply.ensures) c.in_ok-put_all-2.ensures.written

pub returns-clause-write_fault : goal.returns-clause-write_fault
returns-clause-write_fault g c = no_fault _ _ (c.in_ok-put_all-2.ensures.quiet ∙ c.in_ok-put_all.ensures.quiet)
