use Rattle.std.proofs.Common.{◌<◌, ℕ, All, length, ap, sym, subst, arith}
use Rattle.std.proofs.lemmas.Result.{IfOk-from_err}
use Rattle.craig_spec.specs.Literal.{Literal}
use Rattle.craig_proof.specs.declared.step.Step.{Step}
use Rattle.craig_watch.specs.Held.{HeldView, MayBeHeld}
use Rattle.craig_search.specs.Journal.{AreLemmas, StayKept}
use Rattle.craig_search.specs.Searching.{IsJournal, IsSearching}
use Rattle.craig_search.proofs.LearntLemmas.{back-below, fits-back, known-falsified, known-pivots}
use Rattle.craig_search.proofs.SearchingLemmas.{IsSearching-moved}
use Rattle.craig_search.proofs.learning.learn.Goals as goal

pub raise-requires-clause-lits : goal.raise-requires-clause-lits
raise-requires-clause-lits g c =
    let h = c.args.held.now in
    let known = known-falsified c.entries_have_places.ensures.false_literal c.entries_have_places.ensures.place h c.in_ok-learnt.learnt.lits c.requires.under_way.consistent c.in_ok-learnt.ensures.asserting.falsified in
    let by_order = subst (λ (n : ℕ). All (λ (l : Literal). l.var < n) c.in_ok-learnt.learnt.lits) (sym c.requires.under_way.ready.known) known in
    subst (All (λ (l : Literal). l.var < length c.args.order.now.given_back)) (sym c.as_slice.ensures) by_order

pub raise-requires-clause-pivots : goal.raise-requires-clause-pivots
raise-requires-clause-pivots g c =
    let known = known-pivots c.args.held.now c.in_ok-learnt.learnt c.requires.under_way.consistent c.in_ok-learnt.ensures.derived in
    let by_order = subst (λ (n : ℕ). All (λ (s : Step). s.pivot.var < n) c.in_ok-learnt.learnt.rest) (sym c.requires.under_way.ready.known) known in
    subst (All (λ (s : Step). s.pivot.var < length c.args.order.now.given_back)) (sym c.as_slice-2.ensures) by_order

pub go_back-requires-clause-below : goal.go_back-requires-clause-below
go_back-requires-clause-below g c =
    let low : c.in_ok-learnt.learnt.back < c.args.held.now.level = back-below c.args.held.now c.in_ok-learnt.learnt c.requires.level c.in_ok-learnt.ensures.asserting in
    omega (arith, low)

pub hold_learnt-requires-clause-known : goal.hold_learnt-requires-clause-known
hold_learnt-requires-clause-known g c =
    let h = c.args.held.now in
    let known = known-falsified c.entries_have_places.ensures.false_literal c.entries_have_places.ensures.place h c.in_ok-learnt.learnt.lits c.requires.under_way.consistent c.in_ok-learnt.ensures.asserting.falsified in
    subst (λ (n : ℕ). All (λ (l : Literal). l.var < n) c.in_ok-learnt.learnt.lits) (sym (ap (λ (n : HeldView). n.vars) c.go_back.ensures.back)) known

pub hold_learnt-requires-clause-fits : goal.hold_learnt-requires-clause-fits
hold_learnt-requires-clause-fits g c =
    subst (λ (n : HeldView). MayBeHeld n c.in_ok-learnt.learnt.lits) (sym c.go_back.ensures.back) (fits-back c.asserting_clauses_may_be_held.ensures c.args.held.now c.in_ok-learnt.learnt c.requires.under_way.consistent c.requires.level c.in_ok-learnt.ensures.asserting)

pub returns-clause-goes_on : goal.returns-clause-goes_on
returns-clause-goes_on g c = λ start before search.
    let moved = subst (λ (h : HeldView). IsSearching start h before (g.T.Tracer.told c.args.tracer.now)) (sym c.go_back.ensures.back) (IsSearching-moved start c.args.held.now before _ _ _ search) in
    c.in_ok-hold_learnt.ensures.goes_on start before moved

pub returns-clause-journals : goal.returns-clause-journals
returns-clause-journals g c = λ first journal.
    c.in_ok-hold_learnt.ensures.journals first (subst (λ (h : HeldView). IsJournal first h.arena) (sym c.go_back.ensures.back) journal)

pub returns-clause-listed : goal.returns-clause-listed
returns-clause-listed g c = λ start before search are.
    let moved = subst (λ (h : HeldView). IsSearching start h before (g.T.Tracer.told c.args.tracer.now)) (sym c.go_back.ensures.back) (IsSearching-moved start c.args.held.now before _ _ _ search) in
    c.in_ok-hold_learnt.ensures.listed start before moved (subst (λ (h : HeldView). AreLemmas start.arena h.arena c.args.journal.now) (sym c.go_back.ensures.back) are)

pub returns-clause-stay : goal.returns-clause-stay
returns-clause-stay g c = subst (λ (h : HeldView). StayKept h.arena c.hold_learnt.new.held.arena) c.go_back.ensures.back c.in_ok-hold_learnt.ensures.stay

pub returns-in_err-learnt-clause-goes_on : goal.returns-in_err-learnt-clause-goes_on
returns-in_err-learnt-clause-goes_on g c = IfOk-from_err _ _ c.from_residual.ensures.0

pub returns-in_err-learnt-clause-journals : goal.returns-in_err-learnt-clause-journals
returns-in_err-learnt-clause-journals g c = IfOk-from_err _ _ c.from_residual.ensures.0

pub returns-in_err-learnt-clause-given : goal.returns-in_err-learnt-clause-given
returns-in_err-learnt-clause-given g c = IfOk-from_err _ _ c.from_residual.ensures.0

pub returns-in_err-learnt-clause-listed : goal.returns-in_err-learnt-clause-listed
returns-in_err-learnt-clause-listed g c = IfOk-from_err _ _ c.from_residual.ensures.0

pub returns-in_err-learnt-clause-under_way : goal.returns-in_err-learnt-clause-under_way
returns-in_err-learnt-clause-under_way g c = IfOk-from_err _ _ c.from_residual.ensures.0

pub returns-in_err-hold_learnt-clause-goes_on : goal.returns-in_err-hold_learnt-clause-goes_on
returns-in_err-hold_learnt-clause-goes_on g c = IfOk-from_err _ _ c.from_residual-in_err-hold_learnt.ensures.0

pub returns-in_err-hold_learnt-clause-journals : goal.returns-in_err-hold_learnt-clause-journals
returns-in_err-hold_learnt-clause-journals g c = IfOk-from_err _ _ c.from_residual-in_err-hold_learnt.ensures.0

pub returns-in_err-hold_learnt-clause-given : goal.returns-in_err-hold_learnt-clause-given
returns-in_err-hold_learnt-clause-given g c = IfOk-from_err _ _ c.from_residual-in_err-hold_learnt.ensures.0

pub returns-in_err-hold_learnt-clause-listed : goal.returns-in_err-hold_learnt-clause-listed
returns-in_err-hold_learnt-clause-listed g c = IfOk-from_err _ _ c.from_residual-in_err-hold_learnt.ensures.0

pub returns-in_err-hold_learnt-clause-under_way : goal.returns-in_err-hold_learnt-clause-under_way
returns-in_err-hold_learnt-clause-under_way g c = IfOk-from_err _ _ c.from_residual-in_err-hold_learnt.ensures.0

pub returns-in_err-learnt-clause-stay : goal.returns-in_err-learnt-clause-stay
returns-in_err-learnt-clause-stay g c = IfOk-from_err _ _ c.from_residual.ensures.0

pub returns-in_err-hold_learnt-clause-stay : goal.returns-in_err-hold_learnt-clause-stay
returns-in_err-hold_learnt-clause-stay g c = IfOk-from_err _ _ c.from_residual-in_err-hold_learnt.ensures.0
