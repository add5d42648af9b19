use Rattle.std.proofs.Common.{◌≡◌, true, ◌+◌, [], ◌∷◌, ◌++◌, ap, sym, subst}
use Rattle.craig_spec.specs.Literal.{Clause}
use Rattle.craig_base.specs.Arena.{FlaggedClause}
use Rattle.craig_base.specs.Clauses.{IsNormal}
use Rattle.craig_watch.specs.Held.{HeldView, MayBeHeld}
use Rattle.craig_search.specs.Searching.{IsNew}
use Rattle.craig_search.specs.Journal.{AreLemmas}
use Rattle.craig_search.proofs.JournalLemmas.{IsJournal-learnt}
use Rattle.craig_search.proofs.LimitLemmas.{AreLemmas-learnt}
use Rattle.craig_search.proofs.learning.hold_learnt.Goals as goal

pub hold_derived-requires-clause-fits : goal.hold_derived-requires-clause-fits
hold_derived-requires-clause-fits g c = subst (MayBeHeld c.args.held.now) (sym c.as_slice-lits.ensures) c.requires.fits

pub hold_derived-requires-clause-chain : goal.hold_derived-requires-clause-chain
hold_derived-requires-clause-chain g c = rw (c.as_slice-lits.ensures, c.as_slice-rest.ensures) c.requires.derived.chain

pub returns-clause-journals : goal.returns-clause-journals
returns-clause-journals g c = λ first journal.
    let old = c.args.held.now in
    let held = c.in_ok-hold_derived.ensures in
    let given : c.hold_derived.new.held.arena.given ≡ old.arena.given + 1 = ap (λ (h : HeldView). h.arena.given) held.held in
    IsJournal-learnt first old.arena c.hold_derived.new.held.arena c.in_ok-hold_derived.field-0.0 _ journal given held.next held.fresh held.only held.consistent.arena (subst (IsNew old.arena) (sym c.as_slice-lits.ensures) c.requires.new)

pub returns-clause-listed : goal.returns-clause-listed
returns-clause-listed g c = λ start before search are.
    let held = c.in_ok-hold_derived.ensures in
    let f : FlaggedClause = record { literals = c.as_slice-lits.result.now; flags = record { learnt = true; kept = c.may_have.result; glue = c.args.learnt.now.glue } } in
    let lits = c.as_slice-lits.ensures in
    let normal = subst IsNormal (sym lits) c.requires.derived.normal in
    let new = subst (IsNew c.args.held.now.arena) (sym lits) c.requires.new in
    let after = held.goes_on start before search in
    subst (λ (d : Clause). AreLemmas start.arena c.hold_derived.new.held.arena (c.args.journal.now ++ d ∷ [])) lits (AreLemmas-learnt start c.args.held.now c.hold_derived.new.held before _ _ c.in_ok-hold_derived.field-0.0 f c.args.journal.now search after held.fresh held.only normal new c.may_have.ensures are)
