use Rattle.std.proofs.Common.{Contains, get_or, sym, subst}
use Rattle.std.proofs.lemmas.Option.{slice_get-get_or}
use Rattle.craig_search.specs.Assuming.{AreNegated}
use Rattle.craig_search.proofs.NegatedLemmas.{known-before, negated-absent, negated-known, negated-push, new-before}
use Rattle.craig_search.proofs.places.push_negated.Goals as goal

pub returns-then-not-is_in : goal.returns-then-not-is_in
returns-then-not-is_in c =
    let a = get_or c.args.assumptions.now c.args.place c.index-assumptions-place.result in
    let at = slice_get-get_or c.args.assumptions.now c.args.place c.index-assumptions-place.result c.requires.within in
    negated-absent c.args.assumptions.now c.args.clause.now c.args.place c.args.places.now.items a at c.requires.before (λ has. c.is_in.ensures.no c.if-not-is_in.true (subst (Contains c.args.clause.now) (sym c.not.ensures) has))

pub returns-then-not-is_new : goal.returns-then-not-is_new
returns-then-not-is_new c =
    let a = get_or c.args.assumptions.now c.args.place c.index-assumptions-place.result in
    let at = slice_get-get_or c.args.assumptions.now c.args.place c.index-assumptions-place.result c.requires.within in
    let known = c.is_new.ensures.no c.if-not-is_new.true in
    let q = known-before c.args.assumptions.now c.args.place known.0 known.1 in
    negated-known c.args.assumptions.now c.args.clause.now c.args.place c.args.places.now.items a at c.requires.before q.0 known.0 q.1 q.2 known.2

pub returns : goal.returns
returns c =
    let a = get_or c.args.assumptions.now c.args.place c.index-assumptions-place.result in
    let at = slice_get-get_or c.args.assumptions.now c.args.place c.index-assumptions-place.result c.requires.within in
    subst (AreNegated c.args.assumptions.now c.args.clause.now _) (sym c.in_ok-push.ensures.items) (negated-push c.args.assumptions.now c.args.clause.now c.args.place c.args.places.now.items a at c.requires.before (subst (Contains c.args.clause.now) c.not.ensures (c.is_in.ensures.yes c.if-not-is_in.false)) (new-before c.args.assumptions.now c.args.place a.1 (c.is_new.ensures.yes c.if-not-is_new.false)))
