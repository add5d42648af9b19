use Rattle.std.proofs.Common.{sym, ap, ◌∙◌, subst}
use Rattle.craig_spec.specs.Literal.{Literal}
use Rattle.craig_watch.specs.Trail.{IsAssigned}
use Rattle.craig_analyze.specs.Resolvent.{negated_at}
use Rattle.craig_analyze.proofs.PlaceLemmas.{place-assigned, level_at-place}
use Rattle.craig_analyze.proofs.LevelLemmas.{literal-read, level_of-is}
use Rattle.craig_analyze.proofs.resolving.level_at_place.Goals as goal

pub level_of-requires : goal.level_of-requires
level_of-requires c =
    let t = c.args.held.now.trail in
    let read = literal-read t c.trail.result.now c.args.place c.index-trail-place.result c.trail.ensures.value c.requires c.index-trail-place.is in
    subst (IsAssigned t) (sym (c.var.ensures.value ∙ ap (λ (l : Literal). l.var) read)) (place-assigned t c.args.place c.trail.ensures.consistent.distinct c.requires)

pub returns-clause-level : goal.returns-clause-level
returns-clause-level c =
    let t = c.args.held.now.trail in
    let read = literal-read t c.trail.result.now c.args.place c.index-trail-place.result c.trail.ensures.value c.requires c.index-trail-place.is in
    level_of-is t (negated_at t c.args.place) c.var.result.0 c.level_of.result (c.var.ensures.value ∙ ap (λ (l : Literal). l.var) read) c.level_of.ensures ∙ level_at-place t c.args.place c.trail.ensures.consistent.distinct c.requires
