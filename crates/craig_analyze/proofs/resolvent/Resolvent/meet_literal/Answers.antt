use Rattle.std.proofs.Common.{[], ◌∷◌, sym, ap, ◌∙◌, subst}
use Rattle.craig_spec.specs.Literal.{Clause}
use Rattle.craig_watch.specs.Trail.{entry_of}
use Rattle.craig_analyze.specs.Resolvent.{view_of, Meets}
use Rattle.craig_analyze.proofs.CountLemmas.{marked-new}
use Rattle.craig_analyze.proofs.ResolventLemmas.{Meets-lower, Meets-pending}
use Rattle.craig_analyze.proofs.resolvent.Resolvent.meet_literal.Goals as goal

pub returns-in_ok-push : goal.returns-in_ok-push
returns-in_ok-push c =
    let h = c.args.held.now in
    let new = marked-new c.in_ok-insert.field-0 c.var-var.result.0 c.args.lit.var c.args.self.now.variables c.insert.new.self c.var-var.ensures.value c.if-not-branch.false c.in_ok-insert.ensures.marked in
    let found = c.place_of.ensures.entry ∙ ap (entry_of h.trail) c.var-var.ensures.value in
    Meets-pending c.args.staying h (view_of c.args.self.now) c.args.lit c.insert.new.self _ c.place_of.result c.is_resolved_on.ensures.consistent new c.place_of.ensures.within found (c.is_resolved_on.ensures.yes c.if-is_resolved_on.true) c.in_ok-push.ensures.permutation

pub returns-in_ok-push-2 : goal.returns-in_ok-push-2
returns-in_ok-push-2 c =
    let h = c.args.held.now in
    let new = marked-new c.in_ok-insert.field-0 c.var-var.result.0 c.args.lit.var c.args.self.now.variables c.insert.new.self c.var-var.ensures.value c.if-not-branch.false c.in_ok-insert.ensures.marked in
    let stays = c.is_resolved_on.ensures.no c.if-is_resolved_on.false in
    subst (λ (lower : Clause). Meets c.args.staying h (c.args.lit ∷ []) (view_of c.args.self.now) (record { marked = c.insert.new.self; pending = (view_of c.args.self.now).pending; lower = lower })) (sym c.in_ok-push-2.ensures.items) (Meets-lower c.args.staying h (view_of c.args.self.now) c.args.lit c.insert.new.self c.is_resolved_on.ensures.consistent new stays)
