use Rattle.std.proofs.Common.{◌∙◌, ap, sym, subst, heap_items}
use Rattle.craig_spec.specs.Literal.{Clause}
use Rattle.craig_watch.specs.Trail.{entry_of}
use Rattle.craig_analyze.specs.Resolvent.{IsSetAside, view_of}
use Rattle.craig_analyze.proofs.MinimizingLemmas.{IsSetAside-one}
use Rattle.craig_analyze.proofs.resolvent.Resolvent.set_aside_at.Goals as goal

pub returns-clause-aside : goal.returns-clause-aside
returns-clause-aside c =
    let h = c.args.held.now in
    let s = view_of c.args.self.now in
    let found = c.place_of.ensures.entry ∙ ap (entry_of h.trail) c.var-2.ensures.value in
    let one = IsSetAside-one h s c.args.place c.place_of.result c.index-lit.result.now (heap_items c.push.new.self) c.requires.consistent c.requires.falsified c.requires.within c.index-lit.ensures c.place_of.ensures.within found c.in_ok-push.ensures.permutation c.if-not-is_forced.ensures in
    subst (λ (lower : Clause). IsSetAside h s (record { marked = s.marked; pending = heap_items c.push.new.self; lower = lower })) (sym c.remove.ensures.items) one
