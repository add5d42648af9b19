use Rattle.std.proofs.Common.{◌<◌, ℕ, length, get_or, ap, ◌∙◌, arith}
use Rattle.std.proofs.lemmas.List.{get_or_default}
use Rattle.craig_watch.specs.declared.assignment.Assignment.{Assignment}
use Rattle.craig_watch.specs.HeldFields.{any_assignment}
use Rattle.craig_watch.proofs.AssignedLemmas.{known-at_last, level-at_last}
use Rattle.craig_watch.proofs.assigned.Assigned.level.Goals as goal

pub index-requires : goal.index-requires
index-requires c =
    let h = c.self.inside in
    let known = known-at_last c.deref.result.now h.literals.items c.in-Some.lit.now h.assignments.items c.deref.ensures.value c.self.invariant.trail c.in-Some.ensures.item.3.0 c.in-Some.ensures.item.1 in
    omega (arith, h.assignments.ok.0, c.var.ensures.value)

pub returns-in-Some-clause-value : goal.returns-in-Some-clause-value
returns-in-Some-clause-value c =
    let h = c.self.inside in
    let known = known-at_last c.deref.result.now h.literals.items c.in-Some.lit.now h.assignments.items c.deref.ensures.value c.self.invariant.trail c.in-Some.ensures.item.3.0 c.in-Some.ensures.item.1 in
    let known_too : c.var.result.0 < length h.assignments.items = omega (arith, c.var.ensures.value) in
    let is = c.index.ensures ∙ get_or_default h.assignments.items c.var.result.0 c.index.result.now any_assignment known_too in
    rw (← c.self.view_is) (ap (λ (a : Assignment). a.level) is ∙ ap (λ (n : ℕ). (get_or h.assignments.items n any_assignment).level) c.var.ensures.value ∙ level-at_last c.deref.result.now h.literals.items c.in-Some.lit.now h.assignments.items c.deref.ensures.value c.self.invariant.trail c.in-Some.ensures.item.3.0 c.in-Some.ensures.item.1)
