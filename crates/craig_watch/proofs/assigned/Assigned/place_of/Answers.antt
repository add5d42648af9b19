use Rattle.std.proofs.Common.{◌<◌, length, get_or, arith, Some, slice_get, sym, ap, subst, ◌∙◌}
use Rattle.std.proofs.lemmas.List.{get_or_default}
use Rattle.std.proofs.lemmas.Option.{slice_get-get_or}
use Rattle.craig_watch.specs.Trail.{any_entry}
use Rattle.craig_watch.specs.declared.assignment.Assignment.{Assignment}
use Rattle.craig_watch.specs.HeldFields.{any_assignment, trail_of}
use Rattle.craig_watch.proofs.HeldFieldsLemmas.{IsNoted, assigned-known, noted}
use Rattle.craig_watch.proofs.assigned.Assigned.place_of.Goals as goal

pub index-requires : goal.index-requires
index-requires c =
    let h = c.self.inside in
    let known : c.args.var.0 < length h.assignments.items = assigned-known (trail_of h.literals.items h.assignments.items) (length h.assignments.items) c.args.var.0 c.self.invariant.trail.known (rw (← c.self.view_is) at c.requires) in
    omega (arith, h.assignments.ok.0)

pub returns-clause-within : goal.returns-clause-within
returns-clause-within c =
    let h = c.self.inside in
    let n : IsNoted h.literals.items h.assignments.items c.args.var.0 = noted h.literals.items h.assignments.items c.args.var.0 c.self.invariant.stored.placed (rw (← c.self.view_is) at c.requires) in
    let known : c.args.var.0 < length h.assignments.items = assigned-known (trail_of h.literals.items h.assignments.items) (length h.assignments.items) c.args.var.0 c.self.invariant.trail.known (rw (← c.self.view_is) at c.requires) in
    let is = c.index.ensures ∙ get_or_default h.assignments.items c.args.var.0 c.index.result.now any_assignment known in
    rw (← c.self.view_is) (subst (λ (a : Assignment). a.place < length (trail_of h.literals.items h.assignments.items)) (sym is) n.within)

pub returns-clause-entry : goal.returns-clause-entry
returns-clause-entry c =
    let h = c.self.inside in
    let n : IsNoted h.literals.items h.assignments.items c.args.var.0 = noted h.literals.items h.assignments.items c.args.var.0 c.self.invariant.stored.placed (rw (← c.self.view_is) at c.requires) in
    let known : c.args.var.0 < length h.assignments.items = assigned-known (trail_of h.literals.items h.assignments.items) (length h.assignments.items) c.args.var.0 c.self.invariant.trail.known (rw (← c.self.view_is) at c.requires) in
    let is = c.index.ensures ∙ get_or_default h.assignments.items c.args.var.0 c.index.result.now any_assignment known in
    rw (← c.self.view_is) (ap (λ (a : Assignment). slice_get (trail_of h.literals.items h.assignments.items) a.place) is ∙ slice_get-get_or (trail_of h.literals.items h.assignments.items) (get_or h.assignments.items c.args.var.0 any_assignment).place any_entry n.within ∙ ap Some (n.there any_entry) ∙ sym n.found)
