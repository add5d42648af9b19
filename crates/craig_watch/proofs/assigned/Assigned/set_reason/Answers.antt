use Rattle.std.proofs.Common.{◌<◌, length, arith, ◌∙◌}
use Rattle.std.proofs.lemmas.List.{get_or_default}
use Rattle.std.specs.Vec.{vec_capacity}
use Rattle.craig_watch.specs.HeldFields.{any_assignment, trail_of}
use Rattle.craig_watch.proofs.AssignedLemmas.{AreFields}
use Rattle.craig_watch.proofs.HeldFieldsLemmas.{assigned-known}
use Rattle.craig_watch.proofs.RestedLemmas.{Fields-rested, view-rested}
use Rattle.craig_watch.proofs.assigned.Assigned.set_reason.Goals as goal

pub index_mut-requires : goal.index_mut-requires
index_mut-requires c =
    let h = c.self.inside in
    let known : c.args.var.0 < length h.assignments.items = assigned-known (trail_of h.literals.items h.assignments.items) (length h.assignments.items) c.args.var.0 c.self.invariant.trail.known (rw (← c.self.view_is) at c.requires.assigned) in
    omega (arith, h.assignments.ok.0)

pub invariant_of-self : goal.invariant_of-self
invariant_of-self c =
    let h = c.self.inside in
    let known : c.args.var.0 < length h.assignments.items = assigned-known (trail_of h.literals.items h.assignments.items) (length h.assignments.items) c.args.var.0 c.self.invariant.trail.known (rw (← c.self.view_is) at c.requires.assigned) in
    let is = c.index_mut.ensures.value ∙ get_or_default h.assignments.items c.args.var.0 c.index_mut.result.now any_assignment known in
    let was : AreFields h.literals.items h.assignments.items h.values.items (vec_capacity h.literals) = record { stored = c.self.invariant.stored; values_right = c.self.invariant.values; trail = c.self.invariant.trail } in
    let f = Fields-rested h.assignments.items c.args.var.0 c.args.id c.index_mut.result.now is known h.literals.items h.values.items (vec_capacity h.literals) was (rw (← c.self.view_is) at c.requires.level) in
    record { stored = f.stored; values = f.values_right; trail = f.trail }

pub returns-clause-rests : goal.returns-clause-rests
returns-clause-rests c =
    let h = c.self.inside in
    let known : c.args.var.0 < length h.assignments.items = assigned-known (trail_of h.literals.items h.assignments.items) (length h.assignments.items) c.args.var.0 c.self.invariant.trail.known (rw (← c.self.view_is) at c.requires.assigned) in
    let is = c.index_mut.ensures.value ∙ get_or_default h.assignments.items c.args.var.0 c.index_mut.result.now any_assignment known in
    rw (← c.self.view_is) (view-rested h.assignments.items c.args.var.0 c.args.id c.index_mut.result.now is known h.literals.items)

pub returns-clause-is_trail : goal.returns-clause-is_trail
returns-clause-is_trail c =
    let h = c.self.inside in
    let known : c.args.var.0 < length h.assignments.items = assigned-known (trail_of h.literals.items h.assignments.items) (length h.assignments.items) c.args.var.0 c.self.invariant.trail.known (rw (← c.self.view_is) at c.requires.assigned) in
    let is = c.index_mut.ensures.value ∙ get_or_default h.assignments.items c.args.var.0 c.index_mut.result.now any_assignment known in
    let was : AreFields h.literals.items h.assignments.items h.values.items (vec_capacity h.literals) = record { stored = c.self.invariant.stored; values_right = c.self.invariant.values; trail = c.self.invariant.trail } in
    let f = Fields-rested h.assignments.items c.args.var.0 c.args.id c.index_mut.result.now is known h.literals.items h.values.items (vec_capacity h.literals) was (rw (← c.self.view_is) at c.requires.level) in
    f.trail
