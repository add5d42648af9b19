use Rattle.std.proofs.Common.{◌<◌, length, Some, arith, sym, ap, ◌∙◌}
use Rattle.std.specs.Option.{option_map}
use Rattle.std.proofs.lemmas.List.{get_or_default}
use Rattle.craig_watch.specs.declared.assignment.Assignment.{Assignment}
use Rattle.craig_watch.specs.declared.trail_entry.TrailEntry.{TrailEntry}
use Rattle.craig_watch.specs.HeldFields.{any_assignment, trail_of}
use Rattle.craig_watch.proofs.HeldFieldsLemmas.{IsNoted, assigned-known, noted}
use Rattle.craig_watch.proofs.assigned.Assigned.reason.Goals as goal

pub index-requires : goal.index-requires
index-requires c =
    let h = c.self.inside in
    let known : c.args.var.0 < length h.assignments.items = assigned-known (trail_of h.literals.items h.assignments.items) (length h.assignments.items) c.args.var.0 c.self.invariant.trail.known (rw (← c.self.view_is) at c.requires) in
    omega (arith, h.assignments.ok.0)

pub returns : goal.returns
returns c =
    let h = c.self.inside in
    let n : IsNoted h.literals.items h.assignments.items c.args.var.0 = noted h.literals.items h.assignments.items c.args.var.0 c.self.invariant.stored.placed (rw (← c.self.view_is) at c.requires) in
    let known : c.args.var.0 < length h.assignments.items = assigned-known (trail_of h.literals.items h.assignments.items) (length h.assignments.items) c.args.var.0 c.self.invariant.trail.known (rw (← c.self.view_is) at c.requires) in
    let is = c.index.ensures ∙ get_or_default h.assignments.items c.args.var.0 c.index.result.now any_assignment known in
    rw (← c.self.view_is) (ap (option_map (λ (e : TrailEntry). e.reason)) n.found ∙ ap Some (n.reason ∙ sym (ap (λ (a : Assignment). a.reason) is)))
