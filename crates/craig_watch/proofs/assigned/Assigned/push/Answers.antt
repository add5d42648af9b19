use Rattle.std.proofs.Common.{◌<◌, length, arith, ap, ◌∙◌}
use Rattle.std.proofs.lemmas.List.{length-set}
use Rattle.std.specs.Vec.{vec_capacity}
use Rattle.craig_base.specs.Literals.{literal_code}
use Rattle.craig_watch.specs.HeldFields.{trail_of}
use Rattle.craig_watch.proofs.HeldFieldsLemmas.{length-trail_of}
use Rattle.craig_watch.proofs.StoredLemmas.{room-push, pushed_items}
use Rattle.craig_watch.proofs.AssignedLemmas.{AreFields, Fields-pushed, IsTrail-push, view-pushed}
use Rattle.craig_watch.proofs.assigned.Assigned.push.Goals as goal

pub invariant_of-self : goal.invariant_of-self
invariant_of-self c =
    let h = c.self.inside in
    let known = rw (← c.self.view_is) at c.requires.known in
    let free = rw (← c.self.view_is) at c.requires.free in
    let level = rw (← c.self.view_is) at c.requires.level in
    let ok = IsTrail-push (length h.assignments.items) (trail_of h.literals.items h.assignments.items) c.args.entry c.self.invariant.trail known free level in
    let room : length (trail_of h.literals.items h.assignments.items) < length h.assignments.items = room-push (trail_of h.literals.items h.assignments.items) c.args.entry (length h.assignments.items) ok.known ok.distinct in
    let same = length-trail_of h.literals.items h.assignments.items in
    let fit = c.self.invariant.stored.fits in
    let pushed = pushed_items _ _ _ _ (c.push.ensures.succeeds (omega (arith, h.literals.ok.0))) c.push.ensures.items in
    let was : AreFields h.literals.items h.assignments.items h.values.items (vec_capacity h.literals) = record { stored = c.self.invariant.stored; values_right = c.self.invariant.values; trail = c.self.invariant.trail } in
    let f = Fields-pushed h.literals.items c.push.new.self.items h.assignments.items h.values.items c.args.entry _ _ c.var.result.0 _ c.code.result c.code-2.result was known free level c.push.ensures.capacity c.var.ensures.value (let is = c.len-place.ensures in omega (arith, h.literals.ok.0)) c.code.ensures (c.code-2.ensures ∙ ap literal_code c.not.ensures) pushed in
    record { stored = f.fields.stored; values = f.fields.values_right; trail = f.fields.trail }

pub returns-clause-is_trail : goal.returns-clause-is_trail
returns-clause-is_trail c =
    let h = c.self.inside in
    let known = rw (← c.self.view_is) at c.requires.known in
    let free = rw (← c.self.view_is) at c.requires.free in
    let level = rw (← c.self.view_is) at c.requires.level in
    let ok = IsTrail-push (length h.assignments.items) (trail_of h.literals.items h.assignments.items) c.args.entry c.self.invariant.trail known free level in
    let room : length (trail_of h.literals.items h.assignments.items) < length h.assignments.items = room-push (trail_of h.literals.items h.assignments.items) c.args.entry (length h.assignments.items) ok.known ok.distinct in
    let same = length-trail_of h.literals.items h.assignments.items in
    let fit = c.self.invariant.stored.fits in
    let pushed = pushed_items _ _ _ _ (c.push.ensures.succeeds (omega (arith, h.literals.ok.0))) c.push.ensures.items in
    let was : AreFields h.literals.items h.assignments.items h.values.items (vec_capacity h.literals) = record { stored = c.self.invariant.stored; values_right = c.self.invariant.values; trail = c.self.invariant.trail } in
    let f = Fields-pushed h.literals.items c.push.new.self.items h.assignments.items h.values.items c.args.entry _ _ c.var.result.0 _ c.code.result c.code-2.result was known free level c.push.ensures.capacity c.var.ensures.value (let is = c.len-place.ensures in omega (arith, h.literals.ok.0)) c.code.ensures (c.code-2.ensures ∙ ap literal_code c.not.ensures) pushed in
    f.fields.trail

pub returns-clause-pushed : goal.returns-clause-pushed
returns-clause-pushed c =
    let h = c.self.inside in
    let known = rw (← c.self.view_is) at c.requires.known in
    let free = rw (← c.self.view_is) at c.requires.free in
    let level = rw (← c.self.view_is) at c.requires.level in
    let ok = IsTrail-push (length h.assignments.items) (trail_of h.literals.items h.assignments.items) c.args.entry c.self.invariant.trail known free level in
    let room : length (trail_of h.literals.items h.assignments.items) < length h.assignments.items = room-push (trail_of h.literals.items h.assignments.items) c.args.entry (length h.assignments.items) ok.known ok.distinct in
    let same = length-trail_of h.literals.items h.assignments.items in
    let fit = c.self.invariant.stored.fits in
    let pushed = pushed_items _ _ _ _ (c.push.ensures.succeeds (omega (arith, h.literals.ok.0))) c.push.ensures.items in
    let was : AreFields h.literals.items h.assignments.items h.values.items (vec_capacity h.literals) = record { stored = c.self.invariant.stored; values_right = c.self.invariant.values; trail = c.self.invariant.trail } in
    let f = Fields-pushed h.literals.items c.push.new.self.items h.assignments.items h.values.items c.args.entry _ _ c.var.result.0 _ c.code.result c.code-2.result was known free level c.push.ensures.capacity c.var.ensures.value (let is = c.len-place.ensures in omega (arith, h.literals.ok.0)) c.code.ensures (c.code-2.ensures ∙ ap literal_code c.not.ensures) pushed in
    rw (← c.self.view_is) (view-pushed (trail_of h.literals.items h.assignments.items) c.args.entry _ (length-set h.assignments.items c.var.result.0 _) f.shown)

pub overflow_cast-place : goal.overflow_cast-place
overflow_cast-place c =
    let h = c.self.inside in
    let known = rw (← c.self.view_is) at c.requires.known in
    let free = rw (← c.self.view_is) at c.requires.free in
    let level = rw (← c.self.view_is) at c.requires.level in
    let ok = IsTrail-push (length h.assignments.items) (trail_of h.literals.items h.assignments.items) c.args.entry c.self.invariant.trail known free level in
    let room : length (trail_of h.literals.items h.assignments.items) < length h.assignments.items = room-push (trail_of h.literals.items h.assignments.items) c.args.entry (length h.assignments.items) ok.known ok.distinct in
    let same = length-trail_of h.literals.items h.assignments.items in
    let few = c.self.invariant.trail.few in
    omega (arith, h.literals.ok.0, c.len-place.ensures)
