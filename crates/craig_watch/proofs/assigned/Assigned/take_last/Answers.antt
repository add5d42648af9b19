use Rattle.std.proofs.Common.{arith, ap, ◌∙◌}
use Rattle.std.specs.Vec.{vec_capacity}
use Rattle.craig_base.specs.Literals.{literal_code}
use Rattle.craig_watch.proofs.AssignedLemmas.{AreFields, Fields-popped, last-valued, negation-valued}
use Rattle.craig_watch.proofs.assigned.Assigned.take_last.Goals as goal

pub invariant_of-self : goal.invariant_of-self
invariant_of-self c =
    let h = c.self.inside in
    let was : AreFields h.literals.items h.assignments.items h.values.items (vec_capacity h.literals) = record { stored = c.self.invariant.stored; values_right = c.self.invariant.values; trail = c.self.invariant.trail } in
    let f = Fields-popped h.literals.items c.pop.new.self.items c.in-Some.lit h.assignments.items h.values.items _ _ c.code.result c.code-2.result was c.in-Some.ensures.items c.code.ensures (c.code-2.ensures ∙ ap literal_code c.not.ensures) c.pop.ensures.capacity in
    record { stored = f.stored; values = f.values_right; trail = f.trail }

pub returns-clause-is_trail : goal.returns-clause-is_trail
returns-clause-is_trail c =
    let h = c.self.inside in
    let was : AreFields h.literals.items h.assignments.items h.values.items (vec_capacity h.literals) = record { stored = c.self.invariant.stored; values_right = c.self.invariant.values; trail = c.self.invariant.trail } in
    let f = Fields-popped h.literals.items c.pop.new.self.items c.in-Some.lit h.assignments.items h.values.items _ _ c.code.result c.code-2.result was c.in-Some.ensures.items c.code.ensures (c.code-2.ensures ∙ ap literal_code c.not.ensures) c.pop.ensures.capacity in
    f.trail

pub index_mut-requires : goal.index_mut-requires
index_mut-requires c =
    let h = c.self.inside in
    let was : AreFields h.literals.items h.assignments.items h.values.items (vec_capacity h.literals) = record { stored = c.self.invariant.stored; values_right = c.self.invariant.values; trail = c.self.invariant.trail } in
    let low = last-valued h.literals.items c.pop.new.self.items c.in-Some.lit h.assignments.items h.values.items _ was c.in-Some.ensures.items in
    omega (arith, h.values.ok.0, c.code.ensures)

pub index_mut-requires-2 : goal.index_mut-requires-2
index_mut-requires-2 c =
    let h = c.self.inside in
    let was : AreFields h.literals.items h.assignments.items h.values.items (vec_capacity h.literals) = record { stored = c.self.invariant.stored; values_right = c.self.invariant.values; trail = c.self.invariant.trail } in
    let low = negation-valued h.literals.items c.pop.new.self.items c.in-Some.lit h.assignments.items h.values.items _ was c.in-Some.ensures.items in
    let is = c.code-2.ensures ∙ ap literal_code c.not.ensures in
    omega (arith, h.values.ok.0, is)
