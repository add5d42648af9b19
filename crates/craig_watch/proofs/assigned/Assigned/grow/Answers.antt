use Rattle.std.proofs.Common.{◌≡◌, ◌≤◌, ◌+◌, ◌*◌, List, length, get_or, arith, ap, refl}
use Rattle.std.specs.Vec.{vec_len, vec_capacity}
use Rattle.craig_watch.specs.declared.assignment.Assignment.{Assignment}
use Rattle.craig_watch.proofs.AssignedLemmas.{AreFields, Fields-grown}
use Rattle.craig_watch.proofs.assigned.Assigned.grow.Goals as goal

pub invariant_of-self-2 : goal.invariant_of-self-2
invariant_of-self-2 c =
    let h = c.self.inside in
    let more : length h.assignments.items ≤ c.args.vars = rw (← c.self.view_is) at c.requires.more in
    let few : c.args.vars ≤ 2147483648 = c.requires.few in
    let size : vec_len c.resize-2.new.self ≡ c.args.vars = c.in_ok-resize-2.ensures.len in
    let long : length c.resize-2.new.self.items ≡ c.args.vars = omega (arith, c.resize-2.new.self.ok.0) in
    let size_too : vec_len c.resize.new.self ≡ 2 * c.args.vars = c.in_ok-resize.ensures.len in
    let long_too : length c.resize.new.self.items ≡ 2 * c.args.vars = omega (arith, c.resize.new.self.ok.0) in
    let room : vec_len c.reserve.new.self + c.saturating_sub.result ≤ vec_capacity c.reserve.new.self = c.in_ok-reserve.ensures.ok in
    let was : AreFields h.literals.items h.assignments.items h.values.items (vec_capacity h.literals) = record { stored = c.self.invariant.stored; values_right = c.self.invariant.values; trail = c.self.invariant.trail } in
    let f = Fields-grown h.literals.items c.reserve.new.self.items h.assignments.items c.resize-2.new.self.items h.values.items c.resize.new.self.items (vec_capacity h.literals) (vec_capacity c.reserve.new.self) was c.reserve.ensures.items (omega arith) (omega arith)
    (omega (arith, c.reserve.ensures.len, c.saturating_sub.ensures, c.len.ensures))
    (omega arith)
    (λ k d w. c.resize-2.ensures.by_index.0 k d (omega arith) (omega (arith, h.assignments.ok.0)))
    (λ k d w low. c.resize.ensures.by_index.0 k d (omega arith) (omega (arith, h.values.ok.0)))
    (λ k d low w. c.in_ok-resize.ensures.by_index.1 k d refl (omega (arith, h.values.ok.0)) (omega arith)) in
    record { stored = f.fields.stored; values = f.fields.values_right; trail = f.fields.trail }

pub returns-clause-known : goal.returns-clause-known
returns-clause-known c =
    let h = c.self.inside in
    let more : length h.assignments.items ≤ c.args.vars = rw (← c.self.view_is) at c.requires.more in
    let few : c.args.vars ≤ 2147483648 = c.requires.few in
    let size : vec_len c.resize-2.new.self ≡ c.args.vars = c.in_ok-resize-2.ensures.len in
    let long : length c.resize-2.new.self.items ≡ c.args.vars = omega (arith, c.resize-2.new.self.ok.0) in
    let size_too : vec_len c.resize.new.self ≡ 2 * c.args.vars = c.in_ok-resize.ensures.len in
    let long_too : length c.resize.new.self.items ≡ 2 * c.args.vars = omega (arith, c.resize.new.self.ok.0) in
    let room : vec_len c.reserve.new.self + c.saturating_sub.result ≤ vec_capacity c.reserve.new.self = c.in_ok-reserve.ensures.ok in
    let was : AreFields h.literals.items h.assignments.items h.values.items (vec_capacity h.literals) = record { stored = c.self.invariant.stored; values_right = c.self.invariant.values; trail = c.self.invariant.trail } in
    let f = Fields-grown h.literals.items c.reserve.new.self.items h.assignments.items c.resize-2.new.self.items h.values.items c.resize.new.self.items (vec_capacity h.literals) (vec_capacity c.reserve.new.self) was c.reserve.ensures.items (omega arith) (omega arith)
    (omega (arith, c.reserve.ensures.len, c.saturating_sub.ensures, c.len.ensures))
    (omega arith)
    (λ k d w. c.resize-2.ensures.by_index.0 k d (omega arith) (omega (arith, h.assignments.ok.0)))
    (λ k d w low. c.resize.ensures.by_index.0 k d (omega arith) (omega (arith, h.values.ok.0)))
    (λ k d low w. c.in_ok-resize.ensures.by_index.1 k d refl (omega (arith, h.values.ok.0)) (omega arith)) in
    rw (← c.self.view_is) (λ i. record { vars = long i; trail = f.shown i })

pub returns-clause-is_trail : goal.returns-clause-is_trail
returns-clause-is_trail c =
    let h = c.self.inside in
    let more : length h.assignments.items ≤ c.args.vars = rw (← c.self.view_is) at c.requires.more in
    let few : c.args.vars ≤ 2147483648 = c.requires.few in
    let size : vec_len c.resize-2.new.self ≡ c.args.vars = c.in_ok-resize-2.ensures.len in
    let long : length c.resize-2.new.self.items ≡ c.args.vars = omega (arith, c.resize-2.new.self.ok.0) in
    let size_too : vec_len c.resize.new.self ≡ 2 * c.args.vars = c.in_ok-resize.ensures.len in
    let long_too : length c.resize.new.self.items ≡ 2 * c.args.vars = omega (arith, c.resize.new.self.ok.0) in
    let room : vec_len c.reserve.new.self + c.saturating_sub.result ≤ vec_capacity c.reserve.new.self = c.in_ok-reserve.ensures.ok in
    let was : AreFields h.literals.items h.assignments.items h.values.items (vec_capacity h.literals) = record { stored = c.self.invariant.stored; values_right = c.self.invariant.values; trail = c.self.invariant.trail } in
    let f = Fields-grown h.literals.items c.reserve.new.self.items h.assignments.items c.resize-2.new.self.items h.values.items c.resize.new.self.items (vec_capacity h.literals) (vec_capacity c.reserve.new.self) was c.reserve.ensures.items (omega arith) (omega arith)
    (omega (arith, c.reserve.ensures.len, c.saturating_sub.ensures, c.len.ensures))
    (omega arith)
    (λ k d w. c.resize-2.ensures.by_index.0 k d (omega arith) (omega (arith, h.assignments.ok.0)))
    (λ k d w low. c.resize.ensures.by_index.0 k d (omega arith) (omega (arith, h.values.ok.0)))
    (λ k d low w. c.in_ok-resize.ensures.by_index.1 k d refl (omega (arith, h.values.ok.0)) (omega arith)) in
    f.fields.trail

pub invariant_of-self-in_err-resize-2 : goal.invariant_of-self-in_err-resize-2
invariant_of-self-in_err-resize-2 c =
    let h = c.self.inside in
    let more : length h.assignments.items ≤ c.args.vars = rw (← c.self.view_is) at c.requires.more in
    let few : c.args.vars ≤ 2147483648 = c.requires.few in
    let same : c.resize-2.new.self.items ≡ h.assignments.items = c.in_err-resize-2.ensures.items in
    let long : length c.resize-2.new.self.items ≡ length h.assignments.items = ap length same in
    let size_too : vec_len c.resize.new.self ≡ 2 * c.args.vars = c.in_ok-resize.ensures.len in
    let long_too : length c.resize.new.self.items ≡ 2 * c.args.vars = omega (arith, c.resize.new.self.ok.0) in
    let fit = c.self.invariant.stored.fits in
    let was : AreFields h.literals.items h.assignments.items h.values.items (vec_capacity h.literals) = record { stored = c.self.invariant.stored; values_right = c.self.invariant.values; trail = c.self.invariant.trail } in
    let f = Fields-grown h.literals.items c.reserve.new.self.items h.assignments.items c.resize-2.new.self.items h.values.items c.resize.new.self.items (vec_capacity h.literals) (vec_capacity c.reserve.new.self) was c.reserve.ensures.items (omega arith) (omega arith)
    (omega (arith, c.reserve.ensures.capacity))
    (omega arith)
    (λ k d w. ap (λ (xs : List Assignment). get_or xs k d) same)
    (λ k d w low. c.resize.ensures.by_index.0 k d (omega arith) (omega (arith, h.values.ok.0)))
    (λ k d low w. c.in_ok-resize.ensures.by_index.1 k d refl (omega (arith, h.values.ok.0)) (omega arith)) in
    record { stored = f.fields.stored; values = f.fields.values_right; trail = f.fields.trail }
