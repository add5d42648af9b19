use Rattle.std.proofs.Common.{◌≡◌, ◌<◌, ap, arith, ◌∙◌}
use Rattle.craig_rows_solver.proofs.order.is_assigned.Goals as goal

pub next-requires-clause-given_back : goal.next-requires-clause-given_back
next-requires-clause-given_back c = λ v free.
    let vars : c.propagate.new.self.vars ≡ 2 = c.in_ok-propagate.ensures.lengthened.vars ∙ (ap (λ h. h.vars) c.in_ok-hold-2.ensures.held ∙ (ap (λ h. h.vars) c.in_ok-hold.ensures.held ∙ c.in_ok-grow.ensures.vars)) in
    let known : v < c.propagate.new.self.vars = free.0 in
    let below : v < 2 = omega (arith, known, vars) in
    c.in_ok-grow.ensures.given_back v below
