use Rattle.craig_solver.proofs.RootLemmas.{root-told, told-shown, units-shown}
use Rattle.craig_solver.proofs.solver.Solver.tracer.Goals as goal

pub returns-clause-told : goal.returns-clause-told
returns-clause-told g c =
    rw (← c.self.view_is) (told-shown c.self.inside.dead _ c.self.invariant)

pub returns-clause-units : goal.returns-clause-units
returns-clause-units g c =
    rw (← c.self.view_is) (units-shown c.self.inside.dead _ c.self.invariant)

pub returns-clause-root : goal.returns-clause-root
returns-clause-root g c =
    rw (← c.self.view_is) (root-told c.self.inside.dead _ c.self.invariant)
