use Rattle.craig_solver.proofs.StandLemmas.{StandFor-held}
use Rattle.craig_solver.proofs.solver.Solver.held_len.Goals as goal

pub returns-clause-stand : goal.returns-clause-stand
returns-clause-stand g c = λ alive.
    let s = c.self.invariant c.if-self.false in
    rw (← c.self.view_is, c.if-self.false) (StandFor-held _ c.self.inside.state.held.arena _ c.self.inside.state.held_ids.items s.clauses s.ids)
