use Rattle.std.proofs.Common.{subst, sym}
use Rattle.craig_base.specs.Arena.{ArenaView, IsLive}
use Rattle.craig_solver.proofs.StandLemmas.{alive-where_shown, held_ids-live}
use Rattle.craig_solver.proofs.solver.Solver.held.Goals as goal

pub lits-requires : goal.lits-requires
lits-requires g c =
    let a = c.self.inside.state.held.arena in
    let ids = c.self.inside.state.held_ids.items in
    let shown = alive-where_shown c.self.inside.dead a ids c.args.place (rw (← c.self.view_is) at c.requires) in
    let s = c.self.invariant shown.0 in
    subst (λ (b : ArenaView). IsLive b c.index-id.result.now.0) (sym c.arena.ensures.value) (held_ids-live a ids c.args.place c.index-id.result.now s.ids shown.1 c.index-id.ensures)
