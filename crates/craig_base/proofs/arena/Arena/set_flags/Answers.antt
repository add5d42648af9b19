use Rattle.std.proofs.Common.{◌<◌, arith, length}
use Rattle.craig_base.proofs.ArenaLemmas.{IsArena-table}
use Rattle.craig_base.proofs.HeadsLemmas.{within_heads, arena_with-changed, ChangesClause-heads, entries_flagged}
use Rattle.craig_base.proofs.arena.Arena.set_flags.Goals as goal

pub index_mut-requires : goal.index_mut-requires
index_mut-requires c =
    let within : c.args.id.0 < length c.self.inside.heads.items = within_heads _ _ _ (rw (← c.self.view_is) at c.requires) in
    omega (arith, c.self.inside.heads.ok.0)

pub returns-clause-changed : goal.returns-clause-changed
returns-clause-changed c =
    let live = rw (← c.self.view_is) at c.requires in
    rw (← c.self.view_is, c.set_flags.ensures) (arena_with-changed (λ d. record { literals = d.literals; flags = c.args.flags }) c.self.inside.heads.items _ c.self.inside.literals.items c.self.inside.literals.items c.args.id.0 c.index_mut.result.now live c.index_mut.ensures.value (entries_flagged c.self.inside.heads.items c.self.inside.literals.items c.args.id.0 c.index_mut.result.now c.args.flags live c.index_mut.ensures.value))

pub returns-clause-only : goal.returns-clause-only
returns-clause-only c =
    let live = rw (← c.self.view_is) at c.requires in
    rw (← c.self.view_is, c.set_flags.ensures) (ChangesClause-heads (λ d. record { literals = d.literals; flags = c.args.flags }) c.self.inside.heads.items _ c.self.inside.literals.items c.self.inside.literals.items c.args.id.0 c.index_mut.result.now live c.index_mut.ensures.value (entries_flagged c.self.inside.heads.items c.self.inside.literals.items c.args.id.0 c.index_mut.result.now c.args.flags live c.index_mut.ensures.value))

pub returns-clause-is_arena : goal.returns-clause-is_arena
returns-clause-is_arena c = IsArena-table _
