use Rattle.std.proofs.Common.{◌<◌, arith, length, refl}
use Rattle.craig_base.proofs.ArenaLemmas.{IsArena-table}
use Rattle.craig_base.proofs.HeadsLemmas.{within_heads, arena_with-without, ChangesOnly-let_go}
use Rattle.craig_base.proofs.arena.Arena.kill.Goals as goal

pub index_mut-requires : goal.index_mut-requires
index_mut-requires c =
    let within : c.args.id.0 < length c.self.inside.heads.items = within_heads _ _ _ (rw (← c.self.view_is) at c.requires) in
    omega (arith, c.self.inside.heads.ok.0)

pub returns-clause-without : goal.returns-clause-without
returns-clause-without c = rw (← c.self.view_is) (arena_with-without c.self.inside.heads.items c.self.inside.literals.items c.args.id.0 _ refl)

pub returns-clause-only : goal.returns-clause-only
returns-clause-only c = rw (← c.self.view_is) (ChangesOnly-let_go c.self.inside.heads.items c.self.inside.literals.items c.args.id.0 _ refl)

pub returns-clause-is_arena : goal.returns-clause-is_arena
returns-clause-is_arena c = IsArena-table _
