use Rattle.craig_base.proofs.ArenaLemmas.{IsArena-table}
use Rattle.craig_base.proofs.arena.Arena.given.Goals as goal

pub returns-clause-is_arena : goal.returns-clause-is_arena
returns-clause-is_arena c = rw (← c.self.view_is) (IsArena-table _)
