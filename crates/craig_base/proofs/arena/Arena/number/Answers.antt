use Rattle.std.proofs.Common.{refl}
use Rattle.craig_base.proofs.ArenaLemmas.{IsArena-table}
use Rattle.craig_base.proofs.HeadsLemmas.{none_next, arena_with-numbered, none_numbered}
use Rattle.craig_base.proofs.arena.Arena.number.Goals as goal

pub returns-clause-numbered : goal.returns-clause-numbered
returns-clause-numbered c = rw (← c.self.view_is, c.in_ok-push.ensures.items) (arena_with-numbered c.self.inside.heads.items c.self.inside.literals.items _ refl)

pub returns-clause-fresh : goal.returns-clause-fresh
returns-clause-fresh c = rw (c.given.ensures.value, ← c.self.view_is) (none_next c.self.inside.heads.items c.self.inside.literals.items)

pub returns-clause-not_live : goal.returns-clause-not_live
returns-clause-not_live c = rw (c.given.ensures.value, ← c.self.view_is, c.in_ok-push.ensures.items) (none_numbered c.self.inside.heads.items c.self.inside.literals.items _ refl)

pub returns-clause-is_arena : goal.returns-clause-is_arena
returns-clause-is_arena c = IsArena-table _
