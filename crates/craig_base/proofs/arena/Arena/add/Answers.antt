use Rattle.std.proofs.Common.{arith, refl}
use Rattle.craig_base.proofs.ArenaLemmas.{IsArena-table}
use Rattle.craig_base.proofs.HeadsLemmas.{none_next, arena_with-added, ChangesOnly-heads_added}
use Rattle.craig_base.proofs.arena.Arena.add.Goals as goal

pub returns-clause-added : goal.returns-clause-added
returns-clause-added c = rw (← c.self.view_is, c.push_reserved.ensures.items, c.in_ok-reserve.ensures.items, c.in_ok-extend_from_slice.ensures.items) (arena_with-added c.self.inside.heads.items c.self.inside.literals.items c.args.lits.now _ c.self.invariant (omega (arith, c.len-start.ensures, c.self.inside.literals.ok.0)) refl refl)

pub returns-clause-fresh : goal.returns-clause-fresh
returns-clause-fresh c = rw (c.given.ensures.value, ← c.self.view_is) (none_next c.self.inside.heads.items c.self.inside.literals.items)

pub returns-clause-only : goal.returns-clause-only
returns-clause-only c = rw (c.given.ensures.value, ← c.self.view_is, c.push_reserved.ensures.items, c.in_ok-reserve.ensures.items, c.in_ok-extend_from_slice.ensures.items) (ChangesOnly-heads_added c.self.inside.heads.items c.self.inside.literals.items c.args.lits.now _ c.self.invariant (omega (arith, c.len-start.ensures, c.self.inside.literals.ok.0)) refl refl)

pub returns-clause-is_arena : goal.returns-clause-is_arena
returns-clause-is_arena c = IsArena-table _
