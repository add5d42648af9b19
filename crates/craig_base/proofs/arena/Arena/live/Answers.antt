use Rattle.std.proofs.Common.{refl}
use Rattle.craig_base.proofs.ArenaLemmas.{IsArena-table}
use Rattle.craig_base.proofs.HeadsLemmas.{live_found, none_past}
use Rattle.craig_base.proofs.arena.Arena.live.Goals as goal

pub returns-in-Some-clause-live : goal.returns-in-Some-clause-live
returns-in-Some-clause-live c =
    let within = rw c.deref.ensures.value at c.in-Some.ensures.lookup.3.0 in
    let at_k = rw c.deref.ensures.value at c.in-Some.ensures.lookup.1 in
    rw (← c.self.view_is) (live_found c.self.inside.heads.items c.self.inside.literals.items c.args.id.0 c.in-Some.head.now within at_k)

pub returns-in-Some-clause-is_arena : goal.returns-in-Some-clause-is_arena
returns-in-Some-clause-is_arena c = rw (← c.self.view_is) (IsArena-table _)

pub returns-in-None-clause-live : goal.returns-in-None-clause-live
returns-in-None-clause-live c =
    let past = rw c.deref.ensures.value at c.in-None.ensures.lookup.3 in
    rw (← c.self.view_is, none_past c.self.inside.heads.items c.self.inside.literals.items c.args.id.0 past) refl

pub returns-in-None-clause-is_arena : goal.returns-in-None-clause-is_arena
returns-in-None-clause-is_arena c = rw (← c.self.view_is) (IsArena-table _)
