use Rattle.std.specs.List.{remove}
use Rattle.std.proofs.Common.{◌≡◌, ◌<◌, arith, length}
use Rattle.craig_base.proofs.ArenaLemmas.{IsArena-table}
use Rattle.craig_base.proofs.HeadsLemmas.{within_heads, head_within, within_literals, arena_with-changed, ChangesClause-heads, entries_shrunk}
use Rattle.craig_base.proofs.arena.Arena.shrink.Goals as goal

pub index_mut-head-requires : goal.index_mut-head-requires
index_mut-head-requires c =
    let within : c.args.id.0 < length c.self.inside.heads.items = within_heads _ _ _ (rw (← c.self.view_is) at c.requires.live) in
    omega (arith, c.self.inside.heads.ok.0)

pub overflow_add-out : goal.overflow_add-out
overflow_add-out c =
    let live = rw (← c.self.view_is) at c.requires.live in
    let inside = head_within c.self.inside.heads.items c.self.inside.literals.items c.args.id.0 c.index_mut-head.result.now c.self.invariant live c.index_mut-head.ensures.value in
    let in_clause = within_literals c.self.inside.heads.items c.self.inside.literals.items c.args.id.0 c.index_mut-head.result.now c.args.place c.self.invariant live c.index_mut-head.ensures.value (rw (← c.self.view_is) at c.requires.place) in
    omega (arith, inside, in_clause, c.self.inside.literals.ok.0)

pub overflow_add-out-2 : goal.overflow_add-out-2
overflow_add-out-2 c =
    let live = rw (← c.self.view_is) at c.requires.live in
    let inside = head_within c.self.inside.heads.items c.self.inside.literals.items c.args.id.0 c.index_mut-head.result.now c.self.invariant live c.index_mut-head.ensures.value in
    let in_clause = within_literals c.self.inside.heads.items c.self.inside.literals.items c.args.id.0 c.index_mut-head.result.now c.args.place c.self.invariant live c.index_mut-head.ensures.value (rw (← c.self.view_is) at c.requires.place) in
    omega (arith, inside, in_clause, c.self.inside.literals.ok.0)

pub overflow_add-end : goal.overflow_add-end
overflow_add-end c =
    let live = rw (← c.self.view_is) at c.requires.live in
    let inside = head_within c.self.inside.heads.items c.self.inside.literals.items c.args.id.0 c.index_mut-head.result.now c.self.invariant live c.index_mut-head.ensures.value in
    let in_clause = within_literals c.self.inside.heads.items c.self.inside.literals.items c.args.id.0 c.index_mut-head.result.now c.args.place c.self.invariant live c.index_mut-head.ensures.value (rw (← c.self.view_is) at c.requires.place) in
    omega (arith, inside, in_clause, c.self.inside.literals.ok.0)

pub copy_within-requires-clause-start_le_end : goal.copy_within-requires-clause-start_le_end
copy_within-requires-clause-start_le_end c =
    let live = rw (← c.self.view_is) at c.requires.live in
    let inside = head_within c.self.inside.heads.items c.self.inside.literals.items c.args.id.0 c.index_mut-head.result.now c.self.invariant live c.index_mut-head.ensures.value in
    let in_clause = within_literals c.self.inside.heads.items c.self.inside.literals.items c.args.id.0 c.index_mut-head.result.now c.args.place c.self.invariant live c.index_mut-head.ensures.value (rw (← c.self.view_is) at c.requires.place) in
    omega (arith, inside, in_clause, c.self.inside.literals.ok.0)

pub copy_within-requires-clause-in_bounds : goal.copy_within-requires-clause-in_bounds
copy_within-requires-clause-in_bounds c =
    let live = rw (← c.self.view_is) at c.requires.live in
    let inside = head_within c.self.inside.heads.items c.self.inside.literals.items c.args.id.0 c.index_mut-head.result.now c.self.invariant live c.index_mut-head.ensures.value in
    let in_clause = within_literals c.self.inside.heads.items c.self.inside.literals.items c.args.id.0 c.index_mut-head.result.now c.args.place c.self.invariant live c.index_mut-head.ensures.value (rw (← c.self.view_is) at c.requires.place) in
    omega (arith, inside, in_clause, c.self.inside.literals.ok.0)

pub copy_within-requires-clause-dest_in_bounds : goal.copy_within-requires-clause-dest_in_bounds
copy_within-requires-clause-dest_in_bounds c =
    let live = rw (← c.self.view_is) at c.requires.live in
    let inside = head_within c.self.inside.heads.items c.self.inside.literals.items c.args.id.0 c.index_mut-head.result.now c.self.invariant live c.index_mut-head.ensures.value in
    let in_clause = within_literals c.self.inside.heads.items c.self.inside.literals.items c.args.id.0 c.index_mut-head.result.now c.args.place c.self.invariant live c.index_mut-head.ensures.value (rw (← c.self.view_is) at c.requires.place) in
    omega (arith, inside, in_clause, c.self.inside.literals.ok.0)

pub overflow_sub-head : goal.overflow_sub-head
overflow_sub-head c =
    let live = rw (← c.self.view_is) at c.requires.live in
    let inside = head_within c.self.inside.heads.items c.self.inside.literals.items c.args.id.0 c.index_mut-head.result.now c.self.invariant live c.index_mut-head.ensures.value in
    let in_clause = within_literals c.self.inside.heads.items c.self.inside.literals.items c.args.id.0 c.index_mut-head.result.now c.args.place c.self.invariant live c.index_mut-head.ensures.value (rw (← c.self.view_is) at c.requires.place) in
    omega (arith, inside, in_clause, c.self.inside.literals.ok.0)

pub returns-clause-changed : goal.returns-clause-changed
returns-clause-changed c =
    let live = rw (← c.self.view_is) at c.requires.live in
    let in_clause = within_literals c.self.inside.heads.items c.self.inside.literals.items c.args.id.0 c.index_mut-head.result.now c.args.place c.self.invariant live c.index_mut-head.ensures.value (rw (← c.self.view_is) at c.requires.place) in
    let len : length c.copy_within.new.self.items ≡ length c.self.inside.literals.items = omega (arith, c.copy_within.ensures.len, c.self.inside.literals.ok.0, c.copy_within.new.self.ok.0) in
    rw (← c.self.view_is) (arena_with-changed (λ d. record { literals = remove d.literals c.args.place; flags = d.flags }) c.self.inside.heads.items _ c.self.inside.literals.items c.copy_within.new.self.items c.args.id.0 c.index_mut-head.result.now live c.index_mut-head.ensures.value (entries_shrunk c.self.inside.heads.items c.self.inside.literals.items c.copy_within.new.self.items c.args.id.0 c.index_mut-head.result.now c.args.place c.self.invariant live c.index_mut-head.ensures.value in_clause len c.copy_within.ensures.by_index.0 c.copy_within.ensures.by_index.1 c.copy_within.ensures.by_index.2))

pub returns-clause-only : goal.returns-clause-only
returns-clause-only c =
    let live = rw (← c.self.view_is) at c.requires.live in
    let in_clause = within_literals c.self.inside.heads.items c.self.inside.literals.items c.args.id.0 c.index_mut-head.result.now c.args.place c.self.invariant live c.index_mut-head.ensures.value (rw (← c.self.view_is) at c.requires.place) in
    let len : length c.copy_within.new.self.items ≡ length c.self.inside.literals.items = omega (arith, c.copy_within.ensures.len, c.self.inside.literals.ok.0, c.copy_within.new.self.ok.0) in
    rw (← c.self.view_is) (ChangesClause-heads (λ d. record { literals = remove d.literals c.args.place; flags = d.flags }) c.self.inside.heads.items _ c.self.inside.literals.items c.copy_within.new.self.items c.args.id.0 c.index_mut-head.result.now live c.index_mut-head.ensures.value (entries_shrunk c.self.inside.heads.items c.self.inside.literals.items c.copy_within.new.self.items c.args.id.0 c.index_mut-head.result.now c.args.place c.self.invariant live c.index_mut-head.ensures.value in_clause len c.copy_within.ensures.by_index.0 c.copy_within.ensures.by_index.1 c.copy_within.ensures.by_index.2))

pub returns-clause-is_arena : goal.returns-clause-is_arena
returns-clause-is_arena c = IsArena-table _
