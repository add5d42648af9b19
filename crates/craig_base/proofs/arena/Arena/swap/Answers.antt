use Rattle.std.specs.List.{swap}
use Rattle.std.proofs.Common.{◌<◌, arith, length}
use Rattle.craig_base.proofs.ArenaLemmas.{IsArena-table}
use Rattle.craig_base.proofs.HeadsLemmas.{within_heads, head_within, within_literals, arena_with-changed, ChangesClause-heads, entries_swapped}
use Rattle.craig_base.proofs.arena.Arena.swap.Goals as goal

pub index-requires : goal.index-requires
index-requires c =
    let within : c.args.id.0 < length c.self.inside.heads.items = within_heads _ _ _ (rw (← c.self.view_is) at c.requires.live) in
    omega (arith, c.self.inside.heads.ok.0)

pub overflow_add-start : goal.overflow_add-start
overflow_add-start c =
    let live = rw (← c.self.view_is) at c.requires.live in
    let inside = head_within c.self.inside.heads.items c.self.inside.literals.items c.args.id.0 c.index.result.now c.self.invariant live c.index.ensures in
    let in_clause = within_literals c.self.inside.heads.items c.self.inside.literals.items c.args.id.0 c.index.result.now c.args.left c.self.invariant live c.index.ensures (rw (← c.self.view_is) at c.requires.left) in
    omega (arith, inside, in_clause, c.self.inside.literals.ok.0)

pub overflow_add-start-2 : goal.overflow_add-start-2
overflow_add-start-2 c =
    let live = rw (← c.self.view_is) at c.requires.live in
    let inside = head_within c.self.inside.heads.items c.self.inside.literals.items c.args.id.0 c.index.result.now c.self.invariant live c.index.ensures in
    let in_clause = within_literals c.self.inside.heads.items c.self.inside.literals.items c.args.id.0 c.index.result.now c.args.right c.self.invariant live c.index.ensures (rw (← c.self.view_is) at c.requires.right) in
    omega (arith, inside, in_clause, c.self.inside.literals.ok.0)

pub swap-requires-clause-i_in_bounds : goal.swap-requires-clause-i_in_bounds
swap-requires-clause-i_in_bounds c =
    let live = rw (← c.self.view_is) at c.requires.live in
    let inside = head_within c.self.inside.heads.items c.self.inside.literals.items c.args.id.0 c.index.result.now c.self.invariant live c.index.ensures in
    let in_clause = within_literals c.self.inside.heads.items c.self.inside.literals.items c.args.id.0 c.index.result.now c.args.left c.self.invariant live c.index.ensures (rw (← c.self.view_is) at c.requires.left) in
    omega (arith, inside, in_clause, c.self.inside.literals.ok.0)

pub swap-requires-clause-j_in_bounds : goal.swap-requires-clause-j_in_bounds
swap-requires-clause-j_in_bounds c =
    let live = rw (← c.self.view_is) at c.requires.live in
    let inside = head_within c.self.inside.heads.items c.self.inside.literals.items c.args.id.0 c.index.result.now c.self.invariant live c.index.ensures in
    let in_clause = within_literals c.self.inside.heads.items c.self.inside.literals.items c.args.id.0 c.index.result.now c.args.right c.self.invariant live c.index.ensures (rw (← c.self.view_is) at c.requires.right) in
    omega (arith, inside, in_clause, c.self.inside.literals.ok.0)

pub returns-clause-changed : goal.returns-clause-changed
returns-clause-changed c =
    let live = rw (← c.self.view_is) at c.requires.live in
    let left = within_literals c.self.inside.heads.items c.self.inside.literals.items c.args.id.0 c.index.result.now c.args.left c.self.invariant live c.index.ensures (rw (← c.self.view_is) at c.requires.left) in
    let right = within_literals c.self.inside.heads.items c.self.inside.literals.items c.args.id.0 c.index.result.now c.args.right c.self.invariant live c.index.ensures (rw (← c.self.view_is) at c.requires.right) in
    rw (← c.self.view_is, c.swap.ensures.items) (arena_with-changed (λ d. record { literals = swap d.literals c.args.left c.args.right; flags = d.flags }) c.self.inside.heads.items c.self.inside.heads.items c.self.inside.literals.items _ c.args.id.0 c.index.result.now live c.index.ensures (entries_swapped c.self.inside.heads.items c.self.inside.literals.items c.args.id.0 c.index.result.now c.args.left c.args.right c.self.invariant live c.index.ensures left right))

pub returns-clause-only : goal.returns-clause-only
returns-clause-only c =
    let live = rw (← c.self.view_is) at c.requires.live in
    let left = within_literals c.self.inside.heads.items c.self.inside.literals.items c.args.id.0 c.index.result.now c.args.left c.self.invariant live c.index.ensures (rw (← c.self.view_is) at c.requires.left) in
    let right = within_literals c.self.inside.heads.items c.self.inside.literals.items c.args.id.0 c.index.result.now c.args.right c.self.invariant live c.index.ensures (rw (← c.self.view_is) at c.requires.right) in
    rw (← c.self.view_is, c.swap.ensures.items) (ChangesClause-heads (λ d. record { literals = swap d.literals c.args.left c.args.right; flags = d.flags }) c.self.inside.heads.items c.self.inside.heads.items c.self.inside.literals.items _ c.args.id.0 c.index.result.now live c.index.ensures (entries_swapped c.self.inside.heads.items c.self.inside.literals.items c.args.id.0 c.index.result.now c.args.left c.args.right c.self.invariant live c.index.ensures left right))

pub returns-clause-is_arena : goal.returns-clause-is_arena
returns-clause-is_arena c = IsArena-table _
