use Rattle.std.proofs.Common.{◌≡◌, ◌+◌, ◌-◌, ◌<◌, arith, length, sym}
use Rattle.craig_base.proofs.ArenaLemmas.{IsArena-table}
use Rattle.craig_base.proofs.HeadsLemmas.{within_heads, head_within, literals_at_head}
use Rattle.craig_base.proofs.arena.Arena.lits.Goals as goal

pub index-head-requires : goal.index-head-requires
index-head-requires c =
    let within : c.args.id.0 < length c.self.inside.heads.items = within_heads _ _ _ (rw (← c.self.view_is) at c.requires) in
    omega (arith, c.self.inside.heads.ok.0)

pub overflow_add-result : goal.overflow_add-result
overflow_add-result c =
    let inside = head_within c.self.inside.heads.items c.self.inside.literals.items c.args.id.0 c.index-head.result.now c.self.invariant (rw (← c.self.view_is) at c.requires) c.index-head.ensures in
    omega (arith, inside, c.self.inside.literals.ok.0)

pub offset_bounds-deref-head : goal.offset_bounds-deref-head
offset_bounds-deref-head c =
    let inside = head_within c.self.inside.heads.items c.self.inside.literals.items c.args.id.0 c.index-head.result.now c.self.invariant (rw (← c.self.view_is) at c.requires) c.index-head.ensures in
    omega (arith, inside, c.deref.type_inv, rw c.deref.ensures.value at c.deref.type_inv.1)

pub slice_bounds-result-end : goal.slice_bounds-result-end
slice_bounds-result-end c =
    let inside = head_within c.self.inside.heads.items c.self.inside.literals.items c.args.id.0 c.index-head.result.now c.self.invariant (rw (← c.self.view_is) at c.requires) c.index-head.ensures in
    omega (arith, inside, c.deref.ensures.len, c.self.inside.literals.ok.0)

pub returns-clause-literals : goal.returns-clause-literals
returns-clause-literals c =
    let there = literals_at_head c.self.inside.heads.items c.self.inside.literals.items c.args.id.0 c.index-head.result.now (rw (← c.self.view_is) at c.requires) c.index-head.ensures in
    let length_is : c.index-head.result.now.start + c.index-head.result.now.length - c.index-head.result.now.start ≡ c.index-head.result.now.length = omega arith in
    rw (length_is, c.deref.ensures.value, ← c.self.view_is) (sym there)

pub returns-clause-is_arena : goal.returns-clause-is_arena
returns-clause-is_arena c = rw (← c.self.view_is) (IsArena-table _)
