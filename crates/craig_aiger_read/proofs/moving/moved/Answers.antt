use Rattle.std.proofs.Common.{rules}
use Rattle.craig_aiger_read.proofs.MovingLemmas.{double-fits, gate-place, moved-fits, moved_by-gate, moved_by-leaf}
use Rattle.craig_aiger_read.proofs.moving.moved.Goals as goal

pub overflow_sub-result : goal.overflow_sub-result
overflow_sub-result c = c.if-literal-first.false

pub offset_bounds-variables-literal : goal.offset_bounds-variables-literal
offset_bounds-variables-literal c = search rules

pub bounds-variables-literal : goal.bounds-variables-literal
bounds-variables-literal c = gate-place _ _ c.args.literal c.if-literal-first.false c.requires.within

pub overflow_mul-result : goal.overflow_mul-result
overflow_mul-result c = double-fits _ _ c.requires.small (gate-place _ _ c.args.literal c.if-literal-first.false c.requires.within)

pub overflow_add-result : goal.overflow_add-result
overflow_add-result c = moved-fits _ _ c.args.literal c.requires.small (gate-place _ _ c.args.literal c.if-literal-first.false c.requires.within)

pub returns-then-literal-first : goal.returns-then-literal-first
returns-then-literal-first c = moved_by-leaf c.args.first c.args.variables.now c.args.literal c.if-literal-first.true

pub returns-else-literal-first : goal.returns-else-literal-first
returns-else-literal-first c = moved_by-gate c.args.first c.args.variables.now c.args.literal c.if-literal-first.false
