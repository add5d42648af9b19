use Rattle.std.proofs.Common.{sym, ◌∙◌}
use Rattle.craig_proof.proofs.PackedLemmas.{first-begins, next-left, next-pivot, next-step, not_empty}
use Rattle.craig_proof.proofs.packed_steps.PackedSteps.next.Goals as goal

pub first_number-pivot-requires : goal.first_number-pivot-requires
first_number-pivot-requires c = first-begins c.self.inside.id.0 c.self.inside.bytes.now _ c.self.invariant (not_empty c.self.inside.bytes.now _ c.is_empty.ensures c.if-is_empty.false)

pub numbered_literal-requires : goal.numbered_literal-requires
numbered_literal-requires c = next-pivot c.self.inside.id.0 c.self.inside.bytes.now _ c.first_number-pivot.result.0 c.first_number-difference.result.0 c.first_number-pivot.result.1.now c.first_number-difference.result.1.now c.self.invariant (not_empty c.self.inside.bytes.now _ c.is_empty.ensures c.if-is_empty.false) c.first_number-pivot.ensures c.first_number-difference.ensures

pub invariant_of-self : goal.invariant_of-self
invariant_of-self c = next-left c.self.inside.id.0 c.self.inside.bytes.now _ c.first_number-pivot.result.0 c.first_number-difference.result.0 c.first_number-pivot.result.1.now c.first_number-difference.result.1.now c.self.invariant (not_empty c.self.inside.bytes.now _ c.is_empty.ensures c.if-is_empty.false) c.first_number-pivot.ensures c.first_number-difference.ensures

pub returns-clause-step : goal.returns-clause-step
returns-clause-step c = sym c.self.view_is ∙ next-step c.self.inside.id.0 c.self.inside.bytes.now _ c.first_number-pivot.result.0 c.first_number-difference.result.0 c.first_number-pivot.result.1.now c.first_number-difference.result.1.now c.self.invariant (not_empty c.self.inside.bytes.now _ c.is_empty.ensures c.if-is_empty.false) c.first_number-pivot.ensures c.first_number-difference.ensures c.numbered_literal.result c.numbered_literal.ensures
