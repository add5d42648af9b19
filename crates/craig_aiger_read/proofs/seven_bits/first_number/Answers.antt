use Rattle.std.proofs.Common.{arith, rules}
use Rattle.craig_aiger_read.proofs.GroupLemmas.{group-fits, group-small, groups-more, groups-none, weight-more}
use Rattle.craig_aiger_read.proofs.seven_bits.first_number.Goals as goal

pub loop-init : goal.loop-init
loop-init c = groups-none c.args.bytes.now (λ k. omega (arith, c.type_inv.bytes k))

pub overflow_mul-result : goal.overflow_mul-result
overflow_mul-result c =
    let h = group-small _ _ _ c.from.result _ _ c.loop.invariant (search rules) (omega (arith, c.from.ensures, c.if-byte-lt128.true)) in
    omega (arith, h)

pub overflow_add-result : goal.overflow_add-result
overflow_add-result c =
    let h = group-small _ _ _ c.from.result _ _ c.loop.invariant (search rules) (omega (arith, c.from.ensures, c.if-byte-lt128.true)) in
    omega (arith, h)

pub overflow_mul-value : goal.overflow_mul-value
overflow_mul-value c =
    let h = group-fits _ _ _ _ _ _ _ _ c.loop.invariant (search rules) (c.in-Some.ensures.cases.0) c.if-byte-lt128.false c.from-in-loop.ensures in
    omega (arith, h)

pub overflow_add-value : goal.overflow_add-value
overflow_add-value c =
    let h = group-fits _ _ _ _ _ _ _ _ c.loop.invariant (search rules) (c.in-Some.ensures.cases.0) c.if-byte-lt128.false c.from-in-loop.ensures in
    omega (arith, h)

pub overflow_mul-weight : goal.overflow_mul-weight
overflow_mul-weight c = let h = weight-more _ _ _ _ _ c.loop.invariant (search rules) in omega (arith, h)

pub loop-preserved : goal.loop-preserved
loop-preserved c =
    rw (c.from-in-loop.ensures) (groups-more _ _ _ _ _ _ _ c.loop.invariant (search rules) (c.in-Some.ensures.cases.0) c.if-byte-lt128.false)
