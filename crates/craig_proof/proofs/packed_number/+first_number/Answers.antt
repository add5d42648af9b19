use Rattle.std.proofs.Common.{◌/◌, ◌∙◌, arith}
use Rattle.craig_proof.proofs.PackedLemmas.{first_byte, number_none}
use Rattle.craig_proof.proofs.packed_number.+first_number.Goals as goal

pub unreachable-requires : goal.unreachable-requires
unreachable-requires t c = number_none c.args.bytes.now c.in_default.ensures.cases c.requires

pub returns-then-byte-lt128 : goal.returns-then-byte-lt128
returns-then-byte-lt128 t c = λ n rest is.
    let s = (first_byte c.args.bytes.now c.in-Some.byte.now c.in-Some.behind.now n rest c.in-Some.ensures.cases.0 is).short c.if-byte-lt128.true in
    (c.from.ensures ∙ s.0, s.1)

pub first_number-high-requires : goal.first_number-high-requires
first_number-high-requires t c =
    let s = (first_byte c.args.bytes.now c.in-Some.byte.now c.in-Some.behind.now c.requires.0 c.requires.1 c.in-Some.ensures.cases.0 c.requires.2).long c.if-byte-lt128.false in
    let fits = c.requires.3 in
    (omega (arith, c.decreases, c.in-Some.ensures.cases.1), (c.requires.0 / 128, c.requires.1, s.1, omega arith))

pub overflow_mul-result : goal.overflow_mul-result
overflow_mul-result t c =
    let s = (first_byte c.args.bytes.now c.in-Some.byte.now c.in-Some.behind.now c.requires.0 c.requires.1 c.in-Some.ensures.cases.0 c.requires.2).long c.if-byte-lt128.false in
    let high = (c.first_number-high.ensures (c.requires.0 / 128) c.requires.1 s.1).0 in
    let fits = c.requires.3 in
    omega (arith, high, fits)

pub overflow_add-result : goal.overflow_add-result
overflow_add-result t c =
    let s = (first_byte c.args.bytes.now c.in-Some.byte.now c.in-Some.behind.now c.requires.0 c.requires.1 c.in-Some.ensures.cases.0 c.requires.2).long c.if-byte-lt128.false in
    let high = (c.first_number-high.ensures (c.requires.0 / 128) c.requires.1 s.1).0 in
    let fits = c.requires.3 in
    let whole = s.0 in
    omega (arith, high, fits, whole, c.from-2.ensures)

pub returns : goal.returns
returns t c = λ n rest is.
    let s = (first_byte c.args.bytes.now c.in-Some.byte.now c.in-Some.behind.now n rest c.in-Some.ensures.cases.0 is).long c.if-byte-lt128.false in
    let high = c.first_number-high.ensures (n / 128) rest s.1 in
    let one = high.0 in
    let whole = s.0 in
    (omega (arith, one, whole, c.from-2.ensures), high.1)
