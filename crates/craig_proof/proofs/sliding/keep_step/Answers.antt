use Rattle.std.proofs.Common.{arith}
use Rattle.craig_proof.proofs.RowLemmas.{no_row}
use Rattle.craig_proof.proofs.SlidingLemmas.{bytes_at, keeps, keeps_left, literals_at}
use Rattle.craig_proof.proofs.sliding.keep_step.Goals as goal

pub move_down-requires-clause-down : goal.move_down-requires-clause-down
move_down-requires-clause-down c =
    (literals_at c.args.rows.now c.args.literals.now c.args.bytes.now c.args.place c.args.filled c.requires.sliding c.requires.within _ c.end_of_literals-literals_end.result c.end_of_literals-literals_end.ensures).down

pub move_down-requires-clause-part : goal.move_down-requires-clause-part
move_down-requires-clause-part c =
    (literals_at c.args.rows.now c.args.literals.now c.args.bytes.now c.args.place c.args.filled c.requires.sliding c.requires.within _ c.end_of_literals-literals_end.result c.end_of_literals-literals_end.ensures).part

pub move_down-requires-clause-within : goal.move_down-requires-clause-within
move_down-requires-clause-within c =
    (literals_at c.args.rows.now c.args.literals.now c.args.bytes.now c.args.place c.args.filled c.requires.sliding c.requires.within no_row c.end_of_literals-literals_end.result c.end_of_literals-literals_end.ensures).within

pub move_down-requires-2-clause-down : goal.move_down-requires-2-clause-down
move_down-requires-2-clause-down c =
    (bytes_at c.args.rows.now c.args.literals.now c.args.bytes.now c.args.place c.args.filled c.requires.sliding c.requires.within _ c.end_of_bytes-bytes_end.result c.end_of_bytes-bytes_end.ensures).down

pub move_down-requires-2-clause-part : goal.move_down-requires-2-clause-part
move_down-requires-2-clause-part c =
    (bytes_at c.args.rows.now c.args.literals.now c.args.bytes.now c.args.place c.args.filled c.requires.sliding c.requires.within _ c.end_of_bytes-bytes_end.result c.end_of_bytes-bytes_end.ensures).part

pub move_down-requires-2-clause-within : goal.move_down-requires-2-clause-within
move_down-requires-2-clause-within c =
    (bytes_at c.args.rows.now c.args.literals.now c.args.bytes.now c.args.place c.args.filled c.requires.sliding c.requires.within no_row c.end_of_bytes-bytes_end.result c.end_of_bytes-bytes_end.ensures).within

pub overflow_sub-after : goal.overflow_sub-after
overflow_sub-after c =
    (literals_at c.args.rows.now c.args.literals.now c.args.bytes.now c.args.place c.args.filled c.requires.sliding c.requires.within _ c.end_of_literals-literals_end.result c.end_of_literals-literals_end.ensures).part

pub overflow_add-after-2 : goal.overflow_add-after-2
overflow_add-after-2 c =
    let lies = literals_at c.args.rows.now c.args.literals.now c.args.bytes.now c.args.place c.args.filled c.requires.sliding c.requires.within no_row c.end_of_literals-literals_end.result c.end_of_literals-literals_end.ensures in
    omega (arith, lies.down, lies.part)

pub overflow_sub-after-2 : goal.overflow_sub-after-2
overflow_sub-after-2 c =
    (bytes_at c.args.rows.now c.args.literals.now c.args.bytes.now c.args.place c.args.filled c.requires.sliding c.requires.within _ c.end_of_bytes-bytes_end.result c.end_of_bytes-bytes_end.ensures).part

pub overflow_add-after-3 : goal.overflow_add-after-3
overflow_add-after-3 c =
    let lies = bytes_at c.args.rows.now c.args.literals.now c.args.bytes.now c.args.place c.args.filled c.requires.sliding c.requires.within no_row c.end_of_bytes-bytes_end.result c.end_of_bytes-bytes_end.ensures in
    omega (arith, lies.down, lies.part)

pub returns-clause-sliding : goal.returns-clause-sliding
returns-clause-sliding c =
    keeps c.args.rows.now c.args.literals.now c.args.bytes.now c.args.place c.args.filled c.requires.sliding c.requires.within _ c.move_down.new.items c.move_down-2.new.items c.end_of_literals-literals_end.result c.end_of_bytes-bytes_end.result c.end_of_literals-literals_end.ensures c.end_of_bytes-bytes_end.ensures c.move_down.ensures c.move_down-2.ensures

pub returns-clause-left : goal.returns-clause-left
returns-clause-left c =
    keeps_left c.args.rows.now c.args.literals.now c.args.bytes.now c.args.place c.args.filled c.requires.sliding c.requires.within _ c.move_down.new.items c.move_down-2.new.items c.end_of_literals-literals_end.result c.end_of_bytes-bytes_end.result c.end_of_literals-literals_end.ensures c.end_of_bytes-bytes_end.ensures c.move_down.ensures c.move_down-2.ensures (c.requires.marked _)
