use Rattle.std.proofs.Common.{arith, length}
use Rattle.craig_proof.proofs.RowLemmas.{bytes_of_row, no_row}
use Rattle.craig_proof.proofs.row_ends.bytes_at.Goals as goal

pub slice_bounds-result-count : goal.slice_bounds-result-count
slice_bounds-result-count c =
    (bytes_of_row c.args.rows.now c.args.bytes.now c.requires.stored.0 c.args.place c.end_of_bytes-end.result (length c.args.bytes.now) _ c.requires.stored.1 c.requires.within (omega arith) c.end_of_bytes-end.ensures).start_le

pub slice_bounds-result-start : goal.slice_bounds-result-start
slice_bounds-result-start c =
    let lie = bytes_of_row c.args.rows.now c.args.bytes.now c.requires.stored.0 c.args.place c.end_of_bytes-end.result (length c.args.bytes.now) no_row c.requires.stored.1 c.requires.within (omega arith) c.end_of_bytes-end.ensures in
    omega (arith, lie.start_le, lie.within)

pub slice_bounds-result-end : goal.slice_bounds-result-end
slice_bounds-result-end c =
    let lie = bytes_of_row c.args.rows.now c.args.bytes.now c.requires.stored.0 c.args.place c.end_of_bytes-end.result (length c.args.bytes.now) no_row c.requires.stored.1 c.requires.within (omega arith) c.end_of_bytes-end.ensures in
    omega (arith, lie.start_le, lie.within)

pub returns : goal.returns
returns c = λ steps stored.
    (bytes_of_row c.args.rows.now c.args.bytes.now steps c.args.place c.end_of_bytes-end.result (length c.args.bytes.now) _ stored c.requires.within (omega arith) c.end_of_bytes-end.ensures).at
