use Rattle.std.proofs.Common.{◌<◌, ◌≤◌, length, arith}
use Rattle.craig_search.proofs.FlatLemmas.{part-is, part-within, place-within}
use Rattle.craig_search.proofs.journal.Journal.lemma.Goals as goal

pub start_of-start-requires : goal.start_of-start-requires
start_of-start-requires c =
    let low : c.args.place < length c.self.inside.ends.items = place-within c.self.inside.ends.items c.self.inside.literals.items c.args.self.now c.args.place c.self.view_is c.requires in
    rw c.as_slice.ensures.value (omega arith)

pub index-end-requires : goal.index-end-requires
index-end-requires c =
    let low : c.args.place < length c.self.inside.ends.items = place-within c.self.inside.ends.items c.self.inside.literals.items c.args.self.now c.args.place c.self.view_is c.requires in
    omega (arith, c.self.inside.ends.ok.0)

pub offset_bounds-deref-start : goal.offset_bounds-deref-start
offset_bounds-deref-start c =
    let part = part-within c.self.inside.ends.items c.as_slice.result.now c.self.inside.literals.items c.args.self.now c.args.place c.start_of-start.result c.index-end.result.now c.self.invariant.cut c.self.view_is c.requires c.as_slice.ensures.value c.start_of-start.ensures c.index-end.ensures in
    let first : c.start_of-start.result ≤ c.index-end.result.now = part.0 in
    let last : c.index-end.result.now ≤ length c.self.inside.literals.items = part.1 in
    omega (arith, c.deref.type_inv, rw c.deref.ensures.value at c.deref.type_inv.1)

pub slice_bounds-result-count : goal.slice_bounds-result-count
slice_bounds-result-count c =
    let part = part-within c.self.inside.ends.items c.as_slice.result.now c.self.inside.literals.items c.args.self.now c.args.place c.start_of-start.result c.index-end.result.now c.self.invariant.cut c.self.view_is c.requires c.as_slice.ensures.value c.start_of-start.ensures c.index-end.ensures in
    let first : c.start_of-start.result ≤ c.index-end.result.now = part.0 in
    let last : c.index-end.result.now ≤ length c.self.inside.literals.items = part.1 in
    first

pub slice_bounds-result-start : goal.slice_bounds-result-start
slice_bounds-result-start c =
    let part = part-within c.self.inside.ends.items c.as_slice.result.now c.self.inside.literals.items c.args.self.now c.args.place c.start_of-start.result c.index-end.result.now c.self.invariant.cut c.self.view_is c.requires c.as_slice.ensures.value c.start_of-start.ensures c.index-end.ensures in
    let first : c.start_of-start.result ≤ c.index-end.result.now = part.0 in
    let last : c.index-end.result.now ≤ length c.self.inside.literals.items = part.1 in
    omega arith

pub slice_bounds-result-end : goal.slice_bounds-result-end
slice_bounds-result-end c =
    let part = part-within c.self.inside.ends.items c.as_slice.result.now c.self.inside.literals.items c.args.self.now c.args.place c.start_of-start.result c.index-end.result.now c.self.invariant.cut c.self.view_is c.requires c.as_slice.ensures.value c.start_of-start.ensures c.index-end.ensures in
    let first : c.start_of-start.result ≤ c.index-end.result.now = part.0 in
    let last : c.index-end.result.now ≤ length c.self.inside.literals.items = part.1 in
    omega (arith, c.deref.ensures.len, c.self.inside.literals.ok.0)

pub returns : goal.returns
returns c = rw c.deref.ensures.value (part-is c.self.inside.ends.items c.as_slice.result.now c.self.inside.literals.items c.args.self.now c.args.place c.start_of-start.result c.index-end.result.now c.self.invariant.cut c.self.view_is c.requires c.as_slice.ensures.value c.start_of-start.ensures c.index-end.ensures)
