use Rattle.std.proofs.Common.{rules}
use Rattle.std.proofs.lemmas.List.{length-set}
use Rattle.craig_aiger.proofs.NeededLemmas.{kept-set}
use Rattle.craig_aiger.proofs.needed.keep.Goals as goal

pub node-requires : goal.node-requires
node-requires c = c.requires.within

pub offset_bounds-table-place : goal.offset_bounds-table-place
offset_bounds-table-place c = search rules

pub bounds-table-place : goal.bounds-table-place
bounds-table-place c = rw (c.place.ensures.value, c.requires.lengths) c.requires.within

pub returns-clause-lengths : goal.returns-clause-lengths
returns-clause-lengths c = length-set c.args.table.now c.place.result _

pub returns-clause-kept : goal.returns-clause-kept
returns-clause-kept c = kept-set c.args.aig.now c.args.table.now c.place.result c.args.edge.place c.node.result c.place.ensures.value c.node.ensures.value c.requires.lengths c.requires.within
