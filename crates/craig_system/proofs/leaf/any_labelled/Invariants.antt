use Rattle.std.proofs.Common.{◌<◌, length, take}
use Rattle.craig_label.specs.Marks.{label_of}
use Rattle.craig_aig.specs.Growth.{ArenaGrows}
use Rattle.craig_system.specs.Building.{IsAny}
use Rattle.craig_system.specs.Rules.{labelling}
use Rattle.craig_system.proofs.leaf.any_labelled.Given as goal

abbrev pub invariant-loop-lit : goal.invariant-loop-lit
invariant-loop-lit g l = record {
  within : l.edge.place < length l.aig;
  any : IsAny (labelling l.sides l.cut (g.S.System.marks l.system)).label (label_of l.label) (take l.lit-index l.lits) l.aig l.edge;
  grows : ArenaGrows l.initial.aig l.aig;
}
