use Rattle.std.proofs.lemmas.Result.{IfOk-weaker}
use Rattle.craig_spec.specs.Circuit.{IsCircuit}
use Rattle.craig_aiger.specs.Layouts.{IsWritable, Layout, circuit_of}
use Rattle.craig_top.proofs.FormatLemmas.{layout_is_circuit}
use Rattle.std.proofs.Common.{refl}
use Rattle.craig_top.specs.Material.{view_of}
use Rattle.craig_top.proofs.WrittenOutputsLemmas.{edges_within, inputs_named, within_chosen, written_layout}
use Rattle.craig_top.proofs.refutation.cut_circuit.Goals as goal

pub systems_outputs-requires-clause-cuts : goal.systems_outputs-requires-clause-cuts
systems_outputs-requires-clause-cuts c =
    within_chosen c.args.material.now.sides.now.parts c.deref.result.now (view_of c.args.material.now).settings.cuts c.requires.chosen (rw (c.deref.ensures.value, c.in_ok-cuts.ensures, c.parts.ensures.value) refl)

pub new-requires-clause-edges : goal.new-requires-clause-edges
new-requires-clause-edges c =
    edges_within (view_of c.args.material.now) c.args.root.0 c.systems_outputs.new.aig c.deref.result.now c.in_ok-outputs.outputs.items c.deref-2.result.now c.in_ok-outputs.ensures.outputs c.deref-2.ensures.value c.nodes_by_operands.ensures.cone c.len.ensures.is_arena
    (within_chosen c.args.material.now.sides.now.parts c.deref.result.now (view_of c.args.material.now).settings.cuts c.requires.chosen (rw (c.deref.ensures.value, c.in_ok-cuts.ensures, c.parts.ensures.value) refl))

pub new-requires-clause-inputs : goal.new-requires-clause-inputs
new-requires-clause-inputs c =
    inputs_named (view_of c.args.material.now) c.args.root.0 c.systems_outputs.new.aig c.deref.result.now c.in_ok-outputs.outputs.items c.deref-2.result.now c.in_ok-outputs.ensures.outputs c.deref-2.ensures.value c.nodes_by_operands.ensures.cone c.len.ensures.is_arena
    (within_chosen c.args.material.now.sides.now.parts c.deref.result.now (view_of c.args.material.now).settings.cuts c.requires.chosen (rw (c.deref.ensures.value, c.in_ok-cuts.ensures, c.parts.ensures.value) refl))
    c.requires.named

pub returns-clause-cuts : goal.returns-clause-cuts
returns-clause-cuts c =
    written_layout (view_of c.args.material.now) c.args.root.0 c.systems_outputs.new.aig c.deref.result.now c.in_ok-outputs.outputs.items c.deref-2.result.now c.in_ok-outputs.ensures.outputs c.deref-2.ensures.value
    c.new.result (rw (c.deref.ensures.value, c.in_ok-cuts.ensures, c.parts.ensures.value) refl) c.new.ensures.layout c.new.ensures.functions

pub returns-clause-circuit : goal.returns-clause-circuit
returns-clause-circuit c = IfOk-weaker c.new.result IsWritable (λ (l : Layout). IsCircuit (circuit_of l)) layout_is_circuit c.new.ensures.is_writable
