use Rattle.std.proofs.Common.{subst, sym, ap, length, Contains, arith}
use Rattle.std.proofs.lemmas.Result.{IfOk-from_err}
use Rattle.craig_spec.specs.Circuit.{IsStrict}
use Rattle.craig_aiger.specs.Layouts.{AreNamed, IsLayout, Layout, OperandsBelow, circuit_of, edges_of}
use Rattle.craig_aiger.proofs.NeededLemmas.{OperandsBelow-needed}
use Rattle.craig_aiger.proofs.FunctionLemmas.{HasFunctions-layout}
use Rattle.craig_aiger.proofs.NamedLemmas.{AreNamed-needed}
use Rattle.craig_aiger.proofs.StrictLemmas.{IsStrict-layout}
use Rattle.craig_aiger.proofs.WritableLemmas.{IsLayout-made, IsWritable-layout}
use Rattle.craig_aiger.proofs.layout.Layout.new.Goals as goal

pub input_names-requires : goal.input_names-requires
input_names-requires c = subst (AreNamed c.args.names.now) (sym c.as_slice-nodes.ensures.value) (AreNamed-needed c.nodes_by_operands.ensures.cone c.args.aig.now c.args.names.now c.args.outputs.now c.in_ok-table.table.items c.len.ensures.is_arena c.in_ok-table.ensures c.requires.inputs)

pub number_nodes-requires-clause-named : goal.number_nodes-requires-clause-named
number_nodes-requires-clause-named c = subst (AreNamed c.args.names.now) (sym c.as_slice-nodes.ensures.value) (AreNamed-needed c.nodes_by_operands.ensures.cone c.args.aig.now c.args.names.now c.args.outputs.now c.in_ok-table.table.items c.len.ensures.is_arena c.in_ok-table.ensures c.requires.inputs)

pub number_nodes-requires-clause-names : goal.number_nodes-requires-clause-names
number_nodes-requires-clause-names c = λ x h. subst (λ l. Contains l x) (sym c.as_slice.ensures.value) ((c.in_ok-inputs.ensures.names x).1 h)

pub numbered_gates-requires-clause-below : goal.numbered_gates-requires-clause-below
numbered_gates-requires-clause-below c = subst OperandsBelow (sym c.as_slice-nodes.ensures.value) (OperandsBelow-needed c.args.aig.now (edges_of c.args.outputs.now) c.in_ok-table.table.items c.len.ensures.is_arena c.in_ok-table.ensures)

pub invariant_of-result : goal.invariant_of-result
invariant_of-result c =
    let layout : Layout = record { inputs = c.in_ok-inputs.inputs.items; gates = c.in_ok-gates.gates.items; outputs = c.in_ok-outputs.outputs.items } in
    let laid : IsLayout c.args.aig.now c.args.names.now c.args.outputs.now layout =
    IsLayout-made c.args.aig.now c.args.names.now c.args.outputs.now c.in_ok-table.table.items c.as_slice-nodes.result.now c.in_ok-inputs.inputs.items c.as_slice.result.now c.in_ok-numbers.numbers.items c.as_slice-numbers.result.now c.in_ok-gates.gates.items c.in_ok-outputs.outputs.items
    c.as_slice-nodes.ensures.value c.as_slice.ensures.value c.as_slice-numbers.ensures.value c.in_ok-table.ensures c.in_ok-numbers.ensures.numbering c.in_ok-inputs.ensures.rising c.in_ok-inputs.ensures.names c.in_ok-gates.ensures c.in_ok-outputs.ensures.value in
    let strict : IsStrict (circuit_of layout) = IsStrict-layout c.args.aig.now c.args.names.now c.args.outputs.now layout c.len.ensures.is_arena laid c.requires.edges c.len-2.ensures.are_names.distinct in
    IsWritable-layout c.args.aig.now c.args.names.now c.args.outputs.now layout c.len.ensures.is_arena laid c.requires.edges
    (omega (arith, c.len.ensures.value, c.if-len-gt-LIMIT.false)) (omega (arith, c.if-outputs-gt-LIMIT.false)) (omega (arith, c.in_ok-inputs.ensures.bound, c.in_ok-inputs.inputs.ok.0, c.in_ok-table.ensures.lengths, ap length c.as_slice-nodes.ensures.value))
    c.in_ok-inputs.ensures.variables c.in_ok-outputs.ensures.cuts strict

pub returns : goal.returns
returns c =
    let layout : Layout = record { inputs = c.in_ok-inputs.inputs.items; gates = c.in_ok-gates.gates.items; outputs = c.in_ok-outputs.outputs.items } in
    let laid : IsLayout c.args.aig.now c.args.names.now c.args.outputs.now layout =
    IsLayout-made c.args.aig.now c.args.names.now c.args.outputs.now c.in_ok-table.table.items c.as_slice-nodes.result.now c.in_ok-inputs.inputs.items c.as_slice.result.now c.in_ok-numbers.numbers.items c.as_slice-numbers.result.now c.in_ok-gates.gates.items c.in_ok-outputs.outputs.items
    c.as_slice-nodes.ensures.value c.as_slice.ensures.value c.as_slice-numbers.ensures.value c.in_ok-table.ensures c.in_ok-numbers.ensures.numbering c.in_ok-inputs.ensures.rising c.in_ok-inputs.ensures.names c.in_ok-gates.ensures c.in_ok-outputs.ensures.value in
    let strict : IsStrict (circuit_of layout) = IsStrict-layout c.args.aig.now c.args.names.now c.args.outputs.now layout c.len.ensures.is_arena laid c.requires.edges c.len-2.ensures.are_names.distinct in
    record {
      layout = laid;
      functions = HasFunctions-layout c.args.aig.now c.args.names.now c.args.outputs.now layout c.len.ensures.is_arena laid c.bits_are_an_assignment.ensures c.nodes_by_operands.ensures.value c.nodes_by_operands.ensures.cone c.requires.edges;
      is_writable = IsWritable-layout c.args.aig.now c.args.names.now c.args.outputs.now layout c.len.ensures.is_arena laid c.requires.edges
          (omega (arith, c.len.ensures.value, c.if-len-gt-LIMIT.false)) (omega (arith, c.if-outputs-gt-LIMIT.false)) (omega (arith, c.in_ok-inputs.ensures.bound, c.in_ok-inputs.inputs.ok.0, c.in_ok-table.ensures.lengths, ap length c.as_slice-nodes.ensures.value))
          c.in_ok-inputs.ensures.variables c.in_ok-outputs.ensures.cuts strict;
      strict = strict;
    }

pub returns-in_err-table-clause-layout : goal.returns-in_err-table-clause-layout
returns-in_err-table-clause-layout c = IfOk-from_err _ _ c.from_residual.ensures.0

pub returns-in_err-table-clause-functions : goal.returns-in_err-table-clause-functions
returns-in_err-table-clause-functions c = IfOk-from_err _ _ c.from_residual.ensures.0

pub returns-in_err-table-clause-is_writable : goal.returns-in_err-table-clause-is_writable
returns-in_err-table-clause-is_writable c = IfOk-from_err _ _ c.from_residual.ensures.0

pub returns-in_err-table-clause-strict : goal.returns-in_err-table-clause-strict
returns-in_err-table-clause-strict c = IfOk-from_err _ _ c.from_residual.ensures.0

pub returns-in_err-inputs-clause-layout : goal.returns-in_err-inputs-clause-layout
returns-in_err-inputs-clause-layout c = IfOk-from_err _ _ c.from_residual-in_err-inputs.ensures.0

pub returns-in_err-inputs-clause-functions : goal.returns-in_err-inputs-clause-functions
returns-in_err-inputs-clause-functions c = IfOk-from_err _ _ c.from_residual-in_err-inputs.ensures.0

pub returns-in_err-inputs-clause-is_writable : goal.returns-in_err-inputs-clause-is_writable
returns-in_err-inputs-clause-is_writable c = IfOk-from_err _ _ c.from_residual-in_err-inputs.ensures.0

pub returns-in_err-inputs-clause-strict : goal.returns-in_err-inputs-clause-strict
returns-in_err-inputs-clause-strict c = IfOk-from_err _ _ c.from_residual-in_err-inputs.ensures.0

pub returns-in_err-numbers-clause-layout : goal.returns-in_err-numbers-clause-layout
returns-in_err-numbers-clause-layout c = IfOk-from_err _ _ c.from_residual-in_err-numbers.ensures.0

pub returns-in_err-numbers-clause-functions : goal.returns-in_err-numbers-clause-functions
returns-in_err-numbers-clause-functions c = IfOk-from_err _ _ c.from_residual-in_err-numbers.ensures.0

pub returns-in_err-numbers-clause-is_writable : goal.returns-in_err-numbers-clause-is_writable
returns-in_err-numbers-clause-is_writable c = IfOk-from_err _ _ c.from_residual-in_err-numbers.ensures.0

pub returns-in_err-numbers-clause-strict : goal.returns-in_err-numbers-clause-strict
returns-in_err-numbers-clause-strict c = IfOk-from_err _ _ c.from_residual-in_err-numbers.ensures.0

pub returns-in_err-gates-clause-layout : goal.returns-in_err-gates-clause-layout
returns-in_err-gates-clause-layout c = IfOk-from_err _ _ c.from_residual-in_err-gates.ensures.0

pub returns-in_err-gates-clause-functions : goal.returns-in_err-gates-clause-functions
returns-in_err-gates-clause-functions c = IfOk-from_err _ _ c.from_residual-in_err-gates.ensures.0

pub returns-in_err-gates-clause-is_writable : goal.returns-in_err-gates-clause-is_writable
returns-in_err-gates-clause-is_writable c = IfOk-from_err _ _ c.from_residual-in_err-gates.ensures.0

pub returns-in_err-gates-clause-strict : goal.returns-in_err-gates-clause-strict
returns-in_err-gates-clause-strict c = IfOk-from_err _ _ c.from_residual-in_err-gates.ensures.0

pub returns-in_err-outputs-clause-layout : goal.returns-in_err-outputs-clause-layout
returns-in_err-outputs-clause-layout c = IfOk-from_err _ _ c.from_residual-in_err-outputs.ensures.0

pub returns-in_err-outputs-clause-functions : goal.returns-in_err-outputs-clause-functions
returns-in_err-outputs-clause-functions c = IfOk-from_err _ _ c.from_residual-in_err-outputs.ensures.0

pub returns-in_err-outputs-clause-is_writable : goal.returns-in_err-outputs-clause-is_writable
returns-in_err-outputs-clause-is_writable c = IfOk-from_err _ _ c.from_residual-in_err-outputs.ensures.0

pub returns-in_err-outputs-clause-strict : goal.returns-in_err-outputs-clause-strict
returns-in_err-outputs-clause-strict c = IfOk-from_err _ _ c.from_residual-in_err-outputs.ensures.0
