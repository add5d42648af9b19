use Rattle.std.proofs.Common.{length, ◌+◌, ◌++◌}
use Rattle.craig_aiger.specs.AsciiText.{numbered_lines, output_line, input_symbol, output_symbol}
use Rattle.craig_aiger.specs.BinaryText.{aig_header, gate_groups}
use Rattle.craig_aiger.proofs.AppendingLemmas.{IsAppended-both}
use Rattle.craig_aiger.proofs.binary_writing.append_binary_text.Goals as goal

pub returns : goal.returns
returns c =
    let header = aig_header (length c.args.inputs.now) (length c.args.outputs.now) (length c.args.gates.now) in
    let outputs = numbered_lines output_line 0 c.args.outputs.now in
    let gates = numbered_lines gate_groups (1 + length c.args.inputs.now) c.args.gates.now in
    let input_symbols = numbered_lines input_symbol 0 c.args.inputs.now in
    let output_symbols = numbered_lines output_symbol 0 c.args.outputs.now in
    IsAppended-both c.args.out.now c.append_input_symbols.new.out c.append_output_symbols.new.out (((header ++ outputs) ++ gates) ++ input_symbols) output_symbols
    (IsAppended-both c.args.out.now c.append_gates.new.out c.append_input_symbols.new.out ((header ++ outputs) ++ gates) input_symbols
    (IsAppended-both c.args.out.now c.append_outputs.new.out c.append_gates.new.out (header ++ outputs) gates
    (IsAppended-both c.args.out.now c.append_header.new.out c.append_outputs.new.out header outputs c.append_header.ensures c.append_outputs.ensures)
    c.append_gates.ensures) c.append_input_symbols.ensures) c.append_output_symbols.ensures
