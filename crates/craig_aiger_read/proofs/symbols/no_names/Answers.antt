use Rattle.std.proofs.Common.{◌∙◌}
use Rattle.craig_aiger_read.proofs.SymbolLemmas.{names_of-none}
use Rattle.craig_aiger_read.proofs.symbols.no_names.Goals as goal

pub returns : goal.returns
returns c = record {
  inputs = c.in_ok-inputs.ensures ∙ names_of-none 105 c.args.counts.now.inputs;
  latches = c.in_ok-latches.ensures ∙ names_of-none 108 c.args.counts.now.latches;
  outputs = c.in_ok-outputs.ensures ∙ names_of-none 111 c.args.counts.now.outputs;
  bads = c.in_ok-bads.ensures ∙ names_of-none 98 c.args.counts.now.bads;
}
