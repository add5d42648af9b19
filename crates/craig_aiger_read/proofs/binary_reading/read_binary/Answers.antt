use Rattle.std.proofs.Common.{◌∙◌, Ok, sym, ap, arith}
use Rattle.std.proofs.lemmas.Result.{err_from_is_err_and}
use Rattle.craig_spec.specs.AigerBinary.{aig_reading}
use Rattle.craig_spec.specs.AigerReading.{AigerFile}
use Rattle.craig_aiger_read.specs.ReadFiles.{as_file}
use Rattle.craig_aiger_read.specs.ReadViews.{as_counts}
use Rattle.craig_aiger_read.proofs.BinaryLemmas.{binary-body, binary-empty, binary-header}
use Rattle.craig_aiger_read.proofs.FaultLemmas.{line_error, memory_error}
use Rattle.craig_aiger_read.proofs.binary_reading.read_binary.Goals as goal

pub returns-in_default : goal.returns-in_default
returns-in_default c = binary-empty c.args.bytes.now c.in_default.ensures.none

pub returns-in_err-counts : goal.returns-in_err-counts
returns-in_err-counts c =
    let p = err_from_is_err_and c.from_residual.result c.from_residual.ensures.1 in
    line_error as_file c.from_residual.result _ (aig_reading c.args.bytes.now) p.0 c.in_err-counts.field-0.0 p.1 p.2 c.in_err-counts.ensures
    (λ f e. binary-header c.args.bytes.now c.in-Some.line.now c.in-Some.rest.now f c.in-Some.ensures.some e)

pub read_parts-requires-clause-short : goal.read_parts-requires-clause-short
read_parts-requires-clause-short c = omega (arith, c.in-Some.ensures.some.shorter)

pub read_parts-requires-clause-last : goal.read_parts-requires-clause-last
read_parts-requires-clause-last c = c.in-Some.ensures.some.last

pub returns-in_err-parts : goal.returns-in_err-parts
returns-in_err-parts c =
    let p = err_from_is_err_and c.from_residual-in_err-parts.result c.from_residual-in_err-parts.ensures.1 in
    line_error as_file c.from_residual-in_err-parts.result _ (aig_reading c.args.bytes.now) p.0 c.in_err-parts.field-0.0 p.1 p.2 c.in_err-parts.ensures.fault
    (λ f e. binary-body c.args.bytes.now c.in-Some.line.now c.in-Some.rest.now (as_counts c.in_ok-counts.counts) c.in-Some.ensures.some c.in_ok-counts.ensures ∙ e)

pub circuit_of-requires : goal.circuit_of-requires
circuit_of-requires c = c.in_ok-parts.ensures.named

pub returns-in_err-circuit : goal.returns-in_err-circuit
returns-in_err-circuit c = memory_error _ _ _ _ c.from_residual-in_err-circuit.ensures.1

pub returns : goal.returns
returns c =
    binary-body c.args.bytes.now c.in-Some.line.now c.in-Some.rest.now (as_counts c.in_ok-counts.counts) c.in-Some.ensures.some c.in_ok-counts.ensures ∙ c.in_ok-parts.ensures.file
    ∙ ap (λ (z : AigerFile). Ok z) (sym c.in_ok-circuit.ensures)
