use Rattle.std.proofs.Common.{arith}
use Rattle.std.proofs.lemmas.Result.{err_from_is_err_and}
use Rattle.craig_spec.specs.AigerReading.{Written as WrittenText, aag_reading}
use Rattle.craig_aiger_read.specs.ReadFiles.{as_file}
use Rattle.craig_aiger_read.specs.ReadViews.{as_counts}
use Rattle.craig_aiger_read.specs.ReadWritten.{KeepsWritten}
use Rattle.craig_aiger_read.proofs.FaultLemmas.{line_error}
use Rattle.craig_aiger_read.proofs.ReadingLemmas.{reading-empty, reading-file, reading-given, reading-header, reading-written}
use Rattle.craig_aiger_read.proofs.reading.read_ascii.Goals as goal

pub returns-in_default : goal.returns-in_default
returns-in_default c = reading-empty c.args.bytes.now c.in_default.ensures.none

pub returns-in_err-counts : goal.returns-in_err-counts
returns-in_err-counts c =
    let p = err_from_is_err_and c.from_residual.result c.from_residual.ensures.1 in
    line_error as_file c.from_residual.result _ (aag_reading c.args.bytes.now) p.0 c.in_err-counts.field-0.0 p.1 p.2 c.in_err-counts.ensures
    (λ f e. reading-header c.args.bytes.now c.in-Some.line.now c.in-Some.rest.now f c.in-Some.ensures.some e)

pub read_written-requires : goal.read_written-requires
read_written-requires c = omega (arith, c.in-Some.ensures.some.shorter)

pub returns-in_err-written : goal.returns-in_err-written
returns-in_err-written c =
    let p = err_from_is_err_and c.from_residual-in_err-written.result c.from_residual-in_err-written.ensures.1 in
    line_error as_file c.from_residual-in_err-written.result _ (aag_reading c.args.bytes.now) p.0 c.in_err-written.field-0.0 p.1 p.2 c.in_err-written.ensures.fault
    (λ f e. reading-written c.args.bytes.now c.in-Some.line.now c.in-Some.rest.now (as_counts c.in_ok-counts.counts) f c.in-Some.ensures.some c.in_ok-counts.ensures e)

pub circuit_of-requires-clause-few : goal.circuit_of-requires-clause-few
circuit_of-requires-clause-few c = c.in_ok-written.ensures.few

pub circuit_of-requires-clause-kept : goal.circuit_of-requires-clause-kept
circuit_of-requires-clause-kept c = let w = c.in_ok-written.ensures.written in (w.0, w.2)

pub returns : goal.returns
returns c =
    let w = c.in_ok-written.ensures.written in
    reading-given (λ (z : WrittenText). KeepsWritten z c.in_ok-written.written) w.0 c.circuit_of.result (aag_reading c.args.bytes.now) w.2
    (reading-file c.args.bytes.now c.in-Some.line.now c.in-Some.rest.now (as_counts c.in_ok-counts.counts) w.0 c.in-Some.ensures.some c.in_ok-counts.ensures w.1)
    c.circuit_of.ensures.file c.circuit_of.ensures.fault
