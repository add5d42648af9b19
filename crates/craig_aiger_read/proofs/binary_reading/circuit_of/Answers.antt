use Rattle.std.proofs.Common.{length, map, ◌∙◌, refl, ap}
use Rattle.std.proofs.lemmas.Result.{IfOk-from_err}
use Rattle.craig_aiger_read.specs.declared.latch_line.LatchLine.{LatchLine}
use Rattle.craig_aiger_read.specs.declared.root_line.RootLine.{RootLine}
use Rattle.craig_aiger_read.specs.ReadFiles.{latches_with, roots_with}
use Rattle.craig_aiger_read.specs.ReadViews.{as_operands}
use Rattle.craig_aiger_read.proofs.FileLemmas.{file-same}
use Rattle.craig_aiger_read.proofs.binary_reading.circuit_of.Goals as goal

pub latches_with_names-requires : goal.latches_with_names-requires
latches_with_names-requires c = ap length c.as_slice.ensures.value ∙ c.requires.latch_names

pub returns-in_err-latches : goal.returns-in_err-latches
returns-in_err-latches c = IfOk-from_err _ _ c.from_residual.ensures.0

pub roots_with_names-requires : goal.roots_with_names-requires
roots_with_names-requires c = ap length c.as_slice-2.ensures.value ∙ c.requires.output_names

pub returns-in_err-outputs : goal.returns-in_err-outputs
returns-in_err-outputs c = IfOk-from_err _ _ c.from_residual-in_err-outputs.ensures.0

pub roots_with_names-requires-2 : goal.roots_with_names-requires-2
roots_with_names-requires-2 c = ap length c.as_slice-3.ensures.value ∙ c.requires.bad_names

pub returns-in_err-bads : goal.returns-in_err-bads
returns-in_err-bads c = IfOk-from_err _ _ c.from_residual-in_err-bads.ensures.0

pub same-latches : goal.same-latches
same-latches c = refl

pub same-outputs : goal.same-outputs
same-outputs c = refl

pub returns : goal.returns
returns c =
    let parts = c.args.parts in
    let latches = c.in_ok-latches.ensures ∙ ap (λ z. latches_with (λ n. n) z (map (λ (l : LatchLine). l.next) z) parts.names.latches.items) c.as_slice.ensures.value in
    let outputs = c.in_ok-outputs.ensures ∙ ap (λ z. roots_with (λ n. n) (map (λ (r : RootLine). r.literal) z) parts.names.outputs.items) c.as_slice-2.ensures.value in
    let bads = c.in_ok-bads.ensures ∙ ap (λ z. roots_with (λ n. n) (map (λ (r : RootLine). r.literal) z) parts.names.bads.items) c.as_slice-3.ensures.value in
    file-same _ _ _ _ _ _ _ _ _ _ c.from_vec.ensures latches outputs bads (ap (map as_operands) c.from_vec-2.ensures)
