use Rattle.std.proofs.Common.{◌≡◌, ◌++◌, [], map, length, refl, sym, ◌∙◌, ap, arith}
use Rattle.std.proofs.lemmas.Result.{err_from_is_err_and}
use Rattle.craig_spec.specs.AigerReading.{Written as WrittenText, gate_in, latch_in, names_of, read_lines, written_in, input_in}
use Rattle.craig_aiger_read.specs.ReadFaults.{IsFaultOf, fault_of}
use Rattle.craig_aiger_read.specs.ReadLines.{lines_at}
use Rattle.craig_aiger_read.specs.ReadViews.{as_counts, as_gate, as_latch, as_root, latch_variables, gate_variables}
use Rattle.craig_aiger_read.proofs.FaultLemmas.{FailsBy-through, IfErr-passed}
use Rattle.craig_aiger_read.proofs.WrittenLemmas.{behind_constant-err, behind_constant-ok, few-variables, length-read_lines, written-all, written-bads, written-gates, written-inputs, written-latches, written-outputs, written-symbols}
use Rattle.craig_aiger_read.proofs.written.read_written.Goals as goal

pub returns-in_err-variables-clause-fault : goal.returns-in_err-variables-clause-fault
returns-in_err-variables-clause-fault c =
    let counts = as_counts c.args.counts.now in
    let end = c.args.end in
    let lines = lines_at end c.args.text.now in
    let p = err_from_is_err_and c.from_residual.result c.from_residual.ensures.1 in
    IfErr-passed (λ e. IsFaultOf e (written_in counts end lines)) _ p.0 c.in_err-variables.field-0.0 p.1 p.2
    (FailsBy-through (fault_of c.in_err-variables.field-0.0) _ (written_in counts end lines) (λ f e. written-inputs counts end lines f (behind_constant-err _ f e)) c.in_err-variables.ensures.read)

pub returns-in_err-latches-clause-fault : goal.returns-in_err-latches-clause-fault
returns-in_err-latches-clause-fault c =
    let counts = as_counts c.args.counts.now in
    let end = c.args.end in
    let lines = lines_at end c.args.text.now in
    let inputs = behind_constant-ok _ _ _ c.in_ok-variables.ensures.read in
    let p = err_from_is_err_and c.from_residual-in_err-latches.result c.from_residual-in_err-latches.ensures.1 in
    IfErr-passed (λ e. IsFaultOf e (written_in counts end lines)) _ p.0 c.in_err-latches.field-0.0 p.1 p.2
    (FailsBy-through (fault_of c.in_err-latches.field-0.0) _ (written_in counts end lines) (λ f e. written-latches counts end lines inputs.0 _ f inputs.1 (ap (λ z. read_lines (latch_in counts z) end c.args.counts.now.latches [] (lines_at end c.in_ok-variables.rest.now)) (sym inputs.2) ∙ e)) c.in_err-latches.ensures.read)

pub returns-in_err-outputs-clause-fault : goal.returns-in_err-outputs-clause-fault
returns-in_err-outputs-clause-fault c =
    let counts = as_counts c.args.counts.now in
    let end = c.args.end in
    let lines = lines_at end c.args.text.now in
    let inputs = behind_constant-ok _ _ _ c.in_ok-variables.ensures.read in
    let latches = ap (λ z. read_lines (latch_in counts z) end c.args.counts.now.latches [] (lines_at end c.in_ok-variables.rest.now)) (sym inputs.2) ∙ c.in_ok-latches.ensures.read in
    let p = err_from_is_err_and c.from_residual-in_err-outputs.result c.from_residual-in_err-outputs.ensures.1 in
    IfErr-passed (λ e. IsFaultOf e (written_in counts end lines)) _ p.0 c.in_err-outputs.field-0.0 p.1 p.2
    (FailsBy-through (fault_of c.in_err-outputs.field-0.0) _ (written_in counts end lines) (λ f e. written-outputs counts end lines inputs.0 _ _ _ f inputs.1 latches e) c.in_err-outputs.ensures.read)

pub returns-in_err-bads-clause-fault : goal.returns-in_err-bads-clause-fault
returns-in_err-bads-clause-fault c =
    let counts = as_counts c.args.counts.now in
    let end = c.args.end in
    let lines = lines_at end c.args.text.now in
    let inputs = behind_constant-ok _ _ _ c.in_ok-variables.ensures.read in
    let latches = ap (λ z. read_lines (latch_in counts z) end c.args.counts.now.latches [] (lines_at end c.in_ok-variables.rest.now)) (sym inputs.2) ∙ c.in_ok-latches.ensures.read in
    let p = err_from_is_err_and c.from_residual-in_err-bads.result c.from_residual-in_err-bads.ensures.1 in
    IfErr-passed (λ e. IsFaultOf e (written_in counts end lines)) _ p.0 c.in_err-bads.field-0.0 p.1 p.2
    (FailsBy-through (fault_of c.in_err-bads.field-0.0) _ (written_in counts end lines) (λ f e. written-bads counts end lines inputs.0 _ _ _ _ _ f inputs.1 latches c.in_ok-outputs.ensures.read e) c.in_err-bads.ensures.read)

pub returns-in_err-gates-clause-fault : goal.returns-in_err-gates-clause-fault
returns-in_err-gates-clause-fault c =
    let counts = as_counts c.args.counts.now in
    let end = c.args.end in
    let lines = lines_at end c.args.text.now in
    let inputs = behind_constant-ok _ _ _ c.in_ok-variables.ensures.read in
    let latches = ap (λ z. read_lines (latch_in counts z) end c.args.counts.now.latches [] (lines_at end c.in_ok-variables.rest.now)) (sym inputs.2) ∙ c.in_ok-latches.ensures.read in
    let leaves = c.in_ok-latches.ensures.variables ∙ ap (λ z. z ++ latch_variables (map as_latch c.in_ok-latches.latches.items)) inputs.2 in
    let p = err_from_is_err_and c.from_residual-in_err-gates.result c.from_residual-in_err-gates.ensures.1 in
    IfErr-passed (λ e. IsFaultOf e (written_in counts end lines)) _ p.0 c.in_err-gates.field-0.0 p.1 p.2
    (FailsBy-through (fault_of c.in_err-gates.field-0.0) _ (written_in counts end lines) (λ f e. written-gates counts end lines inputs.0 _ _ _ _ _ _ _ f inputs.1 latches c.in_ok-outputs.ensures.read c.in_ok-bads.ensures.read
    (ap (λ z. read_lines (gate_in counts z) end c.args.counts.now.gates [] (lines_at end c.in_ok-bads.rest.now)) (sym leaves) ∙ e)) c.in_err-gates.ensures.read)

pub returns-in_err-names-clause-fault : goal.returns-in_err-names-clause-fault
returns-in_err-names-clause-fault c =
    let counts = as_counts c.args.counts.now in
    let end = c.args.end in
    let lines = lines_at end c.args.text.now in
    let inputs = behind_constant-ok _ _ _ c.in_ok-variables.ensures.read in
    let latches = ap (λ z. read_lines (latch_in counts z) end c.args.counts.now.latches [] (lines_at end c.in_ok-variables.rest.now)) (sym inputs.2) ∙ c.in_ok-latches.ensures.read in
    let leaves = c.in_ok-latches.ensures.variables ∙ ap (λ z. z ++ latch_variables (map as_latch c.in_ok-latches.latches.items)) inputs.2 in
    let gates = ap (λ z. read_lines (gate_in counts z) end c.args.counts.now.gates [] (lines_at end c.in_ok-bads.rest.now)) (sym leaves) ∙ c.in_ok-gates.ensures.read in
    let p = err_from_is_err_and c.from_residual-in_err-names.result c.from_residual-in_err-names.ensures.1 in
    IfErr-passed (λ e. IsFaultOf e (written_in counts end lines)) _ p.0 c.in_err-names.field-0.0 p.1 p.2
    (FailsBy-through (fault_of c.in_err-names.field-0.0) _ (written_in counts end lines) (λ f e. written-symbols counts end lines inputs.0 _ _ _ _ _ _ _ _ _ f inputs.1 latches c.in_ok-outputs.ensures.read c.in_ok-bads.ensures.read gates e) c.in_err-names.ensures.fault)

pub returns-clause-written : goal.returns-clause-written
returns-clause-written c =
    let counts = as_counts c.args.counts.now in
    let end = c.args.end in
    let lines = lines_at end c.args.text.now in
    let inputs = behind_constant-ok _ _ _ c.in_ok-variables.ensures.read in
    let latches = ap (λ z. read_lines (latch_in counts z) end c.args.counts.now.latches [] (lines_at end c.in_ok-variables.rest.now)) (sym inputs.2) ∙ c.in_ok-latches.ensures.read in
    let leaves = c.in_ok-latches.ensures.variables ∙ ap (λ z. z ++ latch_variables (map as_latch c.in_ok-latches.latches.items)) inputs.2 in
    let gates = ap (λ z. read_lines (gate_in counts z) end c.args.counts.now.gates [] (lines_at end c.in_ok-bads.rest.now)) (sym leaves) ∙ c.in_ok-gates.ensures.read in
    let names = c.in_ok-names.ensures.names in
    let w : WrittenText = record {
      inputs = inputs.0;
      latches = map as_latch c.in_ok-latches.latches.items;
      outputs = map as_root c.in_ok-outputs.outputs.items;
      bads = map as_root c.in_ok-bads.bads.items;
      gates = map as_gate c.in_ok-gates.gates.items;
      symbols = names.0;
    } in
    let input_count : c.args.counts.now.inputs ≡ length inputs.0 = omega (arith, length-read_lines (input_in counts) end c.args.counts.now.inputs [] lines inputs.0 _ inputs.1) in
    let latch_count : c.args.counts.now.latches ≡ length w.latches = omega (arith, length-read_lines _ end c.args.counts.now.latches [] _ w.latches _ latches) in
    let output_count : c.args.counts.now.outputs ≡ length w.outputs = omega (arith, length-read_lines _ end c.args.counts.now.outputs [] _ w.outputs _ c.in_ok-outputs.ensures.read) in
    let bad_count : c.args.counts.now.bads ≡ length w.bads = omega (arith, length-read_lines _ end c.args.counts.now.bads [] _ w.bads _ c.in_ok-bads.ensures.read) in (
      w,
      written-all counts end lines inputs.0 _ _ _ _ names.0 _ _ _ _ _ names.1 inputs.1 latches c.in_ok-outputs.ensures.read c.in_ok-bads.ensures.read gates names.2,
      record {
        variables = c.in_ok-gates.ensures.variables ∙ ap (λ z. z ++ gate_variables w.gates) leaves;
        latches = refl;
        outputs = refl;
        bads = refl;
        gates = refl;
        input_names = names.3.inputs ∙ ap (names_of names.0 105) input_count;
        latch_names = names.3.latches ∙ ap (names_of names.0 108) latch_count;
        output_names = names.3.outputs ∙ ap (names_of names.0 111) output_count;
        bad_names = names.3.bads ∙ ap (names_of names.0 98) bad_count;
      },
    )

pub returns-clause-few : goal.returns-clause-few
returns-clause-few c =
    let counts = as_counts c.args.counts.now in
    let end = c.args.end in
    let lines = lines_at end c.args.text.now in
    let inputs = behind_constant-ok _ _ _ c.in_ok-variables.ensures.read in
    let latches = ap (λ z. read_lines (latch_in counts z) end c.args.counts.now.latches [] (lines_at end c.in_ok-variables.rest.now)) (sym inputs.2) ∙ c.in_ok-latches.ensures.read in
    let leaves = c.in_ok-latches.ensures.variables ∙ ap (λ z. z ++ latch_variables (map as_latch c.in_ok-latches.latches.items)) inputs.2 in
    let gates = ap (λ z. read_lines (gate_in counts z) end c.args.counts.now.gates [] (lines_at end c.in_ok-bads.rest.now)) (sym leaves) ∙ c.in_ok-gates.ensures.read in
    let ls = map as_latch c.in_ok-latches.latches.items in
    let gs = map as_gate c.in_ok-gates.gates.items in
    let input_count : c.args.counts.now.inputs ≡ length inputs.0 = omega (arith, length-read_lines (input_in counts) end c.args.counts.now.inputs [] lines inputs.0 _ inputs.1) in
    let latch_count : c.args.counts.now.latches ≡ length ls = omega (arith, length-read_lines _ end c.args.counts.now.latches [] _ ls _ latches) in
    let gate_count : c.args.counts.now.gates ≡ length gs = omega (arith, length-read_lines _ end c.args.counts.now.gates [] _ gs _ gates) in
    few-variables _ inputs.0 ls gs _ _ _ _ (c.in_ok-gates.ensures.variables ∙ ap (λ z. z ++ gate_variables gs) leaves) input_count latch_count gate_count c.args.counts.now.enough c.args.counts.now.small
