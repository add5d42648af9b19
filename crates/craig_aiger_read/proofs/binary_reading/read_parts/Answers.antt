use Rattle.std.proofs.Common.{◌≡◌, ℕ, ◌+◌, ◌≤◌, [], length, map, arith}
use Rattle.std.proofs.lemmas.Result.{err_from_is_err_and}
use Rattle.craig_spec.specs.AigerBinary.{binary_in, binary_latch_in}
use Rattle.craig_spec.specs.AigerReading.{root_in}
use Rattle.craig_aiger_read.specs.declared.binary_reading.BinaryParts.{BinaryParts}
use Rattle.craig_aiger_read.specs.ReadFaults.{IsFaultOf, fault_of}
use Rattle.craig_aiger_read.specs.ReadLines.{lines_at}
use Rattle.craig_aiger_read.specs.ReadViews.{as_counts, as_latch, as_operands, as_root}
use Rattle.craig_aiger_read.proofs.BinaryLemmas.{ArePartsRead, binary-all, binary-bads, binary-gates, binary-latches, binary-outputs, binary-symbols, lines-read, names-each}
use Rattle.craig_aiger_read.proofs.FaultLemmas.{FailsBy-through, IfErr-passed, IfOk-passed}
use Rattle.craig_aiger_read.proofs.ReadLinesLemmas.{drop-further}
use Rattle.craig_aiger_read.proofs.WrittenLemmas.{length-read_lines}
use Rattle.craig_aiger_read.proofs.binary_reading.read_parts.Goals as goal

pub read_binary_latches-requires : goal.read_binary_latches-requires
read_binary_latches-requires c = c.requires.short

pub read_roots-requires : goal.read_roots-requires
read_roots-requires c = omega (arith, c.requires.short, c.in_ok-latches.ensures.shorter)

pub read_roots-requires-2 : goal.read_roots-requires-2
read_roots-requires-2 c = omega (arith, c.requires.short, c.in_ok-latches.ensures.shorter, c.in_ok-outputs.ensures.shorter)

pub read_binary_gates-requires : goal.read_binary_gates-requires
read_binary_gates-requires c = omega (arith, c.requires.short, c.in_ok-latches.ensures.shorter, c.in_ok-outputs.ensures.shorter, c.in_ok-bads.ensures.shorter)

pub read_symbols-requires : goal.read_symbols-requires
read_symbols-requires c = omega (arith, c.requires.short, c.in_ok-latches.ensures.shorter, c.in_ok-outputs.ensures.shorter, c.in_ok-bads.ensures.shorter, c.in_ok-gates.ensures.shorter)

pub returns-in_err-latches-clause-file : goal.returns-in_err-latches-clause-file
returns-in_err-latches-clause-file c =
    let p = err_from_is_err_and c.from_residual.result c.from_residual.ensures.1 in
    IfOk-passed _ c.from_residual.result p.0 p.1

pub returns-in_err-latches-clause-named : goal.returns-in_err-latches-clause-named
returns-in_err-latches-clause-named c =
    let p = err_from_is_err_and c.from_residual.result c.from_residual.ensures.1 in
    IfOk-passed _ c.from_residual.result p.0 p.1

pub returns-in_err-outputs-clause-file : goal.returns-in_err-outputs-clause-file
returns-in_err-outputs-clause-file c =
    let p = err_from_is_err_and c.from_residual-in_err-outputs.result c.from_residual-in_err-outputs.ensures.1 in
    IfOk-passed _ c.from_residual-in_err-outputs.result p.0 p.1

pub returns-in_err-outputs-clause-named : goal.returns-in_err-outputs-clause-named
returns-in_err-outputs-clause-named c =
    let p = err_from_is_err_and c.from_residual-in_err-outputs.result c.from_residual-in_err-outputs.ensures.1 in
    IfOk-passed _ c.from_residual-in_err-outputs.result p.0 p.1

pub returns-in_err-bads-clause-file : goal.returns-in_err-bads-clause-file
returns-in_err-bads-clause-file c =
    let p = err_from_is_err_and c.from_residual-in_err-bads.result c.from_residual-in_err-bads.ensures.1 in
    IfOk-passed _ c.from_residual-in_err-bads.result p.0 p.1

pub returns-in_err-bads-clause-named : goal.returns-in_err-bads-clause-named
returns-in_err-bads-clause-named c =
    let p = err_from_is_err_and c.from_residual-in_err-bads.result c.from_residual-in_err-bads.ensures.1 in
    IfOk-passed _ c.from_residual-in_err-bads.result p.0 p.1

pub returns-in_err-gates-clause-file : goal.returns-in_err-gates-clause-file
returns-in_err-gates-clause-file c =
    let p = err_from_is_err_and c.from_residual-in_err-gates.result c.from_residual-in_err-gates.ensures.1 in
    IfOk-passed _ c.from_residual-in_err-gates.result p.0 p.1

pub returns-in_err-gates-clause-named : goal.returns-in_err-gates-clause-named
returns-in_err-gates-clause-named c =
    let p = err_from_is_err_and c.from_residual-in_err-gates.result c.from_residual-in_err-gates.ensures.1 in
    IfOk-passed _ c.from_residual-in_err-gates.result p.0 p.1

pub returns-in_err-names-clause-file : goal.returns-in_err-names-clause-file
returns-in_err-names-clause-file c =
    let p = err_from_is_err_and c.from_residual-in_err-names.result c.from_residual-in_err-names.ensures.1 in
    IfOk-passed _ c.from_residual-in_err-names.result p.0 p.1

pub returns-in_err-names-clause-named : goal.returns-in_err-names-clause-named
returns-in_err-names-clause-named c =
    let p = err_from_is_err_and c.from_residual-in_err-names.result c.from_residual-in_err-names.ensures.1 in
    IfOk-passed _ c.from_residual-in_err-names.result p.0 p.1

pub returns-in_err-latches-clause-fault : goal.returns-in_err-latches-clause-fault
returns-in_err-latches-clause-fault c =
    let counts = as_counts c.args.counts.now in
    let bytes = c.args.bytes.now in
    let lines = lines_at (length bytes) c.args.text.now in
    let p = err_from_is_err_and c.from_residual.result c.from_residual.ensures.1 in
    IfErr-passed (λ e. IsFaultOf e (binary_in counts bytes lines)) _ p.0 c.in_err-latches.field-0.0 p.1 p.2
    (FailsBy-through (fault_of c.in_err-latches.field-0.0) _ (binary_in counts bytes lines) (λ f e. binary-latches counts bytes lines f e) c.in_err-latches.ensures.read)

pub returns-in_err-outputs-clause-fault : goal.returns-in_err-outputs-clause-fault
returns-in_err-outputs-clause-fault c =
    let counts = as_counts c.args.counts.now in
    let bytes = c.args.bytes.now in
    let lines = lines_at (length bytes) c.args.text.now in
    let p = err_from_is_err_and c.from_residual-in_err-outputs.result c.from_residual-in_err-outputs.ensures.1 in
    IfErr-passed (λ e. IsFaultOf e (binary_in counts bytes lines)) _ p.0 c.in_err-outputs.field-0.0 p.1 p.2
    (FailsBy-through (fault_of c.in_err-outputs.field-0.0) _ (binary_in counts bytes lines) (λ f e. binary-outputs counts bytes lines (map as_latch c.in_ok-latches.latches.items) (lines_at (length bytes) c.in_ok-latches.rest.now) f c.in_ok-latches.ensures.read e) c.in_err-outputs.ensures.read)

pub returns-in_err-bads-clause-fault : goal.returns-in_err-bads-clause-fault
returns-in_err-bads-clause-fault c =
    let counts = as_counts c.args.counts.now in
    let bytes = c.args.bytes.now in
    let lines = lines_at (length bytes) c.args.text.now in
    let p = err_from_is_err_and c.from_residual-in_err-bads.result c.from_residual-in_err-bads.ensures.1 in
    IfErr-passed (λ e. IsFaultOf e (binary_in counts bytes lines)) _ p.0 c.in_err-bads.field-0.0 p.1 p.2
    (FailsBy-through (fault_of c.in_err-bads.field-0.0) _ (binary_in counts bytes lines) (λ f e. binary-bads counts bytes lines (map as_latch c.in_ok-latches.latches.items) (map as_root c.in_ok-outputs.outputs.items) (lines_at (length bytes) c.in_ok-latches.rest.now) (lines_at (length bytes) c.in_ok-outputs.rest.now) f c.in_ok-latches.ensures.read c.in_ok-outputs.ensures.read e) c.in_err-bads.ensures.read)

pub returns-in_err-gates-clause-fault : goal.returns-in_err-gates-clause-fault
returns-in_err-gates-clause-fault c =
    let counts = as_counts c.args.counts.now in
    let bytes = c.args.bytes.now in
    let lines = lines_at (length bytes) c.args.text.now in
    let r1 = c.in_ok-latches.rest.now in
    let r2 = c.in_ok-outputs.rest.now in
    let r3 = c.in_ok-bads.rest.now in
    let short1 : length r1 ≤ length bytes = omega (arith, c.requires.short, c.in_ok-latches.ensures.shorter) in
    let short2 : length r2 ≤ length bytes = omega (arith, short1, c.in_ok-outputs.ensures.shorter) in
    let short3 : length r3 ≤ length bytes = omega (arith, short2, c.in_ok-bads.ensures.shorter) in
    let last1 = drop-further bytes c.args.text.now r1 c.requires.short c.in_ok-latches.ensures.shorter c.requires.last c.in_ok-latches.ensures.last in
    let last2 = drop-further bytes r1 r2 short1 c.in_ok-outputs.ensures.shorter last1 c.in_ok-outputs.ensures.last in
    let last3 = drop-further bytes r2 r3 short2 c.in_ok-bads.ensures.shorter last2 c.in_ok-bads.ensures.last in
    let read = lines-read counts bytes lines (map as_latch c.in_ok-latches.latches.items) (map as_root c.in_ok-outputs.outputs.items) (map as_root c.in_ok-bads.bads.items)
    (lines_at (length bytes) r1) (lines_at (length bytes) r2) r3 c.in_ok-latches.ensures.read c.in_ok-outputs.ensures.read c.in_ok-bads.ensures.read short3 last3 in
    let p = err_from_is_err_and c.from_residual-in_err-gates.result c.from_residual-in_err-gates.ensures.1 in
    IfErr-passed (λ e. IsFaultOf e (binary_in counts bytes lines)) _ p.0 c.in_err-gates.field-0.0 p.1 p.2
    (FailsBy-through (fault_of c.in_err-gates.field-0.0) _ (binary_in counts bytes lines) (λ f e. binary-gates counts bytes lines (map as_latch c.in_ok-latches.latches.items) (map as_root c.in_ok-outputs.outputs.items) (map as_root c.in_ok-bads.bads.items) r3 f read e) c.in_err-gates.ensures.read)

pub returns-in_err-names-clause-fault : goal.returns-in_err-names-clause-fault
returns-in_err-names-clause-fault c =
    let counts = as_counts c.args.counts.now in
    let bytes = c.args.bytes.now in
    let lines = lines_at (length bytes) c.args.text.now in
    let r1 = c.in_ok-latches.rest.now in
    let r2 = c.in_ok-outputs.rest.now in
    let r3 = c.in_ok-bads.rest.now in
    let short1 : length r1 ≤ length bytes = omega (arith, c.requires.short, c.in_ok-latches.ensures.shorter) in
    let short2 : length r2 ≤ length bytes = omega (arith, short1, c.in_ok-outputs.ensures.shorter) in
    let short3 : length r3 ≤ length bytes = omega (arith, short2, c.in_ok-bads.ensures.shorter) in
    let last1 = drop-further bytes c.args.text.now r1 c.requires.short c.in_ok-latches.ensures.shorter c.requires.last c.in_ok-latches.ensures.last in
    let last2 = drop-further bytes r1 r2 short1 c.in_ok-outputs.ensures.shorter last1 c.in_ok-outputs.ensures.last in
    let last3 = drop-further bytes r2 r3 short2 c.in_ok-bads.ensures.shorter last2 c.in_ok-bads.ensures.last in
    let read = lines-read counts bytes lines (map as_latch c.in_ok-latches.latches.items) (map as_root c.in_ok-outputs.outputs.items) (map as_root c.in_ok-bads.bads.items)
    (lines_at (length bytes) r1) (lines_at (length bytes) r2) r3 c.in_ok-latches.ensures.read c.in_ok-outputs.ensures.read c.in_ok-bads.ensures.read short3 last3 in
    let p = err_from_is_err_and c.from_residual-in_err-names.result c.from_residual-in_err-names.ensures.1 in
    IfErr-passed (λ e. IsFaultOf e (binary_in counts bytes lines)) _ p.0 c.in_err-names.field-0.0 p.1 p.2
    (FailsBy-through (fault_of c.in_err-names.field-0.0) _ (binary_in counts bytes lines) (λ f e. binary-symbols counts bytes lines (map as_latch c.in_ok-latches.latches.items) (map as_root c.in_ok-outputs.outputs.items) (map as_root c.in_ok-bads.bads.items) r3 c.in_ok-gates.rest.now (map as_operands c.in_ok-gates.gates.items) f read c.in_ok-gates.ensures.read e) c.in_err-names.ensures.fault)

whole : (n m : ℕ) → n ≡ 0 + m → n ≡ m
whole n m e = omega (arith, e)

pub returns-clause-file : goal.returns-clause-file
returns-clause-file c =
    let counts = as_counts c.args.counts.now in
    let bytes = c.args.bytes.now in
    let lines = lines_at (length bytes) c.args.text.now in
    let r1 = c.in_ok-latches.rest.now in
    let r2 = c.in_ok-outputs.rest.now in
    let r3 = c.in_ok-bads.rest.now in
    let short1 : length r1 ≤ length bytes = omega (arith, c.requires.short, c.in_ok-latches.ensures.shorter) in
    let short2 : length r2 ≤ length bytes = omega (arith, short1, c.in_ok-outputs.ensures.shorter) in
    let short3 : length r3 ≤ length bytes = omega (arith, short2, c.in_ok-bads.ensures.shorter) in
    let last1 = drop-further bytes c.args.text.now r1 c.requires.short c.in_ok-latches.ensures.shorter c.requires.last c.in_ok-latches.ensures.last in
    let last2 = drop-further bytes r1 r2 short1 c.in_ok-outputs.ensures.shorter last1 c.in_ok-outputs.ensures.last in
    let last3 = drop-further bytes r2 r3 short2 c.in_ok-bads.ensures.shorter last2 c.in_ok-bads.ensures.last in
    let read = lines-read counts bytes lines (map as_latch c.in_ok-latches.latches.items) (map as_root c.in_ok-outputs.outputs.items) (map as_root c.in_ok-bads.bads.items)
    (lines_at (length bytes) r1) (lines_at (length bytes) r2) r3 c.in_ok-latches.ensures.read c.in_ok-outputs.ensures.read c.in_ok-bads.ensures.read short3 last3 in
    let parts : BinaryParts = record { latches = c.in_ok-latches.latches; outputs = c.in_ok-outputs.outputs; bads = c.in_ok-bads.bads; gates = c.in_ok-gates.gates; names = c.in_ok-names.names } in
    let named = c.in_ok-names.ensures.names in
    let are : ArePartsRead counts named.0 parts = record {
      latches_long = whole _ _ (length-read_lines (binary_latch_in counts) (length bytes) counts.latches [] lines (map as_latch c.in_ok-latches.latches.items) (lines_at (length bytes) c.in_ok-latches.rest.now) c.in_ok-latches.ensures.read);
      outputs_long = whole _ _ (length-read_lines (root_in counts) (length bytes) counts.outputs [] (lines_at (length bytes) c.in_ok-latches.rest.now) (map as_root c.in_ok-outputs.outputs.items) (lines_at (length bytes) c.in_ok-outputs.rest.now) c.in_ok-outputs.ensures.read);
      bads_long = whole _ _ (length-read_lines (root_in counts) (length bytes) counts.bads [] (lines_at (length bytes) c.in_ok-outputs.rest.now) (map as_root c.in_ok-bads.bads.items) (lines_at (length bytes) c.in_ok-bads.rest.now) c.in_ok-bads.ensures.read);
      named = named.3;
    } in
    binary-all counts bytes lines r3 c.in_ok-gates.rest.now named.0 named.1 parts read c.in_ok-gates.ensures.read named.2 are

pub returns-clause-named : goal.returns-clause-named
returns-clause-named c =
    let counts = as_counts c.args.counts.now in
    let bytes = c.args.bytes.now in
    let lines = lines_at (length bytes) c.args.text.now in
    let parts : BinaryParts = record { latches = c.in_ok-latches.latches; outputs = c.in_ok-outputs.outputs; bads = c.in_ok-bads.bads; gates = c.in_ok-gates.gates; names = c.in_ok-names.names } in
    let named = c.in_ok-names.ensures.names in
    let are : ArePartsRead counts named.0 parts = record {
      latches_long = whole _ _ (length-read_lines (binary_latch_in counts) (length bytes) counts.latches [] lines (map as_latch c.in_ok-latches.latches.items) (lines_at (length bytes) c.in_ok-latches.rest.now) c.in_ok-latches.ensures.read);
      outputs_long = whole _ _ (length-read_lines (root_in counts) (length bytes) counts.outputs [] (lines_at (length bytes) c.in_ok-latches.rest.now) (map as_root c.in_ok-outputs.outputs.items) (lines_at (length bytes) c.in_ok-outputs.rest.now) c.in_ok-outputs.ensures.read);
      bads_long = whole _ _ (length-read_lines (root_in counts) (length bytes) counts.bads [] (lines_at (length bytes) c.in_ok-outputs.rest.now) (map as_root c.in_ok-bads.bads.items) (lines_at (length bytes) c.in_ok-bads.rest.now) c.in_ok-bads.ensures.read);
      named = named.3;
    } in
    names-each counts named.0 parts are
