use Rattle.std.proofs.Common.{◌≡◌, ◌-◌, List, length, map, Ok, sym, ◌∙◌, ap, subst}
use Rattle.std.proofs.lemmas.Result.{err_from_is_err_and}
use Rattle.craig_spec.specs.AigerReading.{AigerFile, Written as WrittenText, file_written, first_gate}
use Rattle.craig_aiger_read.specs.declared.aiger_error.AigerError.{AigerError}
use Rattle.craig_aiger_read.specs.declared.gate.Gate.{Gate}
use Rattle.craig_aiger_read.specs.declared.gate_line.GateLine.{GateLine}
use Rattle.craig_aiger_read.specs.declared.latch_line.LatchLine.{LatchLine}
use Rattle.craig_aiger_read.specs.Assembled.{FitsNames, IsMoved, file_of, undefined_in}
use Rattle.craig_aiger_read.specs.ReadDepths.{AreWithin, depths_of}
use Rattle.craig_aiger_read.specs.ReadFaults.{IsFaultOf, fault_of}
use Rattle.craig_aiger_read.specs.ReadViews.{as_gate, as_operands}
use Rattle.craig_aiger_read.specs.ReadWritten.{KeepsWritten}
use Rattle.craig_aiger_read.proofs.FaultLemmas.{FailsBy-through, IfErr-passed, IfOk-passed}
use Rattle.craig_aiger_read.proofs.FileLemmas.{file-cyclic, file-parts, file-undefined, first_gate-counted, fits-names, gate-count, gates-few, gates-within, lines-fewer}
use Rattle.craig_aiger_read.proofs.reading.circuit_of.Goals as goal

pub numbered_of-requires : goal.numbered_of-requires
numbered_of-requires c = c.requires.few

pub returns-in_err-numbered-clause-file : goal.returns-in_err-numbered-clause-file
returns-in_err-numbered-clause-file c =
    let p = err_from_is_err_and c.from_residual.result c.from_residual.ensures.1 in
    IfOk-passed _ c.from_residual.result p.0 p.1

pub returns-in_err-moves-clause-file : goal.returns-in_err-moves-clause-file
returns-in_err-moves-clause-file c =
    let p = err_from_is_err_and c.from_residual-in_err-moves.result c.from_residual-in_err-moves.ensures.1 in
    IfOk-passed _ c.from_residual-in_err-moves.result p.0 p.1

pub returns-in_err-circuit-clause-file : goal.returns-in_err-circuit-clause-file
returns-in_err-circuit-clause-file c =
    let p = err_from_is_err_and c.from_residual-in_err-circuit.result c.from_residual-in_err-circuit.ensures.1 in
    IfOk-passed _ c.from_residual-in_err-circuit.result p.0 p.1

pub returns-in_err-numbered-clause-fault : goal.returns-in_err-numbered-clause-fault
returns-in_err-numbered-clause-fault c =
    let kept = c.args.written in
    let p = err_from_is_err_and c.from_residual.result c.from_residual.ensures.1 in
    let P : AigerError → Type 0 = λ e. (w : WrittenText) → KeepsWritten w kept → IsFaultOf e (file_written w) in
    IfErr-passed P c.from_residual.result p.0 c.in_err-numbered.field-0.0 p.1 p.2
    (λ w h. FailsBy-through (fault_of c.in_err-numbered.field-0.0) (undefined_in kept) (file_written w) (λ f e. file-undefined w kept f h e) c.in_err-numbered.ensures.err)

pub overflow_sub-first : goal.overflow_sub-first
overflow_sub-first c = lines-fewer _ _ c.requires.kept.0 c.args.written c.len.ensures.len c.as_slice-lines.ensures.value c.requires.kept.1

pub moves_of-requires-clause-beside : goal.moves_of-requires-clause-beside
moves_of-requires-clause-beside c =
    ap length c.as_slice.ensures.value ∙ gate-count c.requires.kept.0 c.args.written c.in_ok-numbered.numbered c.requires.kept.1 c.in_ok-numbered.ensures.ok ∙ sym (ap length c.as_slice-lines.ensures.value)

pub moves_of-requires-clause-within : goal.moves_of-requires-clause-within
moves_of-requires-clause-within c =
    let kept = c.args.written in
    let first = c.len.result - length c.as_slice-lines.result.now in
    let at : (w : WrittenText) → KeepsWritten w kept → first ≡ first_gate w =
    λ w h. first_gate-counted _ _ w kept c.len.ensures.len c.as_slice-lines.ensures.value h in
    let w = c.requires.kept.0 in
    let h = c.requires.kept.1 in
    let n = c.in_ok-numbered.numbered in
    let is = c.in_ok-numbered.ensures.ok in
    let P : List Gate → Type 0 = λ z. AreWithin first z in
    subst P (sym c.as_slice.ensures.value) (gates-within w kept n first h is (at w h))

pub moves_of-requires-clause-small : goal.moves_of-requires-clause-small
moves_of-requires-clause-small c =
    let kept = c.args.written in
    let first = c.len.result - length c.as_slice-lines.result.now in
    let at : (w : WrittenText) → KeepsWritten w kept → first ≡ first_gate w =
    λ w h. first_gate-counted _ _ w kept c.len.ensures.len c.as_slice-lines.ensures.value h in
    let w = c.requires.kept.0 in
    let h = c.requires.kept.1 in
    let n = c.in_ok-numbered.numbered in
    let is = c.in_ok-numbered.ensures.ok in
    gates-few first _ _ w kept n (at w h) c.requires.few c.as_slice.ensures.value h is

pub returns-in_err-moves-clause-fault : goal.returns-in_err-moves-clause-fault
returns-in_err-moves-clause-fault c =
    let kept = c.args.written in
    let first = c.len.result - length c.as_slice-lines.result.now in
    let at : (w : WrittenText) → KeepsWritten w kept → first ≡ first_gate w =
    λ w h. first_gate-counted _ _ w kept c.len.ensures.len c.as_slice-lines.ensures.value h in
    let w = c.requires.kept.0 in
    let h = c.requires.kept.1 in
    let n = c.in_ok-numbered.numbered in
    let is = c.in_ok-numbered.ensures.ok in
    let p = err_from_is_err_and c.from_residual-in_err-moves.result c.from_residual-in_err-moves.ensures.1 in
    let P : AigerError → Type 0 = λ e. (w : WrittenText) → KeepsWritten w kept → IsFaultOf e (file_written w) in
    let same : depths_of first (map as_operands n.gates.items) (map as_gate kept.gates.items) ≡ depths_of first (map as_operands c.as_slice.result.now) (map as_gate c.as_slice-lines.result.now) =
    ap (λ z. depths_of first (map as_operands z) (map as_gate kept.gates.items)) (sym c.as_slice.ensures.value)
    ∙ ap (λ z. depths_of first (map as_operands c.as_slice.result.now) (map as_gate z)) (sym c.as_slice-lines.ensures.value) in
    IfErr-passed P c.from_residual-in_err-moves.result p.0 c.in_err-moves.field-0.0 p.1 p.2
    (λ w h. FailsBy-through (fault_of c.in_err-moves.field-0.0) _ (file_written w) (λ f e. file-cyclic w kept n first f h is (at w h) (same ∙ e)) c.in_err-moves.ensures.err)

pub circuit_with-requires : goal.circuit_with-requires
circuit_with-requires c =
    let kept = c.args.written in
    let first = c.len.result - length c.as_slice-lines.result.now in
    let at : (w : WrittenText) → KeepsWritten w kept → first ≡ first_gate w =
    λ w h. first_gate-counted _ _ w kept c.len.ensures.len c.as_slice-lines.ensures.value h in
    let w = c.requires.kept.0 in
    let h = c.requires.kept.1 in
    let n = c.in_ok-numbered.numbered in
    let is = c.in_ok-numbered.ensures.ok in
    let P : List Gate → Type 0 = λ z. IsMoved first z c.as_slice-lines.result.now c.in_ok-moves.moves in
    let Q : List GateLine → Type 0 = λ z. IsMoved first n.gates.items z c.in_ok-moves.moves in
    let moves = subst Q c.as_slice-lines.ensures.value (subst P c.as_slice.ensures.value c.in_ok-moves.ensures.ok) in
    let R : List LatchLine → Type 0 = λ z. FitsNames first z n c.in_ok-moves.moves kept.names in
    record { fits = subst R (sym c.as_slice-2.ensures.value) (fits-names w kept n c.in_ok-moves.moves first h is (at w h) moves) }

pub returns-in_err-circuit-clause-fault : goal.returns-in_err-circuit-clause-fault
returns-in_err-circuit-clause-fault c =
    let p = err_from_is_err_and c.from_residual-in_err-circuit.result c.from_residual-in_err-circuit.ensures.1 in
    let P : AigerError → Type 0 = λ e. (w : WrittenText) → KeepsWritten w c.args.written → IsFaultOf e (file_written w) in
    IfErr-passed P c.from_residual-in_err-circuit.result p.0 _ p.1 p.2 (λ w h. tt)

pub returns-clause-file : goal.returns-clause-file
returns-clause-file c =
    let kept = c.args.written in
    let first = c.len.result - length c.as_slice-lines.result.now in
    let at : (w : WrittenText) → KeepsWritten w kept → first ≡ first_gate w =
    λ w h. first_gate-counted _ _ w kept c.len.ensures.len c.as_slice-lines.ensures.value h in
    let w = c.requires.kept.0 in
    let h = c.requires.kept.1 in
    let n = c.in_ok-numbered.numbered in
    let is = c.in_ok-numbered.ensures.ok in
    let P : List Gate → Type 0 = λ z. IsMoved first z c.as_slice-lines.result.now c.in_ok-moves.moves in
    let Q : List GateLine → Type 0 = λ z. IsMoved first n.gates.items z c.in_ok-moves.moves in
    let moves = subst Q c.as_slice-lines.ensures.value (subst P c.as_slice.ensures.value c.in_ok-moves.ensures.ok) in
    λ w h. file-parts w kept n c.in_ok-moves.moves first h is (at w h) moves
    ∙ ap (λ (z : AigerFile). Ok z) (sym (c.in_ok-circuit.ensures ∙ ap (λ z. file_of first z n c.in_ok-moves.moves kept.names) c.as_slice-2.ensures.value))
