use Rattle.std.proofs.Common.{◌≡◌, ◌<◌, ◌≤◌, length, map, drop, get_or, None, false, true, sym, ◌∙◌, ap, arith, rules}
use Rattle.std.proofs.lemmas.List.{get_or-map, length-map, take_at}
use Rattle.craig_aiger_read.proofs.FaultLemmas.{memory_error}
use Rattle.craig_aiger_read.specs.ReadViews.{as_gate, as_operands}
use Rattle.craig_aiger_read.proofs.CircleLemmas.{settled-all, settled-circle, settled-more}
use Rattle.craig_aiger_read.proofs.depths.gate_depths.Goals as goal

pub returns-then-not-branch : goal.returns-then-not-branch
returns-then-not-branch c =
    let lines = map as_gate c.args.lines.now in
    let gates = map as_operands c.args.gates.now in
    let line = as_gate (get_or c.args.lines.now c.loop-gate.gate (record { offset = 0; variable = 0; left = 0; right = 0 })) in
    let low : c.loop-gate.gate < length c.args.lines.now = search rules in
    let inside : c.loop-gate.gate < length lines = omega (arith, low, length-map c.args.lines.now as_gate) in
    let at : line ≡ get_or lines c.loop-gate.gate line = sym (get_or-map as_gate c.args.lines.now c.loop-gate.gate _ line low) in
    let unsettled : c.in_ok-settle.field-0 ≡ false = grind arith in
    settled-circle c.args.first gates lines c.loop-gate.gate line c.loop-gate.depths.items c.loop-gate.invariant inside at (c.in_ok-settle.ensures.circle unsettled)

pub loop-gate-preserved : goal.loop-gate-preserved
loop-gate-preserved c =
    let lines = map as_gate c.args.lines.now in
    let gates = map as_operands c.args.gates.now in
    let line = as_gate (get_or c.args.lines.now c.loop-gate.gate (record { offset = 0; variable = 0; left = 0; right = 0 })) in
    let low : c.loop-gate.gate < length c.args.lines.now = search rules in
    let inside : c.loop-gate.gate < length lines = omega (arith, low, length-map c.args.lines.now as_gate) in
    let at : line ≡ get_or lines c.loop-gate.gate line = sym (get_or-map as_gate c.args.lines.now c.loop-gate.gate _ line low) in
    let settled : c.in_ok-settle.field-0 ≡ true = grind arith in
    let known = c.in_ok-settle.ensures.known settled in
    let same = c.deref_mut.ensures.value in
    let size : length c.settle.new.depths ≡ c.loop-gate.depths.len =
    c.in_ok-settle.ensures.depths.long ∙ sym c.loop-gate.invariant.depths.long ∙ ap length (sym same) ∙ c.deref_mut.ensures.len in
    rw (take_at c.settle.new.depths (drop (length c.settle.new.depths) c.loop-gate.depths.items) c.loop-gate.depths.len size)
    (settled-more c.args.first gates lines c.loop-gate.gate known.0 line c.loop-gate.depths.items c.settle.new.depths c.loop-gate.invariant inside at
    c.in_ok-settle.ensures.depths (λ j d e. c.in_ok-settle.ensures.stay j d (ap (λ z. get_or z j None) same ∙ e)) known.1)

pub returns : goal.returns
returns c =
    let lines = map as_gate c.args.lines.now in
    let gates = map as_operands c.args.gates.now in
    let past : length c.args.lines.now ≤ c.loop-gate.gate = search rules in
    settled-all c.args.first gates lines c.loop-gate.gate c.loop-gate.depths.items c.loop-gate.invariant (omega (arith, past, length-map c.args.lines.now as_gate))
    (omega (arith, c.requires.beside, length-map c.args.lines.now as_gate, length-map c.args.gates.now as_operands))

pub returns-in_err-depths : goal.returns-in_err-depths
returns-in_err-depths c = memory_error _ _ _ _ c.from_residual.ensures.1

pub returns-in_err-settle : goal.returns-in_err-settle
returns-in_err-settle c = memory_error _ _ _ _ c.from_residual-in_err-settle.ensures.1
