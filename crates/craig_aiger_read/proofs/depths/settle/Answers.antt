use Rattle.std.proofs.Common.{◌≡◌, ◌-◌, ◌<◌, ◌≤◌, length, map, take, slice_get, sym, ◌∙◌, ap, arith}
use Rattle.std.proofs.lemmas.Bool.Decides.{nat_tests}
use Rattle.std.proofs.lemmas.List.{length-map, length-take-le}
use Rattle.std.proofs.lemmas.Result.{IfOk-from_err}
use Rattle.craig_aiger_read.specs.ReadDepths.{known_count}
use Rattle.craig_aiger_read.specs.ReadViews.{as_operands}
use Rattle.craig_aiger_read.proofs.SettleLemmas.{count-lt, count-set, kept-gate, known-small, pop-nearer, settling-full, settling-pop, settling-push, top-inside, top-is, top-none}
use Rattle.craig_aiger_read.proofs.depths.settle.Goals as goal

pub readiness_of-requires-clause-small : goal.readiness_of-requires-clause-small
readiness_of-requires-clause-small c =
    let t = top-is c.loop-gate.stack.items c.in-Some.gate (ap (λ z. slice_get z (length z - 1)) (sym c.as_slice.ensures.value) ∙ sym c.top_of.ensures ∙ c.in-Some.is) in
    let gates = map as_operands c.args.gates.now in
    let p = top-inside c.args.first gates c.args.depths.now c.loop-gate.depths c.args.root c.in-Some.gate c.loop-gate.stack.items c.loop-gate.invariant t in
    known-small c.args.first gates c.args.depths.now c.loop-gate.depths c.args.root c.in-Some.gate c.loop-gate.stack.items c.loop-gate.invariant t

pub bounds-depths-gate : goal.bounds-depths-gate
bounds-depths-gate c =
    let t = top-is c.loop-gate.stack.items c.in-Some.gate (ap (λ z. slice_get z (length z - 1)) (sym c.as_slice.ensures.value) ∙ sym c.top_of.ensures ∙ c.in-Some.is) in
    let gates = map as_operands c.args.gates.now in
    let p = top-inside c.args.first gates c.args.depths.now c.loop-gate.depths c.args.root c.in-Some.gate c.loop-gate.stack.items c.loop-gate.invariant t in
    p.1

pub offset_bounds-depths-gate : goal.offset_bounds-depths-gate
offset_bounds-depths-gate c =
    let t = top-is c.loop-gate.stack.items c.in-Some.gate (ap (λ z. slice_get z (length z - 1)) (sym c.as_slice.ensures.value) ∙ sym c.top_of.ensures ∙ c.in-Some.is) in
    let gates = map as_operands c.args.gates.now in
    let p = top-inside c.args.first gates c.args.depths.now c.loop-gate.depths c.args.root c.in-Some.gate c.loop-gate.stack.items c.loop-gate.invariant t in
    omega (arith, p.1, c.loop-gate.auto.depths)

pub loop-gate-smaller-in-Depth : goal.loop-gate-smaller-in-Depth
loop-gate-smaller-in-Depth c =
    let t = top-is c.loop-gate.stack.items c.in-Some.gate (ap (λ z. slice_get z (length z - 1)) (sym c.as_slice.ensures.value) ∙ sym c.top_of.ensures ∙ c.in-Some.is) in
    let gates = map as_operands c.args.gates.now in
    let p = top-inside c.args.first gates c.args.depths.now c.loop-gate.depths c.args.root c.in-Some.gate c.loop-gate.stack.items c.loop-gate.invariant t in
    let len : c.len.result ≡ length c.loop-gate.stack.items = c.len.ensures ∙ sym c.as_slice.ensures.len ∙ ap length c.as_slice.ensures.value in
    let below : c.len.result - 1 ≡ t.below = omega (arith, len, t.size) in
    let cut : c.truncate.new.self.items ≡ take t.below c.loop-gate.stack.items = c.truncate.ensures.items ∙ ap (λ z. take z c.loop-gate.stack.items) below in
    let short : length c.truncate.new.self.items ≡ t.below = ap length cut ∙ length-take-le t.below c.loop-gate.stack.items (omega (arith, t.size)) in
    let count = count-set c.loop-gate.depths c.in-Some.gate c.in-Depth.depth p.1 p.2 in
    let all : length gates ≡ length c.args.gates.now = length-map c.args.gates.now as_operands in
    let more : known_count c.loop-gate.depths < length c.args.gates.now = omega (arith, all, c.loop-gate.invariant.depths.long, count-lt c.loop-gate.depths c.in-Some.gate p.1 p.2) in
    pop-nearer (length c.args.gates.now) (known_count c.loop-gate.depths) _ _ _ t.below count short t.size more (omega (arith, t.size, all, c.loop-gate.invariant.low))

pub loop-gate-preserved-in-Depth : goal.loop-gate-preserved-in-Depth
loop-gate-preserved-in-Depth c =
    let t = top-is c.loop-gate.stack.items c.in-Some.gate (ap (λ z. slice_get z (length z - 1)) (sym c.as_slice.ensures.value) ∙ sym c.top_of.ensures ∙ c.in-Some.is) in
    let gates = map as_operands c.args.gates.now in
    let p = top-inside c.args.first gates c.args.depths.now c.loop-gate.depths c.args.root c.in-Some.gate c.loop-gate.stack.items c.loop-gate.invariant t in
    let len : c.len.result ≡ length c.loop-gate.stack.items = c.len.ensures ∙ sym c.as_slice.ensures.len ∙ ap length c.as_slice.ensures.value in
    let below : c.len.result - 1 ≡ t.below = omega (arith, len, t.size) in
    let cut : c.truncate.new.self.items ≡ take t.below c.loop-gate.stack.items = c.truncate.ensures.items ∙ ap (λ z. take z c.loop-gate.stack.items) below in
    let g = kept-gate c.args.gates.now c.in-Some.gate (record { left = 0; right = 0 }) (omega (arith, p.0, length-map c.args.gates.now as_operands)) in
    let w = c.in-Depth.ensures in
    rw cut (settling-pop c.args.first gates c.args.depths.now c.loop-gate.depths c.args.root c.in-Some.gate w.0 w.1 c.in-Depth.depth t.below c.loop-gate.stack.items _ c.loop-gate.invariant
    t.size t.at g w.2 w.3 w.4)

pub returns-then-len-gates-clause-circle : goal.returns-then-len-gates-clause-circle
returns-then-len-gates-clause-circle c =
    let t = top-is c.loop-gate.stack.items c.in-Some.gate (ap (λ z. slice_get z (length z - 1)) (sym c.as_slice.ensures.value) ∙ sym c.top_of.ensures ∙ c.in-Some.is) in
    let gates = map as_operands c.args.gates.now in
    let p = top-inside c.args.first gates c.args.depths.now c.loop-gate.depths c.args.root c.in-Some.gate c.loop-gate.stack.items c.loop-gate.invariant t in
    let g = kept-gate c.args.gates.now c.in-Some.gate (record { left = 0; right = 0 }) (omega (arith, p.0, length-map c.args.gates.now as_operands)) in
    let w = c.in-Waits.ensures in
    let len : c.len-in-Waits.result ≡ length c.loop-gate.stack.items = c.len-in-Waits.ensures ∙ sym c.as_slice.ensures.len ∙ ap length c.as_slice.ensures.value in
    let high : length c.args.gates.now ≤ c.len-in-Waits.result = grind (arith, nat_tests) in
    λ _. settling-full c.args.first gates c.args.depths.now c.loop-gate.depths c.args.root c.in-Some.gate c.in-Waits.operand t.below c.loop-gate.stack.items _ c.loop-gate.invariant
    t.size t.at g w.0 w.1 (omega (arith, high, len, length-map c.args.gates.now as_operands))

pub loop-gate-preserved : goal.loop-gate-preserved
loop-gate-preserved c =
    let t = top-is c.loop-gate.stack.items c.in-Some.gate (ap (λ z. slice_get z (length z - 1)) (sym c.as_slice.ensures.value) ∙ sym c.top_of.ensures ∙ c.in-Some.is) in
    let gates = map as_operands c.args.gates.now in
    let p = top-inside c.args.first gates c.args.depths.now c.loop-gate.depths c.args.root c.in-Some.gate c.loop-gate.stack.items c.loop-gate.invariant t in
    let g = kept-gate c.args.gates.now c.in-Some.gate (record { left = 0; right = 0 }) (omega (arith, p.0, length-map c.args.gates.now as_operands)) in
    let w = c.in-Waits.ensures in
    let len : c.len-in-Waits.result ≡ length c.loop-gate.stack.items = c.len-in-Waits.ensures ∙ sym c.as_slice.ensures.len ∙ ap length c.as_slice.ensures.value in
    let room : c.len-in-Waits.result < length c.args.gates.now = grind (arith, nat_tests) in
    rw c.in_ok-push-in-Waits.ensures.items
    (settling-push c.args.first gates c.args.depths.now c.loop-gate.depths c.args.root c.in-Some.gate c.in-Waits.operand t.below c.loop-gate.stack.items _ c.loop-gate.invariant
    t.size t.at g w.0 w.1 w.2 (omega (arith, room, len, length-map c.args.gates.now as_operands)))

pub returns-clause-known : goal.returns-clause-known
returns-clause-known c = λ _. c.loop-gate.invariant.root_known
    (top-none c.loop-gate.stack.items (ap (λ z. slice_get z (length z - 1)) (sym c.as_slice.ensures.value) ∙ sym c.top_of.ensures ∙ c.in_default.is))

pub returns-in_err-stack-clause-depths : goal.returns-in_err-stack-clause-depths
returns-in_err-stack-clause-depths c = IfOk-from_err _ _ c.from_residual.ensures.0

pub returns-in_err-stack-clause-stay : goal.returns-in_err-stack-clause-stay
returns-in_err-stack-clause-stay c = IfOk-from_err _ _ c.from_residual.ensures.0

pub returns-in_err-stack-clause-known : goal.returns-in_err-stack-clause-known
returns-in_err-stack-clause-known c = IfOk-from_err _ _ c.from_residual.ensures.0

pub returns-in_err-stack-clause-circle : goal.returns-in_err-stack-clause-circle
returns-in_err-stack-clause-circle c = IfOk-from_err _ _ c.from_residual.ensures.0

pub returns-in_err-push-in-Waits-clause-depths : goal.returns-in_err-push-in-Waits-clause-depths
returns-in_err-push-in-Waits-clause-depths c = IfOk-from_err _ _ c.from_residual-in_err-push-in-Waits.ensures.0

pub returns-in_err-push-in-Waits-clause-stay : goal.returns-in_err-push-in-Waits-clause-stay
returns-in_err-push-in-Waits-clause-stay c = IfOk-from_err _ _ c.from_residual-in_err-push-in-Waits.ensures.0

pub returns-in_err-push-in-Waits-clause-known : goal.returns-in_err-push-in-Waits-clause-known
returns-in_err-push-in-Waits-clause-known c = IfOk-from_err _ _ c.from_residual-in_err-push-in-Waits.ensures.0

pub returns-in_err-push-in-Waits-clause-circle : goal.returns-in_err-push-in-Waits-clause-circle
returns-in_err-push-in-Waits-clause-circle c = IfOk-from_err _ _ c.from_residual-in_err-push-in-Waits.ensures.0

pub returns-then-len-gates-clause-depths : goal.returns-then-len-gates-clause-depths
returns-then-len-gates-clause-depths c = c.loop-gate.invariant.depths

pub returns-then-len-gates-clause-stay : goal.returns-then-len-gates-clause-stay
returns-then-len-gates-clause-stay c = c.loop-gate.invariant.stay

pub returns-clause-depths : goal.returns-clause-depths
returns-clause-depths c = c.loop-gate.invariant.depths

pub returns-clause-stay : goal.returns-clause-stay
returns-clause-stay c = c.loop-gate.invariant.stay
