use Rattle.std.proofs.Common.{◌≡◌, ◌+◌, ◌*◌, ◌∷◌, ◌++◌, [], map, ◌∙◌, ap, rules}
use Rattle.std.proofs.lemmas.List.{map_push}
use Rattle.std.proofs.lemmas.Result.{err_from_is_err_and}
use Rattle.craig_aiger_read.specs.ReadViews.{as_operands}
use Rattle.craig_aiger_read.proofs.BinaryGateLemmas.{gates-fault, gates-more}
use Rattle.craig_aiger_read.proofs.FaultLemmas.{line_error}
use Rattle.craig_aiger_read.proofs.binary_gates.read_binary_gates.Goals as goal

pub returns-in_err-gate-clause-read : goal.returns-in_err-gate-clause-read
returns-in_err-gate-clause-read c =
    let counts = c.args.counts.now in
    let p = err_from_is_err_and c.from_residual.result c.from_residual.ensures.1 in
    line_error _ _ _ _ p.0 _ p.1 p.2 c.in_err-gate.ensures.read
    (λ f e. gates-fault c.args.end counts.gates (2 * (1 + counts.inputs + counts.latches)) c.loop.own c.loop.counter (map as_operands c.loop.gates.items) c.args.text.now c.loop.rest.now f c.loop.invariant (search rules) e)

pub loop-preserved : goal.loop-preserved
loop-preserved c =
    let counts = c.args.counts.now in
    let before = map as_operands c.loop.gates.items in
    let all : map as_operands c.push.new.self.items ≡ before ++ as_operands c.in_ok-gate.gate ∷ [] = ap (map as_operands) c.in_ok-push.ensures.items ∙ map_push as_operands c.loop.gates.items c.in_ok-gate.gate in
    rw all (gates-more c.args.end counts.gates (2 * (1 + counts.inputs + counts.latches)) c.loop.own c.loop.counter before c.args.text.now c.loop.rest.now c.in_ok-gate.behind.now (as_operands c.in_ok-gate.gate)
    c.loop.invariant (search rules) c.in_ok-gate.ensures.read c.in_ok-gate.ensures.shorter)
