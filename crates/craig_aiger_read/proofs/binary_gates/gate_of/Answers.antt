use Rattle.std.proofs.lemmas.Result.{err_from_is_err_and}
use Rattle.craig_aiger_read.proofs.BinaryGateLemmas.{gate-both, gate-first, gate-second}
use Rattle.craig_aiger_read.proofs.FaultLemmas.{line_error}
use Rattle.craig_aiger_read.proofs.binary_gates.gate_of.Goals as goal

pub returns-in_err-first-clause-read : goal.returns-in_err-first-clause-read
returns-in_err-first-clause-read c =
    let p = err_from_is_err_and c.from_residual.result c.from_residual.ensures.1 in
    line_error _ _ _ _ p.0 _ p.1 p.2 c.in_err-first.ensures.read (λ f e. gate-first c.args.end c.args.own c.args.text.now f e)

pub returns-in_err-second-clause-read : goal.returns-in_err-second-clause-read
returns-in_err-second-clause-read c =
    let p = err_from_is_err_and c.from_residual-in_err-second.result c.from_residual-in_err-second.ensures.1 in
    line_error _ _ _ _ p.0 _ p.1 p.2 c.in_err-second.ensures.read
    (λ f e. gate-second c.args.end c.args.own c.args.text.now c.in_ok-first.first c.in_ok-first.behind.now f c.in_ok-first.ensures.read e)

pub returns-clause-read : goal.returns-clause-read
returns-clause-read c =
    gate-both c.args.end c.args.own c.args.text.now c.in_ok-first.first c.in_ok-second.second c.in_ok-first.behind.now c.in_ok-second.rest.now c.in_ok-first.ensures.read c.in_ok-second.ensures.read
