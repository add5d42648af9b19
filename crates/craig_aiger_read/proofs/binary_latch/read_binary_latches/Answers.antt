use Rattle.std.proofs.Common.{◌≡◌, ◌+◌, ◌∷◌, ◌++◌, [], length, map, ◌∙◌, ap, arith, rules}
use Rattle.std.proofs.lemmas.List.{length-append, length-map, map_push}
use Rattle.std.proofs.lemmas.Result.{err_from_is_err_and}
use Rattle.craig_spec.specs.AigerBinary.{binary_latch_in}
use Rattle.craig_aiger_read.specs.ReadViews.{as_counts, as_latch}
use Rattle.craig_aiger_read.proofs.FaultLemmas.{line_error, truncated_error}
use Rattle.craig_aiger_read.proofs.ReadLinesLemmas.{read-fault, read-more, read-truncated}
use Rattle.craig_aiger_read.proofs.VariablesLemmas.{binary_latch_in-variable}
use Rattle.craig_aiger_read.proofs.binary_latch.read_binary_latches.Goals as goal

pub returns-in_err-line-clause-read : goal.returns-in_err-line-clause-read
returns-in_err-line-clause-read c =
    let p = err_from_is_err_and c.from_residual.result c.from_residual.ensures.1 in
    truncated_error _ c.args.end _ _ p.0 _ p.1 p.2 c.in_err-line.ensures.err.0
    (read-truncated (binary_latch_in (as_counts c.args.counts.now)) c.args.end c.args.counts.now.latches c.loop.counter (map as_latch c.loop.latches.items) c.args.text.now c.loop.rest.now
    c.loop.invariant.2 (search rules) c.in_err-line.ensures.err.1)

pub returns-in_err-latch-clause-read : goal.returns-in_err-latch-clause-read
returns-in_err-latch-clause-read c =
    let before = map as_latch c.loop.latches.items in
    let variable : c.loop.variable ≡ 1 + c.args.counts.now.inputs + length before = omega (arith, c.loop.invariant, length-map c.loop.latches.items as_latch) in
    let p = err_from_is_err_and c.from_residual-in_err-latch.result c.from_residual-in_err-latch.ensures.1 in
    line_error _ _ _ _ p.0 _ p.1 p.2 c.in_err-latch.ensures
    (λ f e. read-fault (binary_latch_in (as_counts c.args.counts.now)) c.args.end c.args.counts.now.latches c.loop.counter before c.args.text.now c.loop.rest.now
    c.in_ok-line.line.now c.in_ok-line.behind.now f c.loop.invariant.2 (search rules) c.requires c.in_ok-line.ensures.ok
    (binary_latch_in-variable _ before _ _ _ variable ∙ e))

pub loop-preserved : goal.loop-preserved
loop-preserved c =
    let before = map as_latch c.loop.latches.items in
    let own = as_latch c.in_ok-latch.latch in
    let variable : c.loop.variable ≡ 1 + c.args.counts.now.inputs + length before = omega (arith, c.loop.invariant, length-map c.loop.latches.items as_latch) in
    let all : map as_latch c.push.new.self.items ≡ before ++ own ∷ [] = ap (map as_latch) c.in_ok-push.ensures.items ∙ map_push as_latch c.loop.latches.items c.in_ok-latch.latch in
    let long : length c.push.new.self.items ≡ length c.loop.latches.items + 1 = ap length c.in_ok-push.ensures.items ∙ length-append c.loop.latches.items (c.in_ok-latch.latch ∷ []) in (
      omega (arith, c.loop.invariant.0),
      omega (arith, long, c.loop.invariant.1),
      rw all (read-more (binary_latch_in (as_counts c.args.counts.now)) c.args.end c.args.counts.now.latches c.loop.counter before c.args.text.now c.loop.rest.now
          c.in_ok-line.line.now c.in_ok-line.behind.now own c.loop.invariant.2 (search rules) c.requires c.in_ok-line.ensures.ok
          (binary_latch_in-variable _ before _ _ _ variable ∙ c.in_ok-latch.ensures)),
    )
