use Rattle.std.proofs.Common.{◌≡◌, ◌∷◌, ◌++◌, [], map, ◌∙◌, ap, rules}
use Rattle.std.proofs.lemmas.List.{map_push}
use Rattle.std.proofs.lemmas.Result.{IfOk-from_err, err_from_is_err_and}
use Rattle.craig_spec.specs.AigerReading.{LatchLine, latch_in}
use Rattle.craig_aiger_read.specs.ReadViews.{as_counts, as_latch}
use Rattle.craig_aiger_read.proofs.FaultLemmas.{line_error, memory_error, truncated_error}
use Rattle.craig_aiger_read.proofs.ReadLinesLemmas.{read-fault, read-more, read-truncated}
use Rattle.craig_aiger_read.proofs.VariablesLemmas.{insert-new, known-more, latch_in-variables}
use Rattle.craig_aiger_read.proofs.latch_line.read_latches.Goals as goal

pub returns-in_err-line-clause-read : goal.returns-in_err-line-clause-read
returns-in_err-line-clause-read c =
    let p = err_from_is_err_and c.from_residual.result c.from_residual.ensures.1 in
    truncated_error _ c.args.end _ _ p.0 _ p.1 p.2 c.in_err-line.ensures.err.0
    (read-truncated (latch_in (as_counts c.args.counts.now) c.args.variables.now.keys) c.args.end c.args.counts.now.latches c.loop.counter (map as_latch c.loop.latches.items) c.args.text.now c.loop.rest.now
    c.loop.invariant.1 (search rules) c.in_err-line.ensures.err.1)

pub returns-in_err-latch-clause-read : goal.returns-in_err-latch-clause-read
returns-in_err-latch-clause-read c =
    let p = err_from_is_err_and c.from_residual-in_err-latch.result c.from_residual-in_err-latch.ensures.1 in
    line_error _ _ _ _ p.0 _ p.1 p.2 c.in_err-latch.ensures.read
    (λ f e. read-fault (latch_in (as_counts c.args.counts.now) c.args.variables.now.keys) c.args.end c.args.counts.now.latches c.loop.counter (map as_latch c.loop.latches.items) c.args.text.now c.loop.rest.now
    c.in_ok-line.line.now c.in_ok-line.behind.now f c.loop.invariant.1 (search rules) c.requires c.in_ok-line.ensures.ok
    (latch_in-variables _ _ c.loop.variables.keys _ _ _ c.loop.invariant.0 ∙ e))

pub returns-in_err-line-clause-variables : goal.returns-in_err-line-clause-variables
returns-in_err-line-clause-variables c = IfOk-from_err _ _ c.from_residual.ensures.0

pub returns-in_err-line-clause-shorter : goal.returns-in_err-line-clause-shorter
returns-in_err-line-clause-shorter c = IfOk-from_err _ _ c.from_residual.ensures.0

pub returns-in_err-latch-clause-variables : goal.returns-in_err-latch-clause-variables
returns-in_err-latch-clause-variables c = IfOk-from_err _ _ c.from_residual-in_err-latch.ensures.0

pub returns-in_err-latch-clause-shorter : goal.returns-in_err-latch-clause-shorter
returns-in_err-latch-clause-shorter c = IfOk-from_err _ _ c.from_residual-in_err-latch.ensures.0

pub returns-in_err-insert-clause-read : goal.returns-in_err-insert-clause-read
returns-in_err-insert-clause-read c = memory_error _ _ _ _ c.from_residual-in_err-insert.ensures.1

pub returns-in_err-insert-clause-variables : goal.returns-in_err-insert-clause-variables
returns-in_err-insert-clause-variables c = IfOk-from_err _ _ c.from_residual-in_err-insert.ensures.0

pub returns-in_err-insert-clause-shorter : goal.returns-in_err-insert-clause-shorter
returns-in_err-insert-clause-shorter c = IfOk-from_err _ _ c.from_residual-in_err-insert.ensures.0

pub returns-in_err-push-clause-read : goal.returns-in_err-push-clause-read
returns-in_err-push-clause-read c = memory_error _ _ _ _ c.from_residual-in_err-push.ensures.1

pub returns-in_err-push-clause-variables : goal.returns-in_err-push-clause-variables
returns-in_err-push-clause-variables c = IfOk-from_err _ _ c.from_residual-in_err-push.ensures.0

pub returns-in_err-push-clause-shorter : goal.returns-in_err-push-clause-shorter
returns-in_err-push-clause-shorter c = IfOk-from_err _ _ c.from_residual-in_err-push.ensures.0

pub loop-preserved : goal.loop-preserved
loop-preserved c =
    let variables = c.loop.variables.keys in
    let before = map as_latch c.loop.latches.items in
    let own = as_latch c.in_ok-latch.latch in
    let all : map as_latch c.push.new.self.items ≡ before ++ own ∷ [] = ap (map as_latch) c.in_ok-push.ensures.items ∙ map_push as_latch c.loop.latches.items c.in_ok-latch.latch in
    let pushed = c.in_ok-insert.ensures.keys ∙ insert-new variables own.variable c.in_ok-latch.ensures.new in (
      rw all (known-more (λ (x : LatchLine). x.variable) c.args.variables.now.keys variables c.insert.new.self.keys before own c.loop.invariant.0 pushed),
      rw all (read-more (latch_in (as_counts c.args.counts.now) c.args.variables.now.keys) c.args.end c.args.counts.now.latches c.loop.counter before c.args.text.now c.loop.rest.now
          c.in_ok-line.line.now c.in_ok-line.behind.now own c.loop.invariant.1 (search rules) c.requires c.in_ok-line.ensures.ok
          (latch_in-variables _ _ variables _ _ _ c.loop.invariant.0 ∙ c.in_ok-latch.ensures.read)),
    )
