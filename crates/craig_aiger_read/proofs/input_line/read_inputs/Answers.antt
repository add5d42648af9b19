use Rattle.std.proofs.Common.{◌≡◌, ◌∷◌, ◌++◌, [], drop, ◌∙◌, ap, rules}
use Rattle.std.proofs.lemmas.Result.{IfOk-from_err, err_from_is_err_and}
use Rattle.craig_spec.specs.AigerReading.{input_in}
use Rattle.craig_aiger_read.specs.ReadViews.{as_counts, behind_constant}
use Rattle.craig_aiger_read.proofs.FaultLemmas.{line_error, memory_error, truncated_error}
use Rattle.craig_aiger_read.proofs.ReadLinesLemmas.{read-fault, read-more, read-truncated}
use Rattle.craig_aiger_read.proofs.VariablesLemmas.{constant-first, input_in-variables, insert-new}
use Rattle.craig_aiger_read.proofs.input_line.read_inputs.Goals as goal

pub returns-in_err-insert-clause-read : goal.returns-in_err-insert-clause-read
returns-in_err-insert-clause-read c = memory_error _ _ _ _ c.from_residual.ensures.1

pub returns-in_err-insert-clause-shorter : goal.returns-in_err-insert-clause-shorter
returns-in_err-insert-clause-shorter c = IfOk-from_err _ _ c.from_residual.ensures.0

pub returns-in_err-line-clause-read : goal.returns-in_err-line-clause-read
returns-in_err-line-clause-read c =
    let p = err_from_is_err_and c.from_residual-in_err-line.result c.from_residual-in_err-line.ensures.1 in
    truncated_error _ c.args.end _ _ p.0 _ p.1 p.2 c.in_err-line.ensures.err.0
    (ap behind_constant (read-truncated (input_in (as_counts c.args.counts.now)) c.args.end c.args.counts.now.inputs c.loop.counter (drop 1 c.loop.variables.keys) c.args.text.now c.loop.rest.now
    c.loop.invariant.1 (search rules) c.in_err-line.ensures.err.1))

pub returns-in_err-line-clause-shorter : goal.returns-in_err-line-clause-shorter
returns-in_err-line-clause-shorter c = IfOk-from_err _ _ c.from_residual-in_err-line.ensures.0

pub returns-in_err-variable-clause-read : goal.returns-in_err-variable-clause-read
returns-in_err-variable-clause-read c =
    let p = err_from_is_err_and c.from_residual-in_err-variable.result c.from_residual-in_err-variable.ensures.1 in
    let variables = c.loop.variables.keys in
    line_error _ _ _ _ p.0 _ p.1 p.2 c.in_err-variable.ensures.read
    (λ f e. ap behind_constant (read-fault (input_in (as_counts c.args.counts.now)) c.args.end c.args.counts.now.inputs c.loop.counter (drop 1 variables) c.args.text.now c.loop.rest.now
    c.in_ok-line.line.now c.in_ok-line.behind.now f c.loop.invariant.1 (search rules) c.requires c.in_ok-line.ensures.ok
    (input_in-variables _ variables _ _ c.loop.invariant.0 ∙ e)))

pub returns-in_err-variable-clause-shorter : goal.returns-in_err-variable-clause-shorter
returns-in_err-variable-clause-shorter c = IfOk-from_err _ _ c.from_residual-in_err-variable.ensures.0

pub returns-in_err-insert-2-clause-read : goal.returns-in_err-insert-2-clause-read
returns-in_err-insert-2-clause-read c = memory_error _ _ _ _ c.from_residual-in_err-insert-2.ensures.1

pub returns-in_err-insert-2-clause-shorter : goal.returns-in_err-insert-2-clause-shorter
returns-in_err-insert-2-clause-shorter c = IfOk-from_err _ _ c.from_residual-in_err-insert-2.ensures.0

pub loop-preserved : goal.loop-preserved
loop-preserved c =
    let variables = c.loop.variables.keys in
    let found = c.in_ok-variable.ensures in
    let v = c.in_ok-variable.variable in
    let pushed : c.insert-in-loop.new.self.keys ≡ variables ++ v ∷ [] = c.in_ok-insert-2.ensures.keys ∙ insert-new variables v c.in_ok-variable.ensures.new in
    let front = constant-first variables c.insert-in-loop.new.self.keys v c.loop.invariant.0 pushed in (
      front.0,
      rw (front.1) (read-more (input_in (as_counts c.args.counts.now)) c.args.end c.args.counts.now.inputs c.loop.counter (drop 1 variables) c.args.text.now c.loop.rest.now
          c.in_ok-line.line.now c.in_ok-line.behind.now v c.loop.invariant.1 (search rules) c.requires c.in_ok-line.ensures.ok
          (input_in-variables _ variables _ _ c.loop.invariant.0 ∙ c.in_ok-variable.ensures.read)),
    )
