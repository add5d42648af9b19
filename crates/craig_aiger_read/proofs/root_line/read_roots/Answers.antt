use Rattle.std.proofs.Common.{◌≡◌, ◌∷◌, ◌++◌, [], map, ◌∙◌, ap, rules}
use Rattle.std.proofs.lemmas.List.{map_push}
use Rattle.std.proofs.lemmas.Result.{err_from_is_err_and}
use Rattle.craig_spec.specs.AigerReading.{root_in}
use Rattle.craig_aiger_read.specs.ReadViews.{as_counts, as_root}
use Rattle.craig_aiger_read.proofs.FaultLemmas.{line_error, truncated_error}
use Rattle.craig_aiger_read.proofs.ReadLinesLemmas.{read-fault, read-more, read-truncated}
use Rattle.craig_aiger_read.proofs.VariablesLemmas.{root_in-is}
use Rattle.craig_aiger_read.proofs.root_line.read_roots.Goals as goal

pub returns-in_err-line-clause-read : goal.returns-in_err-line-clause-read
returns-in_err-line-clause-read c =
    let p = err_from_is_err_and c.from_residual.result c.from_residual.ensures.1 in
    truncated_error _ c.args.end _ _ p.0 _ p.1 p.2 c.in_err-line.ensures.err.0
    (read-truncated (root_in (as_counts c.args.counts.now)) c.args.end c.args.count c.loop.counter (map as_root c.loop.roots.items) c.args.text.now c.loop.rest.now
    c.loop.invariant (search rules) c.in_err-line.ensures.err.1)

pub returns-in_err-root-clause-read : goal.returns-in_err-root-clause-read
returns-in_err-root-clause-read c =
    let p = err_from_is_err_and c.from_residual-in_err-root.result c.from_residual-in_err-root.ensures.1 in
    line_error _ _ _ _ p.0 _ p.1 p.2 c.in_err-root.ensures
    (λ f e. read-fault (root_in (as_counts c.args.counts.now)) c.args.end c.args.count c.loop.counter (map as_root c.loop.roots.items) c.args.text.now c.loop.rest.now
    c.in_ok-line.line.now c.in_ok-line.behind.now f c.loop.invariant (search rules) c.requires c.in_ok-line.ensures.ok
    (root_in-is _ _ _ _ ∙ e))

pub loop-preserved : goal.loop-preserved
loop-preserved c =
    let before = map as_root c.loop.roots.items in
    let all : map as_root c.push.new.self.items ≡ before ++ as_root c.in_ok-root.root ∷ [] = ap (map as_root) c.in_ok-push.ensures.items ∙ map_push as_root c.loop.roots.items c.in_ok-root.root in
    rw all (read-more (root_in (as_counts c.args.counts.now)) c.args.end c.args.count c.loop.counter before c.args.text.now c.loop.rest.now
    c.in_ok-line.line.now c.in_ok-line.behind.now (as_root c.in_ok-root.root) c.loop.invariant (search rules) c.requires c.in_ok-line.ensures.ok
    (root_in-is _ _ _ _ ∙ c.in_ok-root.ensures))
