use Rattle.std.proofs.Common.{ap}
use Rattle.craig_top.specs.LastRefutation.{SessionView}
use Rattle.craig_top.proofs.GeneratedRunLemmas.{last_of_script}
use Rattle.craig_top.proofs.generated.last_reply.Goals as goal

pub returns : goal.returns
returns c =
    last_of_script c.args.settings c.args.steps c.in_ok-script.script.items c.deref.result.now _ c.new-lines.result c.feed.new.self c.new-session.result.state c.in_ok-script.ensures
    c.deref.ensures.value c.new-lines.ensures c.in_ok-feed.ensures.ok (ap (λ (v : SessionView). v.state) c.new-session.ensures) c.in_ok-answer_lines.ensures
