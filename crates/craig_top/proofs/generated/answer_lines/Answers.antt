use Rattle.std.proofs.Common.{◌∙◌, ◌++◌, [], ◌∷◌, sym, ap}
use Rattle.craig_top.specs.GivenState.{State, next}
use Rattle.craig_top.proofs.GeneratedRunLemmas.{answered_more, last_answered}
use Rattle.craig_top.proofs.TranscriptLemmas.{after-append}
use Rattle.craig_top.proofs.generated.answer_lines.Goals as goal

pub loop-line-preserved-in_ok-answer : goal.loop-line-preserved-in_ok-answer
loop-line-preserved-in_ok-answer c =
    let reply = c.in_ok-answer.ensures.reply in
    let done = c.loop-line.invariant.answered in
    record {
      answered = done ++ c.in-Some.line ∷ [];
      ready = answered_more c.in-Some.line c.args.lines.now.ready done c.loop-line.lines.ready c.next.new.self.ready c.loop-line.invariant.ready c.in-Some.ensures.some.0;
      session = c.in_ok-answer.ensures.state ∙ ap (λ (state : State). next state c.in-Some.line) c.loop-line.invariant.session ∙ sym (after-append c.args.session.now.state done (c.in-Some.line ∷ []));
      reply = last_answered c.args.session.now.state c.loop-line.session.state c.in-Some.line done reply.0 _ _ c.loop-line.invariant.session reply.1 reply.2 c.clear.ensures.items;
    }

pub loop-line-preserved : goal.loop-line-preserved
loop-line-preserved c =
    let reply = c.in_ok-answer.ensures.reply in
    let done = c.loop-line.invariant.answered in
    record {
      answered = done ++ c.in-Some.line ∷ [];
      ready = answered_more c.in-Some.line c.args.lines.now.ready done c.loop-line.lines.ready c.next.new.self.ready c.loop-line.invariant.ready c.in-Some.ensures.some.0;
      session = c.in_ok-answer.ensures.state ∙ ap (λ (state : State). next state c.in-Some.line) c.loop-line.invariant.session ∙ sym (after-append c.args.session.now.state done (c.in-Some.line ∷ []));
      reply = last_answered c.args.session.now.state c.loop-line.session.state c.in-Some.line done reply.0 _ _ c.loop-line.invariant.session reply.1 reply.2 c.clear.ensures.items;
    }
