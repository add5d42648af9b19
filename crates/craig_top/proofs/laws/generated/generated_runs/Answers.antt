use Rattle.craig_top.proofs.GeneratedStateLemmas.{generated_ends, generated_lines, generated_reply}
use Rattle.craig_top.proofs.laws.generated.generated_runs.Goals as goal

pub returns-clause-lines : goal.returns-clause-lines
returns-clause-lines c = λ n few.
    generated_lines n (record {
      no_newline = λ d here. c.written_commands.ensures.no_newline d (c.generated_scripts.ensures.writable n d few here);
      read = λ d here. c.generated_scripts.ensures.read n d few here;
      first = c.generated_scripts.ensures.first n few;
      later = λ any d here. c.generated_scripts.ensures.later n any d few here;
    })

pub returns-clause-ended : goal.returns-clause-ended
returns-clause-ended c = generated_ends

pub returns-clause-reply : goal.returns-clause-reply
returns-clause-reply c = λ settings n text few.
    generated_reply settings n text (record {
      no_newline = λ d here. c.written_commands.ensures.no_newline d (c.generated_scripts.ensures.writable n d few here);
      read = λ d here. c.generated_scripts.ensures.read n d few here;
      first = c.generated_scripts.ensures.first n few;
      later = λ any d here. c.generated_scripts.ensures.later n any d few here;
    })
