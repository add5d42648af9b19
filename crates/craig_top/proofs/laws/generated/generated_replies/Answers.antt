use Rattle.std.proofs.Common.{refl}
use Rattle.craig_top.proofs.PutGeneratedLemmas.{all_put, begun_put, ends_generated}
use Rattle.craig_top.proofs.laws.generated.generated_replies.Goals as goal

pub returns-clause-done : goal.returns-clause-done
returns-clause-done c = λ settings n held later few.
    all_put settings n (record {
      no_newline = λ d here. c.written_commands.ensures.no_newline d (c.generated_scripts.ensures.writable n d few here);
      read = λ d here. c.generated_scripts.ensures.read n d few here;
      first = c.generated_scripts.ensures.first n few;
      later = λ any d here. c.generated_scripts.ensures.later n any d few here;
    }) held later

pub returns-clause-write_fault : goal.returns-clause-write_fault
returns-clause-write_fault c = λ settings n held later few.
    begun_put settings n (record {
      no_newline = λ d here. c.written_commands.ensures.no_newline d (c.generated_scripts.ensures.writable n d few here);
      read = λ d here. c.generated_scripts.ensures.read n d few here;
      first = c.generated_scripts.ensures.first n few;
      later = λ any d here. c.generated_scripts.ensures.later n any d few here;
    }) held later

pub returns-clause-no_memory : goal.returns-clause-no_memory
returns-clause-no_memory c = λ settings n held later few promise. let p = promise held refl in (p.0, p.2, p.1)

pub returns-clause-no_other : goal.returns-clause-no_other
returns-clause-no_other c = ends_generated
