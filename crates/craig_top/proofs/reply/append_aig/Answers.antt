use Rattle.craig_aiger.specs.BinaryText.{aig_text}
use Rattle.craig_top.proofs.ReplyLemmas.{bytes-appended}
use Rattle.craig_top.proofs.reply.append_aig.Goals as goal

pub returns-clause-text : goal.returns-clause-text
returns-clause-text c =
    bytes-appended c.write_aig.result (aig_text c.args.circuit.now) c.args.out.now.items _ _ c.size_of.result c.size_of.ensures.value c.in_ok-append_size.ensures.text c.write_aig.ensures.text
