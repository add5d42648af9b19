use Rattle.craig_top.proofs.GeneratedRunLemmas.{all_written, command_at}
use Rattle.craig_top.proofs.generated.script.Goals as goal

pub write_command-requires : goal.write_command-requires
write_command-requires c =
    c.generated_scripts.ensures.writable c.args.steps c.command-item.result c.requires.few
    (command_at c.args.steps c.as_slice-command-items.result.now c.loop-command.command-index c.command-item.result c.loop-command.invariant.commands c.loop-command-test.true c.command-item.is)

pub returns : goal.returns
returns c =
    all_written c.args.steps c.loop-command.text.items c.loop-command.command-index c.as_slice-command-items.result.now c.loop-command.invariant.written c.loop-command.invariant.commands
    c.loop-command-test.false
