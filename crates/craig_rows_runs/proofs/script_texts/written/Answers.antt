use Rattle.craig_rows_runs.proofs.script_texts.written.Goals as goal

pub write_command-requires : goal.write_command-requires
write_command-requires c = c.written_commands.ensures.given c.args.line.now c.in_ok-command.command c.in_ok-command.ensures.read c.in_default.not-Nothing
