use Rattle.std.proofs.Common.{◌≡◌, take}
use Rattle.std.specs.List.{flat_map}
use Rattle.craig_script.specs.Generator.{generated}
use Rattle.craig_script.specs.Writing.{command_text}
use Rattle.craig_top.proofs.generated.script.Given as goal

-- the lines of the commands so far are written
abbrev pub invariant-loop-command : goal.invariant-loop-command
invariant-loop-command l = record {
  commands : l.command-items ≡ generated l.fn.steps;
  written : l.text.items ≡ flat_map command_text (take l.command-index (generated l.fn.steps));
}
