use Rattle.std.proofs.Common.{◌∙◌}
use Rattle.craig_top.proofs.AsReadLemmas.{as_read}
use Rattle.craig_top.proofs.StoredLemmas.{admitted-stored, read-admitted, read-refused}
use Rattle.craig_top.proofs.stored.Stored.read.Goals as goal

pub returns-in-Ok-clause-admitted : goal.returns-in-Ok-clause-admitted
returns-in-Ok-clause-admitted c =
    admitted-stored c.args.self.now.sides.parts _ c.args.self.now.names c.args.self.now.solver.accepted _ _ c.in_ok-command.command _ c.parts.ensures.value c.accepted.ensures.value c.is_empty.ensures c.admit.ensures ∙ c.in-Ok.is

pub returns-in-Ok-clause-reading : goal.returns-in-Ok-clause-reading
returns-in-Ok-clause-reading c =
    read-admitted c.args.self.now.sides.parts _ c.args.line.now c.in_ok-command.command c.in_ok-command.ensures.read
    (admitted-stored c.args.self.now.sides.parts _ c.args.self.now.names c.args.self.now.solver.accepted _ _ c.in_ok-command.command _ c.parts.ensures.value c.accepted.ensures.value c.is_empty.ensures c.admit.ensures ∙ c.in-Ok.is)

pub returns-in-Ok-clause-as_read : goal.returns-in-Ok-clause-as_read
returns-in-Ok-clause-as_read c =
    as_read c.args.self.now.sides.parts _ c.args.line.now c.in_ok-command.command
    (read-admitted c.args.self.now.sides.parts _ c.args.line.now c.in_ok-command.command c.in_ok-command.ensures.read
    (admitted-stored c.args.self.now.sides.parts _ c.args.self.now.names c.args.self.now.solver.accepted _ _ c.in_ok-command.command _ c.parts.ensures.value c.accepted.ensures.value c.is_empty.ensures c.admit.ensures ∙ c.in-Ok.is))

pub returns-in-Err-clause-reading : goal.returns-in-Err-clause-reading
returns-in-Err-clause-reading c =
    read-refused c.args.self.now.sides.parts _ c.args.line.now c.in_ok-command.command c.in-Err.refusal c.in_ok-command.ensures.read
    (admitted-stored c.args.self.now.sides.parts _ c.args.self.now.names c.args.self.now.solver.accepted _ _ c.in_ok-command.command _ c.parts.ensures.value c.accepted.ensures.value c.is_empty.ensures c.admit.ensures ∙ c.in-Err.is)
