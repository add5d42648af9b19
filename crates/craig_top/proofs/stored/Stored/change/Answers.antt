use Rattle.std.proofs.Common.{subst, arith}
use Rattle.craig_top.specs.Stored.{IsAdmitted}
use Rattle.craig_top.proofs.RisingCutsLemmas.{chosen-admitted, chosen-all, rising-admitted}
use Rattle.craig_top.proofs.StoredLemmas.{none_accepted}
use Rattle.craig_top.proofs.VerdictLemmas.{limit-admitted}
use Rattle.craig_top.proofs.stored.Stored.change.Goals as goal

pub divide-requires-clause-none : goal.divide-requires-clause-none
divide-requires-clause-none c = none_accepted c.args.self.now.sides.parts c.args.self.now.names c.args.self.now.solver.accepted c.in-Parts.count (subst (IsAdmitted c.args.self.now) c.in-Parts.is c.requires.admitted)

pub returns-in-Cuts-All-clause-kept : goal.returns-in-Cuts-All-clause-kept
returns-in-Cuts-All-clause-kept c = record { together = c.requires.kept.together; chosen = chosen-all c.args.self.now.sides.parts; limited = c.requires.kept.limited; greatest = c.requires.kept.greatest }

pub returns-in-Limit-clause-kept : goal.returns-in-Limit-clause-kept
returns-in-Limit-clause-kept c = record {
  together = c.requires.kept.together;
  chosen = c.requires.kept.chosen;
  limited = limit-admitted c.args.self.now.sides.parts _ _ (subst (IsAdmitted c.args.self.now) c.in-Limit.is c.requires.admitted);
  greatest = c.requires.kept.greatest;
}

pub chosen_cuts-requires : goal.chosen_cuts-requires
chosen_cuts-requires c = rising-admitted c.args.self.now.sides.parts _ _ _ _ _ c.in-Cuts-Chosen.is c.in-Cuts-Chosen.field-0-is c.as_slice-in-Cuts-Chosen.ensures c.requires.admitted (omega (arith, c.parts.ensures.value))

pub returns-clause-kept : goal.returns-clause-kept
returns-clause-kept c = record {
  together = c.requires.kept.together;
  chosen = chosen-admitted c.args.self.now.sides.parts _ _ _ _ _ _ c.in-Cuts-Chosen.is c.in-Cuts-Chosen.field-0-is c.as_slice-in-Cuts-Chosen.ensures c.requires.admitted c.requires.as_read c.in_ok-chosen_cuts-in-Cuts-Chosen.ensures;
  limited = c.requires.kept.limited;
  greatest = c.requires.kept.greatest;
}
