use Rattle.craig_top.proofs.DrawnStepsLemmas.{clash_only_on, follows_from, has_first, has_no_other, has_second}
use Rattle.craig_top.proofs.laws.refutations.resolvents.Goals as goal

pub returns-clause-clash : goal.returns-clause-clash
returns-clause-clash c = clash_only_on

pub returns-clause-first : goal.returns-clause-first
returns-clause-first c = has_first

pub returns-clause-second : goal.returns-clause-second
returns-clause-second c = has_second

pub returns-clause-no_other : goal.returns-clause-no_other
returns-clause-no_other c = has_no_other

pub returns-clause-follows : goal.returns-clause-follows
returns-clause-follows c = follows_from
