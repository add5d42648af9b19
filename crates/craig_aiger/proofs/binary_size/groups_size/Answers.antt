use Rattle.craig_aiger.proofs.GroupsLemmas.{GroupsCounted-all, GroupsCounted-more, GroupsCounted-none}
use Rattle.craig_aiger.proofs.binary_size.groups_size.Goals as goal

pub loop-rest-init : goal.loop-rest-init
loop-rest-init c = GroupsCounted-none c.args.number c.requires

pub loop-rest-preserved : goal.loop-rest-preserved
loop-rest-preserved c = GroupsCounted-more c.args.number c.loop-rest.rest c.loop-rest.size c.loop-rest.invariant c.loop-rest-test.true

pub returns-clause-value : goal.returns-clause-value
returns-clause-value c = GroupsCounted-all c.args.number c.loop-rest.rest c.loop-rest.size c.loop-rest.invariant c.loop-rest-test.false
