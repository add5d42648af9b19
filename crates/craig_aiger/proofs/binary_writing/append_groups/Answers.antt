use Rattle.std.proofs.Common.{refl}
use Rattle.craig_aiger.proofs.GroupsLemmas.{GroupsLeft-all, GroupsLeft-more, GroupsLeft-room, IsAppended-groups}
use Rattle.craig_aiger.proofs.binary_writing.append_groups.Goals as goal

pub loop-rest-init : goal.loop-rest-init
loop-rest-init c = GroupsLeft-all c.args.out.now c.args.number c.requires.small

pub push_reserved-requires : goal.push_reserved-requires
push_reserved-requires c = GroupsLeft-room c.args.out.now c.loop-rest.out c.args.number c.loop-rest.rest c.loop-rest.invariant c.requires.room

pub push_reserved-requires-2 : goal.push_reserved-requires-2
push_reserved-requires-2 c = GroupsLeft-room c.args.out.now c.loop-rest.out c.args.number c.loop-rest.rest c.loop-rest.invariant c.requires.room

pub loop-rest-preserved : goal.loop-rest-preserved
loop-rest-preserved c = GroupsLeft-more c.args.out.now c.loop-rest.out c.push_reserved.new.self c.args.number c.loop-rest.rest _ c.loop-rest.invariant c.push_reserved.ensures.items c.push_reserved.ensures.len c.push_reserved.ensures.capacity c.loop-rest-test.true refl

pub returns : goal.returns
returns c = IsAppended-groups c.args.out.now c.loop-rest.out c.push_reserved-2.new.self c.args.number c.loop-rest.rest _ c.loop-rest.invariant c.push_reserved-2.ensures.items c.push_reserved-2.ensures.len c.push_reserved-2.ensures.capacity c.loop-rest-test.false refl
