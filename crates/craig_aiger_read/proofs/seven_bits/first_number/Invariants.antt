use Rattle.craig_aiger_read.proofs.GroupLemmas.{GroupsRead}
use Rattle.craig_aiger_read.proofs.seven_bits.first_number.Given as goal

abbrev pub invariant-loop : goal.invariant-loop
invariant-loop l = GroupsRead l.counter l.value l.weight l.bytes l.rest
