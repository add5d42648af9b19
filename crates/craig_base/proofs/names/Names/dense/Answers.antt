use Rattle.craig_base.proofs.NamesLemmas.{AreNames-with_name}
use Rattle.craig_base.proofs.names.Names.dense.Goals as goal

pub invariant_of-self-2 : goal.invariant_of-self-2
invariant_of-self-2 c =
    rw c.in_ok-place.ensures.keys (AreNames-with_name c.self.inside.table.keys c.args.name c.self.invariant (c.requires.low, c.requires.high))

pub returns-clause-are_names : goal.returns-clause-are_names
returns-clause-are_names c =
    rw c.in_ok-place.ensures.keys (AreNames-with_name c.self.inside.table.keys c.args.name c.self.invariant (c.requires.low, c.requires.high))
