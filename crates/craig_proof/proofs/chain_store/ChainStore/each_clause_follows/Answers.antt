use Rattle.craig_proof.specs.StoredSteps.{told_of}
use Rattle.craig_proof.proofs.FollowsLemmas.{AllFollow-told}
use Rattle.craig_proof.proofs.chain_store.ChainStore.each_clause_follows.Goals as goal

pub returns-clause-told : goal.returns-clause-told
returns-clause-told c = rw (← c.self.view_is) c.self.invariant.told

pub returns-clause-follows : goal.returns-clause-follows
returns-clause-follows c =
    rw (← c.self.view_is) (AllFollow-told (told_of c.self.inside.greatest c.self.inside.steps) c.self.invariant.told)
