use Rattle.craig_aig.proofs.DependenceLemmas.{by_cone}
use Rattle.craig_aig.proofs.laws.values_by_cones.Goals as goal

pub returns : goal.returns
returns c = by_cone
