use Rattle.craig_spec.specs.Cut.{with_units}
use Rattle.craig_top.proofs.StrengthLemmas.{three_by_strength}
use Rattle.craig_top.proofs.laws.replies.three_systems_by_strength.Goals as goal

pub returns : goal.returns
returns c = λ state assumptions text reply all. three_by_strength (with_units state.accepted reply.failed) state.settings reply.gives.circuit reply.gives.systems reply.gives.interpolants all
