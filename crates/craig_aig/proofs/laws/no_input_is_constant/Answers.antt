use Rattle.craig_aig.proofs.ConstantLemmas.{constant_place, constant_by_value}
use Rattle.craig_aig.proofs.laws.no_input_is_constant.Goals as goal

pub returns : goal.returns
returns c = record { place = constant_place; edge = constant_by_value }
