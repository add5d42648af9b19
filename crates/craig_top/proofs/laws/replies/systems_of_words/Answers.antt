use Rattle.std.proofs.Common.{refl, Some}
use Rattle.craig_spec.specs.PartialInterpolant.{A, AB, B}
use Rattle.craig_aiger.specs.declared.family.Family.TheVariants.{McMillan, Pudlak, Inverse}
use Rattle.craig_top.proofs.laws.replies.systems_of_words.Goals as goal

pub returns-clause-all : goal.returns-clause-all
returns-clause-all c = λ marks. (
  refl,
  (record { family = Some McMillan; marks = λ x. B }, refl, refl, λ x. refl),
  (record { family = Some Pudlak; marks = λ x. AB }, refl, refl, λ x. refl),
  (record { family = Some Inverse; marks = λ x. A }, refl, refl, λ x. refl),
)
