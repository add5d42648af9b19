use Rattle.std.proofs.Common.{ap, ◌∙◌, refl, Some}
use Rattle.std.proofs.lemmas.Option.{slice_get-get_or}
use Rattle.std.proofs.lemmas.Map.Lookups.{exact_unsigned}
use Rattle.craig_aiger.proofs.TableLemmas.{found, next-fits, next-small, none-small}
use Rattle.craig_aiger.proofs.script_inputs.input_number.Goals as goal

pub overflow_add-result : goal.overflow_add-result
overflow_add-result c = next-fits _ _ c.in-Ok.ensures.bound c.requires.bound

pub returns-in-Ok-clause-number : goal.returns-in-Ok-clause-number
returns-in-Ok-clause-number c = (c.in-Ok.place, refl, slice_get-get_or c.args.inputs.now c.in-Ok.place 0 c.in-Ok.ensures.bound ∙ ap Some (exact_unsigned _ _ (c.in-Ok.ensures.ok 0)))

pub returns-in-Ok-clause-bound : goal.returns-in-Ok-clause-bound
returns-in-Ok-clause-bound c = next-small _ _ c.in-Ok.ensures.bound c.requires.bound

pub returns-in-Err-clause-number : goal.returns-in-Err-clause-number
returns-in-Err-clause-number c = absurd (found c.args.inputs.now c.args.name _ c.requires.rising c.requires.there c.in-Err.ensures.position)

pub returns-in-Err-clause-bound : goal.returns-in-Err-clause-bound
returns-in-Err-clause-bound c = none-small
