use Rattle.craig_itp.proofs.PartialValuesLemmas.{MeetsRules-partial_values, MeetsRules-unique, partial_values-new, partial_values-old, partial_values-forgotten, partial_values-fewer, partial_values-reclaimed}
use Rattle.craig_itp.proofs.laws.partial_values_by_steps.Goals as goal

pub returns : goal.returns
returns c = record {
  rules = MeetsRules-partial_values;
  unique = MeetsRules-unique;
  new = partial_values-new;
  old = partial_values-old;
  forgotten = partial_values-forgotten;
  reclaimed = λ l s before after told reclaims. partial_values-reclaimed l s before after told (c.told_steps_stand.ensures.reclaimed before after told reclaims) reclaims;
  fewer = partial_values-fewer;
}
