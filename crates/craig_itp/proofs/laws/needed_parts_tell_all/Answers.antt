use Rattle.std.proofs.Common.{Some, refl}
use Rattle.craig_spec.proofs.ToldLemmas.{IsNeeded-root}
use Rattle.craig_itp.proofs.InterpolationLemmas.{part_is_noted}
use Rattle.craig_itp.proofs.NeededPartLemmas.{partial_values-needed}
use Rattle.craig_itp.proofs.WalkLemmas.{AreInterpolants-whole, IsInterpolant-whole}
use Rattle.craig_itp.proofs.laws.needed_parts_tell_all.Goals as goal

pub returns : goal.returns
returns c = record {
  ends = λ t root part told is sides here noted. record {
    told = c.needed_part_stands.ensures.told t (record { greatest = Some root; steps = part }) root told is refl;
    last = c.needed_part_stands.ensures.root t part root told here is;
    noted = part_is_noted sides t.steps part root (λ s found. c.needed_part_stands.ensures.steps t.steps part root s is found) noted;
  };
  one = λ t root part told is sides cut marks nodes e h. IsInterpolant-whole sides cut marks t.steps part root nodes e (λ l s. partial_values-needed l s t told root part is root (IsNeeded-root t.steps root)) h;
  outputs = λ t root part told is sides marks nodes cuts edges h. AreInterpolants-whole sides marks t.steps part root nodes cuts edges (λ l s. partial_values-needed l s t told root part is root (IsNeeded-root t.steps root)) h;
}
