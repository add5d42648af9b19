-- What a tracer that tells its meaning told before a call.
use Rattle.std.proofs.Common.{◌≡◌, ℕ, Option, Some, None, true, false, refl, sym, ap, ◌∙◌}
use Rattle.std.specs.Option.{option_map, is_some}
use Rattle.craig_spec.specs.Chain.{Told, ToldStep, with_step, without_id}
use Rattle.craig_proof.specs.Tracer.{Appends}

-- before one more step
pub before_step : (a b : Option Told) (s : ToldStep) (x : Told) → Appends a b s → b ≡ Some x → (t : Told) × (a ≡ Some t) × (x ≡ with_step t s)
before_step None b s x appends is = absurd (cc)
before_step (Some t) b s x appends is = (t, refl, cc)

-- before an id was forgotten
pub before_forgotten : (before after : Option Told) (id : ℕ) (u : Told) → after ≡ option_map (without_id id) before → after ≡ Some u → (t : Told) × (before ≡ Some t) × (u ≡ without_id id t)
before_forgotten None after id u is at = absurd (let no : None ≡ Some u = sym is ∙ at in cc)
before_forgotten (Some t) after id u is at = (t, refl, let e : Some u ≡ Some (without_id id t) = sym at ∙ is in cc)

-- before a call of which no more is said than that it goes on telling
pub told_before : (before after : Option Told) (u : Told) → is_some after ≡ is_some before → after ≡ Some u → (t : Told) × (before ≡ Some t)
told_before None after u tells at = absurd (let no : true ≡ false = sym (ap is_some at) ∙ tells in cc)
told_before (Some t) after u tells at = (t, refl)
