-- Two tracers that are told the same go on agreeing.
use Rattle.std.proofs.Common.{◌≡◌, Bool, false, Option, Some, None, refl, ap, sym, subst, ◌∙◌}
use Rattle.std.specs.Bool.{if◌then◌else◌}
use Rattle.std.specs.Option.{ForSome, option_map, option_or}
use Rattle.craig_spec.specs.Chain.{Told, ToldStep, nothing_told, with_step}
use Rattle.craig_proof.specs.Pair.{Agree}
use Rattle.craig_proof.specs.Tracer.{Appends}

-- what is known of the pair's meaning is known of the first's
pub first_meets : (P : Told → Type 0) (a b : Option Told) (d : Bool) → d ≡ false → ForSome (if d then option_map (λ _. nothing_told) (option_or a b) else option_or a b) P → ForSome a P
first_meets P a b d e h t is = h t (rw (e, is) refl)

second_meets-alive : (P : Told → Type 0) (a b : Option Told) → Agree a b → ForSome (option_or a b) P → ForSome b P
second_meets-alive P None b agree h u is = h u is
second_meets-alive P (Some t) b agree h u is = subst P (agree.same t u refl is) (h t refl)

-- and of the second's
pub second_meets : (P : Told → Type 0) (a b : Option Told) (d : Bool) → d ≡ false → Agree a b → ForSome (if d then option_map (λ _. nothing_told) (option_or a b) else option_or a b) P → ForSome b P
second_meets P a b d e agree h = second_meets-alive P a b agree (rw e at h)

-- one id less in both
pub Agree-forgotten : (a a' b b' : Option Told) (f : Told → Told) → Agree a b → a' ≡ option_map f a → b' ≡ option_map f b → Agree a' b'
Agree-forgotten None a' b b' f agree first second = record { same = λ t u is is'. absurd (cc) }
Agree-forgotten (Some t) a' None b' f agree first second = record { same = λ v u is is'. absurd (cc) }
Agree-forgotten (Some t) a' (Some u) b' f agree first second = record {
  same = λ v w is is'.
      let same : t ≡ u = agree.same t u refl refl in
      let v_is : v ≡ f t = cc in
      let w_is : w ≡ f u = cc in
      v_is ∙ ap f same ∙ sym w_is;
}

-- one step more of both
pub Agree-appended : (a a' b b' : Option Told) (s : ToldStep) → Agree a b → Appends a a' s → Appends b b' s → Agree a' b'
Agree-appended a a' b b' s agree first second = Agree-forgotten a a' b b' (λ t. with_step t s) agree first second
