-- The three systems that are written side by side, by falling strength.
use Rattle.std.proofs.Common.{◌≡◌, ◌∙◌, sym, ap, refl, ℕ, List, [], ◌∷◌, length, map, slice_get, All, Some, arith}
use Rattle.std.proofs.lemmas.List.Elements.{All-head, All-tail}
use Rattle.std.proofs.lemmas.Option.{same_Some}
use Rattle.craig_spec.specs.Circuit.{Circuit}
use Rattle.craig_spec.specs.Cut.{PartClause}
use Rattle.craig_spec.specs.PartialInterpolant.{rank}
use Rattle.craig_spec.specs.Sequence.{IsSequence}
use Rattle.craig_spec.proofs.MemberLemmas.{Contains-front, Contains-later}
use Rattle.craig_script.specs.declared.setting_words.SystemWord.TheVariants as word
use Rattle.craig_top.specs.GivenState.{ScriptSettings}
use Rattle.craig_top.specs.RefutationReply.{AreByStrength, AreNoHigher, HasInterpolants, SystemLiterals}
use Rattle.craig_top.specs.ReplyContents.{AreThreeByStrength}
use Rattle.craig_top.specs.WrittenSystems.{WrittenSystem, by_strength, label_of_mark, systems_of}

-- the labels of a system that is one of the three
labels_at : (k : ℕ) (x : ℕ) (systems written : List WrittenSystem) (y w : WrittenSystem) → systems ≡ written → slice_get systems k ≡ Some y → slice_get written k ≡ Some w → rank (y.marks x) ≡ rank (w.marks x)
labels_at k x systems written y w same at is = ap (λ (v : WrittenSystem). rank (v.marks x)) (same_Some y w (sym at ∙ ap (λ vs. slice_get vs k) same ∙ is))

module _ (clauses : List PartClause) (settings : ScriptSettings) (c : Circuit) where
  ordered : (systems : List SystemLiterals) → map (λ (y : SystemLiterals). y.system) systems ≡ by_strength → All (λ (y : SystemLiterals). IsSequence clauses settings.parts settings.cuts c y.literals) systems → AreByStrength c systems → AreThreeByStrength clauses settings c systems
  ordered [] same sequences strength = absurd (omega (arith, ap length same))
  ordered (m ∷ []) same sequences strength = absurd (omega (arith, ap length same))
  ordered (m ∷ (p ∷ [])) same sequences strength = absurd (omega (arith, ap length same))
  ordered (m ∷ (p ∷ (i ∷ (y ∷ ys)))) same sequences strength = absurd (omega (arith, ap length same))
  ordered (m ∷ (p ∷ (i ∷ []))) same sequences strength =
      let Q : SystemLiterals → Type 0 = λ (y : SystemLiterals). IsSequence clauses settings.parts settings.cuts c y.literals in
      let systems : List WrittenSystem = m.system ∷ p.system ∷ i.system ∷ [] in
      let later : All Q (p ∷ i ∷ []) = All-tail Q m (p ∷ i ∷ []) sequences in
      let strong : AreNoHigher m.system.marks p.system.marks = λ x. (
      let low = labels_at 0 x systems by_strength m.system _ same refl refl in
      let high = labels_at 1 x systems by_strength p.system _ same refl refl in
      omega (arith, low, high)) in
      let weak : AreNoHigher p.system.marks i.system.marks = λ x. (
      let low = labels_at 1 x systems by_strength p.system _ same refl refl in
      let high = labels_at 2 x systems by_strength i.system _ same refl refl in
      omega (arith, low, high)) in (
        m,
        p,
        i,
        refl,
        record {
          mcmillan_sequence = All-head Q m (p ∷ i ∷ []) sequences;
          pudlak_sequence = All-head Q p (i ∷ []) later;
          inverse_sequence = All-head Q i [] (All-tail Q p (i ∷ []) later);
          strong = strength m p (Contains-front m (p ∷ i ∷ [])) (Contains-later m (p ∷ i ∷ []) p (Contains-front p (i ∷ []))) strong;
          weak = strength p i (Contains-later m (p ∷ i ∷ []) p (Contains-front p (i ∷ []))) (Contains-later m (p ∷ i ∷ []) i (Contains-later p (i ∷ []) i (Contains-front i []))) weak;
        },
      )

  -- where all systems are set
  pub three_by_strength : (systems : List SystemLiterals) → HasInterpolants clauses settings c systems → settings.system ≡ word.All → AreThreeByStrength clauses settings c systems
  three_by_strength systems has all =
      ordered systems (has.systems_are ∙ ap (λ w. systems_of w (label_of_mark settings.marks)) all) has.sequences has.strength
