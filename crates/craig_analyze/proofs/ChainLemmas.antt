-- A chain that grows at its end.
use Rattle.std.proofs.Common.{◌≡◌, ◌⊎◌, ◌↔◌, inl, inr, ℕ, ◌<◌, List, [], ◌∷◌, ◌++◌, length, take, Contains, Option, Some, sym, ap, subst, ◌∙◌, arith}
use Rattle.std.proofs.lemmas.List.Elements.{Contains-append_left, Contains-append_right, Contains-append_cases}
use Rattle.craig_spec.specs.Literal.{Literal, Clause, negation}
use Rattle.craig_spec.specs.Chain.{ChainStep, SameLiterals, IsResolvent, IsChain}
use Rattle.craig_spec.proofs.MemberLemmas.{Contains-cases, Contains-front, Contains-later}
use Rattle.craig_spec.proofs.LiteralLemmas.{negation_twice, same_or_not}
use Rattle.craig_spec.proofs.ClauseLemmas.{SameLiterals-refl, SameLiterals-sym}
use Rattle.craig_watch.specs.Trail.{Trail, IsFalse, AreDistinct}
use Rattle.craig_watch.specs.Held.{Forces}
use Rattle.craig_analyze.specs.Resolvent.{at_place, negated_at}
use Rattle.craig_analyze.proofs.PlaceLemmas.{false-within, same_place}

-- a resolvent of a clause is one of another with the same literals
IsResolvent-same : (p : Literal) (c c2 d r : Clause) → SameLiterals c c2 → IsResolvent p c d r → IsResolvent p c2 d r
IsResolvent-same p c c2 d r same resolved = record {
  first_has = (same p).0 resolved.first_has;
  second_has = resolved.second_has;
  no_other = λ l here there. resolved.no_other l ((same l).1 here) there;
  literals = λ l. (
    λ h. elim ((resolved.literals l).0 h) [ inl first ↦ inl ((same l).0 first.0, first.1) | inr second ↦ inr second ],
    λ h. (resolved.literals l).1 (elim h [ inl first ↦ inl ((same l).1 first.0, first.1) | inr second ↦ inr second ]),
  );
}

module _ (f : ℕ → Option Clause) where
  -- one step more
  pub IsChain-push : (c : Clause) (steps : List ChainStep) (s : ChainStep) (r d next : Clause) → IsChain f c steps r → f s.antecedent ≡ Some d → IsResolvent s.pivot r d next → IsChain f c (steps ++ s ∷ []) next
  IsChain-push c [] s r d next same is resolved = (d, next, is, IsResolvent-same s.pivot r c d next (SameLiterals-sym c r same) resolved, SameLiterals-refl next)
  IsChain-push c (q ∷ steps) s r d next (e, mid, there, resolved_first, more) is resolved = (e, mid, there, resolved_first, IsChain-push mid steps s r d next more is resolved)

  -- the same literals in another order
  pub IsChain-same : (c : Clause) (steps : List ChainStep) (r next : Clause) → IsChain f c steps r → SameLiterals r next → IsChain f c steps next
  IsChain-same c [] r next same more = λ l. (λ h. (more l).0 ((same l).0 h), λ h. (same l).1 ((more l).1 h))
  IsChain-same c (q ∷ steps) r next (e, mid, there, resolved_first, rest) more = (e, mid, there, resolved_first, IsChain-same mid steps r next rest more)

-- the literal at a place isn't false under what stands before it
pub place-not_false : (t : Trail) (place : ℕ) → AreDistinct t → place < length t → ¬ IsFalse (take place t) (at_place t place).literal
place-not_false t place apart within h =
    let at = false-within place t (at_place t place).literal h in
    let same : at.0 ≡ place = same_place t at.0 place apart at.2 within (ap (λ (l : Literal). l.var) at.3) in
    let low : at.0 < place = at.1 in
    omega arith

-- a clause with the negation of the literal at a place, whose other negations are not false before it, resolved with the reason of the literal
pub resolves-with_reason : (t : Trail) (place : ℕ) (extra old new reason : Clause) → AreDistinct t → place < length t → Forces (take place t) reason (at_place t place).literal → ((l : Literal) → Contains (extra ++ negated_at t place ∷ old) l → ¬ IsFalse (take place t) (negation l)) → ¬ Contains extra (negated_at t place) → ¬ Contains old (negated_at t place) → ((l : Literal) → Contains new l ↔ (Contains old l ⊎ (Contains reason l × IsFalse (take place t) l))) → IsResolvent (negated_at t place) (extra ++ negated_at t place ∷ old) reason (extra ++ new)
resolves-with_reason t place extra old new reason apart within forces apart_from not_extra not_old met =
    let pivot : Literal = negated_at t place in
    let lit : Literal = (at_place t place).literal in
    let back : negation pivot ≡ lit = negation_twice lit in
    record {
      first_has = Contains-append_right extra (pivot ∷ old) pivot (Contains-front pivot old);
      second_has = subst (Contains reason) (sym back) forces.has;
      no_other = λ l here there. elim (same_or_not (negation l) lit) [
        | inl same ↦ sym (negation_twice l) ∙ ap negation same
        | inr differ ↦ absurd (apart_from l here (forces.others (negation l) there differ))
      ];
      literals = λ l. (
        λ h. elim (Contains-append_cases extra new l h) [
          | inl in_extra ↦ inl (Contains-append_left extra (pivot ∷ old) l in_extra, λ e. not_extra (subst (Contains extra) e in_extra))
          | inr in_new ↦ elim ((met l).0 in_new) [
            | inl in_old ↦ inl (Contains-append_right extra (pivot ∷ old) l (Contains-later pivot old l in_old), λ e. not_old (subst (Contains old) e in_old))
            | inr in_reason ↦ inr (in_reason.0, λ e. place-not_false t place apart within (subst (IsFalse (take place t)) (e ∙ back) in_reason.1))
          ]
        ],
        λ h. elim h [
          | inl first ↦ elim (Contains-append_cases extra (pivot ∷ old) l first.0) [
            | inl in_extra ↦ Contains-append_left extra new l in_extra
            | inr behind ↦ elim (Contains-cases pivot old l behind) [
              | inl is ↦ absurd (first.1 (sym is))
              | inr in_old ↦ Contains-append_right extra new l ((met l).1 (inl in_old))
            ]
          ]
          | inr second ↦ Contains-append_right extra new l ((met l).1 (inr (second.0, forces.others l second.0 (λ e. second.1 (e ∙ sym back)))))
        ],
      );
    }
