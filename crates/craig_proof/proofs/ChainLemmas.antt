-- Chains over one look-up and over another.
use Rattle.std.proofs.Common.{◌≡◌, ℕ, suc, List, [], ◌∷◌, Contains, Option, map, refl, ◌∙◌, arith, inl, inr}
use Rattle.craig_spec.proofs.ClauseLemmas.{SameLiterals-refl}
use Rattle.craig_spec.specs.Literal.{Literal, Clause, negation}
use Rattle.craig_spec.specs.Chain.{ChainStep, Origin, Original, Derived, ToldStep, antecedents, clause_told, SameLiterals, GivesSame, IsResolvent, IsChain, ChainOk, StandsOn}

-- a resolvent of two clauses is one of two others with the same literals
pub IsResolvent-same : (p : Literal) (c c2 d d2 r : Clause) → SameLiterals c c2 → SameLiterals d d2 → IsResolvent p c d r → IsResolvent p c2 d2 r
IsResolvent-same p c c2 d d2 r cs ds resolved = record {
  first_has = (cs p).0 resolved.first_has;
  second_has = (ds (negation p)).0 resolved.second_has;
  no_other = λ l here there. resolved.no_other l ((cs l).1 here) ((ds (negation l)).1 there);
  literals = λ l. (
    λ h. elim ((resolved.literals l).0 h) [
      | inl first ↦ inl ((cs l).0 first.0, first.1)
      | inr second ↦ inr ((ds l).0 second.0, second.1)
    ],
    λ h. (resolved.literals l).1 (elim h [
      | inl first ↦ inl ((cs l).1 first.0, first.1)
      | inr second ↦ inr ((ds l).1 second.0, second.1)
    ]),
  );
}

module _ (f g : ℕ → Option Clause) where
  pub IsChain-same : (c c2 : Clause) (rest : List ChainStep) (last : Clause) → SameLiterals c c2 → ((x : ℕ) → Contains (map (λ s. s.antecedent) rest) x → GivesSame f g x) → IsChain f c rest last → IsChain g c2 rest last
  IsChain-same c c2 [] last cs gives h = λ l. (λ here. (h l).0 ((cs l).1 here), λ here. (cs l).0 ((h l).1 here))
  IsChain-same c c2 (s ∷ rest) last cs gives (d, r, is, resolved, more) =
      let there = gives s.antecedent (0, omega arith, refl) d is in
      (there.0, r, there.1, IsResolvent-same s.pivot c c2 d there.0 r cs there.2 resolved, IsChain-same r r rest last (SameLiterals-refl r) (λ x here. gives x (suc here.0, omega (arith, here.1), here.2)) more)

  -- a chain over the first look-up is one over the second, where it gives the same for each id that the chain names
  pub ChainOk-same : (literals : Clause) (first : ℕ) (rest : List ChainStep) → ((x : ℕ) → Contains (antecedents (Derived first rest)) x → GivesSame f g x) → ChainOk f literals first rest → ChainOk g literals first rest
  ChainOk-same literals first rest gives chain =
      let there = gives first (0, omega arith, refl) chain.start chain.start_is in
      record {
        start = there.0;
        start_is = there.1;
        chain = IsChain-same chain.start there.0 rest literals there.2 (λ x here. gives x (suc here.0, omega (arith, here.1), here.2)) chain.chain;
      }

-- a clause stands on other steps too that have the same clauses under its antecedents
pub StandsOn-same : (before after : List ToldStep) (c : Clause) (origin : Origin) → ((x : ℕ) → Contains (antecedents origin) x → clause_told after x ≡ clause_told before x) → StandsOn before c origin → StandsOn after c origin
StandsOn-same before after c (Original part) same h = h
StandsOn-same before after c (Derived first rest) same h =
    ChainOk-same (clause_told before) (clause_told after) c first rest (λ x here d is. (d, same x here ∙ is, SameLiterals-refl d)) h
