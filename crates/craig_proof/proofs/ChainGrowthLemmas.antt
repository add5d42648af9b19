-- Chains over a look-up: what they name, and how they grow.
use Rattle.std.proofs.Common.{◌≡◌, ◌⊎◌, inl, inr, ℕ, suc, zero, true, List, [], ◌∷◌, ◌++◌, map, Contains, Option, Some, sym, subst, arith}
use Rattle.std.proofs.lemmas.List.{map-append}
use Rattle.craig_spec.proofs.ToldLemmas.{IsChain-given}
use Rattle.craig_spec.proofs.MemberLemmas.{Contains-front, Contains-later}
use Rattle.craig_spec.proofs.LiteralLemmas.{negation_twice}
use Rattle.craig_spec.proofs.ClauseLemmas.{SameLiterals-refl, occurs_in_clause-find, occurs_in_clause-member}
use Rattle.craig_spec.specs.Literal.{Literal, Clause, negation}
use Rattle.craig_spec.specs.Occurs.{occurs_in_clause}
use Rattle.craig_spec.specs.Chain.{ChainStep, Derived, antecedents, SameLiterals, IsResolvent, IsChain, ChainOk}
use Rattle.craig_base.specs.Clauses.{IsTautology}
use Rattle.craig_proof.specs.declared.step.Step.{Step}
use Rattle.craig_proof.specs.Tracer.{chain_of}
use Rattle.craig_proof.specs.Covers.{GivesSome}
use Rattle.craig_proof.proofs.ChainLemmas.{IsResolvent-same}

abbrev named : List ChainStep → List ℕ
named rest = map (λ s. s.antecedent) rest

-- one id more in front
GivesSome-later : (f : ℕ → Option Clause) (x : ℕ) (ids : List ℕ) (P : Clause → Type 0) → GivesSome f ids P → GivesSome f (x ∷ ids) P
GivesSome-later f x ids P g = record { id = g.id; named = Contains-later x ids g.id g.named; clause = g.clause; given = g.given; holds = g.holds }

GivesSome-first : (f : ℕ → Option Clause) (x : ℕ) (ids : List ℕ) (P : Clause → Type 0) (c : Clause) → f x ≡ Some c → P c → GivesSome f (x ∷ ids) P
GivesSome-first f x ids P c is h = record { id = x; named = Contains-front x ids; clause = c; given = is; holds = h }

-- a literal of the resolvent comes from one of the two clauses
literal-step : (f : ℕ → Option Clause) (x : ℕ) (ids : List ℕ) (p : Literal) (c d r : Clause) (l : Literal) → f x ≡ Some d → IsResolvent p c d r → (Contains r l) ⊎ (GivesSome f ids (λ e. Contains e l)) → (Contains c l) ⊎ (GivesSome f (x ∷ ids) (λ e. Contains e l))
literal-step f x ids p c d r l is resolved (inr later) = inr (GivesSome-later f x ids (λ e. Contains e l) later)
literal-step f x ids p c d r l is resolved (inl here) =
    elim ((resolved.literals l).0 here) [
      | inl first ↦ inl first.0
      | inr second ↦ inr (GivesSome-first f x ids (λ e. Contains e l) d is second.0)
    ]

chain-literal : (f : ℕ → Option Clause) (c : Clause) (rest : List ChainStep) (last : Clause) (l : Literal) → IsChain f c rest last → Contains last l → (Contains c l) ⊎ (GivesSome f (named rest) (λ e. Contains e l))
chain-literal f c [] last l chain here = inl ((chain l).1 here)
chain-literal f c (s ∷ rest) last l (d, r, is, resolved, more) here =
    literal-step f s.antecedent (named rest) s.pivot c d r l is resolved (chain-literal f r rest last l more here)

first-literal : (f : ℕ → Option Clause) (x : ℕ) (ids : List ℕ) (c : Clause) (l : Literal) → f x ≡ Some c → (Contains c l) ⊎ (GivesSome f ids (λ e. Contains e l)) → GivesSome f (x ∷ ids) (λ e. Contains e l)
first-literal f x ids c l is (inl here) = GivesSome-first f x ids (λ e. Contains e l) c is here
first-literal f x ids c l is (inr later) = GivesSome-later f x ids (λ e. Contains e l) later

-- each literal of a chain's clause is one of an antecedent's clause
pub ChainOk-literal : (f : ℕ → Option Clause) (literals : Clause) (first : ℕ) (rest : List ChainStep) → ChainOk f literals first rest → (l : Literal) → Contains literals l → GivesSome f (antecedents (Derived first rest)) (λ c. Contains c l)
ChainOk-literal f literals first rest chain l here =
    first-literal f first (named rest) chain.start l chain.start_is (chain-literal f chain.start rest literals l chain.chain here)

-- so each of its variables occurs in one
pub ChainOk-variable : (f : ℕ → Option Clause) (literals : Clause) (first : ℕ) (rest : List ChainStep) → ChainOk f literals first rest → (x : ℕ) → occurs_in_clause x literals ≡ true → GivesSome f (antecedents (Derived first rest)) (λ c. occurs_in_clause x c ≡ true)
ChainOk-variable f literals first rest chain x h =
    let m = occurs_in_clause-find x literals h in
    let g = ChainOk-literal f literals first rest chain m.0 m.1 in
    record { id = g.id; named = g.named; clause = g.clause; given = g.given; holds = occurs_in_clause-member x g.clause m.0 g.holds m.2 }

pub ChainOk-given : (f : ℕ → Option Clause) (literals : Clause) (first : ℕ) (rest : List ChainStep) → ChainOk f literals first rest → (x : ℕ) → Contains (antecedents (Derived first rest)) x → (c : Clause) × (f x ≡ Some c)
ChainOk-given f literals first rest chain x (zero, within, at) = (chain.start, subst (λ (y : ℕ). f y ≡ Some chain.start) at chain.start_is)
ChainOk-given f literals first rest chain x (suc k, within, at) = IsChain-given f chain.start rest literals x chain.chain (k, omega (arith, within), at)

not_tautology-step : (p : Literal) (c d r : Clause) → IsResolvent p c d r → ¬ IsTautology c → ¬ IsTautology d → ¬ IsTautology r
not_tautology-step p c d r resolved c_not d_not (l, here, there) =
    elim ((resolved.literals l).0 here) [
      | inl first ↦ elim ((resolved.literals (negation l)).0 there) [
        | inl both ↦ c_not (l, first.0, both.0)
        | inr across ↦ first.1 (resolved.no_other l first.0 across.0)
      ]
      | inr second ↦ elim ((resolved.literals (negation l)).0 there) [
        | inl across ↦ across.1 (resolved.no_other (negation l) across.0 (subst (Contains d) (sym (negation_twice l)) second.0))
        | inr both ↦ d_not (l, second.0, both.0)
      ]
    ]

chain-not_tautology : (f : ℕ → Option Clause) (c : Clause) (rest : List ChainStep) (last : Clause) → IsChain f c rest last → ((x : ℕ) (d : Clause) → Contains (named rest) x → f x ≡ Some d → ¬ IsTautology d) → ¬ IsTautology c → ¬ IsTautology last
chain-not_tautology f c [] last chain known c_not = λ (l, here, there). c_not (l, (chain l).1 here, (chain (negation l)).1 there)
chain-not_tautology f c (s ∷ rest) last (d, r, is, resolved, more) known c_not =
    chain-not_tautology f r rest last more (λ x e here. known x e (Contains-later s.antecedent (named rest) x here)) (not_tautology-step s.pivot c d r resolved c_not (known s.antecedent d (Contains-front s.antecedent (named rest)) is))

pub ChainOk-not_tautology : (f : ℕ → Option Clause) (literals : Clause) (first : ℕ) (rest : List ChainStep) → ChainOk f literals first rest → ((x : ℕ) (c : Clause) → Contains (antecedents (Derived first rest)) x → f x ≡ Some c → ¬ IsTautology c) → ¬ IsTautology literals
ChainOk-not_tautology f literals first rest chain known =
    chain-not_tautology f chain.start rest literals chain.chain (λ x c here. known x c (Contains-later first (named rest) x here)) (known first chain.start (Contains-front first (named rest)) chain.start_is)

-- a chain of no step
pub ChainOk-start : (f : ℕ → Option Clause) (c : Clause) (first : ℕ) → f first ≡ Some c → ChainOk f c first []
ChainOk-start f c first is = record { start = c; start_is = is; chain = SameLiterals-refl c }

-- one step more
IsChain-push : (f : ℕ → Option Clause) (c : Clause) (rest : List ChainStep) (mid d last : Clause) (s : ChainStep) → IsChain f c rest mid → f s.antecedent ≡ Some d → IsResolvent s.pivot mid d last → IsChain f c (rest ++ s ∷ []) last
IsChain-push f c [] mid d last s chain is resolved =
    (d, last, is, IsResolvent-same s.pivot mid c d d last (λ l. ((chain l).1, (chain l).0)) (SameLiterals-refl d) resolved, SameLiterals-refl last)
IsChain-push f c (q ∷ rest) mid d last s (e, r, found, joined, more) is resolved = (e, r, found, joined, IsChain-push f r rest mid d last s more is resolved)

pub ChainOk-push : (f : ℕ → Option Clause) (literals : Clause) (first : ℕ) (rest : List Step) (s : Step) (d resolvent : Clause) → ChainOk f literals first (chain_of rest) → f s.antecedent.0 ≡ Some d → IsResolvent s.pivot literals d resolvent → ChainOk f resolvent first (chain_of (rest ++ s ∷ []))
ChainOk-push f literals first rest s d resolvent chain is resolved =
    let more : chain_of (rest ++ s ∷ []) ≡ chain_of rest ++ record { pivot = s.pivot; antecedent = s.antecedent.0 } ∷ [] = map-append (λ (q : Step). record { pivot = q.pivot; antecedent = q.antecedent.0 }) rest (s ∷ []) in
    record {
      start = chain.start;
      start_is = chain.start_is;
      chain = subst (λ (steps : List ChainStep). IsChain f chain.start steps resolvent) (sym more) (IsChain-push f chain.start (chain_of rest) literals d resolvent (record { pivot = s.pivot; antecedent = s.antecedent.0 }) chain.chain is resolved);
    }

-- the same literals in another order
IsChain-last : (f : ℕ → Option Clause) (c : Clause) (rest : List ChainStep) (last other : Clause) → SameLiterals last other → IsChain f c rest last → IsChain f c rest other
IsChain-last f c [] last other same chain = λ l. (λ here. (same l).0 ((chain l).0 here), λ here. (chain l).1 ((same l).1 here))
IsChain-last f c (s ∷ rest) last other same (d, r, is, resolved, more) = (d, r, is, resolved, IsChain-last f r rest last other same more)

pub ChainOk-order : (f : ℕ → Option Clause) (literals other : Clause) (first : ℕ) (rest : List ChainStep) → ChainOk f literals first rest → SameLiterals literals other → ChainOk f other first rest
ChainOk-order f literals other first rest chain same = record { start = chain.start; start_is = chain.start_is; chain = IsChain-last f chain.start rest literals other same chain.chain }
