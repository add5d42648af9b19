-- What a search tells a tracer.
use Rattle.std.proofs.Common.{◌≡◌, inl, inr, ℕ, List, [], ◌∷◌, Option, Some, IsSome, refl, sym, subst, arith}
use Rattle.std.specs.Option.{option_map}
use Rattle.std.proofs.lemmas.Bool.{cases_lt}
use Rattle.std.proofs.lemmas.List.Elements.{Contains-append_left, Contains-push_cases}
use Rattle.craig_spec.specs.Literal.{Clause}
use Rattle.craig_spec.specs.Chain.{ChainOk, Told, ToldStep, with_step}
use Rattle.craig_spec.proofs.ToldLemmas.{IsUnforgotten-pushed}
use Rattle.craig_base.specs.Arena.{FlaggedClause, clause_at}
use Rattle.craig_proof.specs.Tracer.{Appends, chain_of, derived_step}
use Rattle.craig_proof.specs.declared.step.Step.{Step}
use Rattle.craig_watch.specs.Held.{HeldView, held_clause}
use Rattle.craig_search.specs.Leaves.{Leaves}
use Rattle.craig_search.specs.Tells.{IsOfSearch, Tells}
use Rattle.craig_search.specs.Searching.{TellsLearnt}
use Rattle.craig_base.proofs.LookUpLemmas.{flagged}
use Rattle.craig_proof.proofs.AppendsLemmas.{before_step}
use Rattle.craig_proof.proofs.ChainGrowthLemmas.{ChainOk-given}

pub Tells-start : (lent : ℕ → Option Clause) (first : ℕ) (IsUnit : ℕ → Type 0) (t : Told) → Tells lent first IsUnit t t
Tells-start lent first IsUnit t = record {
  steps = λ s here. inl (s, here, refl, refl, refl, λ was. was);
  stay = λ s here. (s, here, refl, refl, refl);
  unforgotten = λ id kept none. kept;
}

-- after one more step
pub Tells-pushed : (lent : ℕ → Option Clause) (first : ℕ) (IsUnit : ℕ → Type 0) (t u : Told) (s : ToldStep) → Tells lent first IsUnit t u → IsOfSearch lent first IsUnit s → Tells lent first IsUnit t (with_step u s)
Tells-pushed lent first IsUnit t u s tells of = record {
  steps = λ r here. elim (Contains-push_cases u.steps s r here) [
    | inl was ↦ tells.steps r was
    | inr same ↦ inr (subst (IsOfSearch lent first IsUnit) same of)
  ];
  stay = λ r here. let q = tells.stay r here in (q.0, Contains-append_left u.steps (s ∷ []) q.0 q.1, q.2, q.3, q.4);
  unforgotten = λ id kept none. IsUnforgotten-pushed u.steps s id (tells.unforgotten id kept none);
}

pub TellsLearnt-start : (start : HeldView) (told : Option Told) → TellsLearnt start told told
TellsLearnt-start start told t u is also =
    subst (Tells (held_clause start.arena) start.arena.given (λ id. ⊥) t) (let same : t ≡ u = cc in same) (Tells-start (held_clause start.arena) start.arena.given (λ id. ⊥) t)

some-literals : (o : Option FlaggedClause) (c : FlaggedClause) → o ≡ Some c → IsSome (option_map (λ f. f.literals) o)
some-literals o c is = rw is refl

-- a clause that is derived from held ones
pub derived-of_search : (IsUnit : ℕ → Type 0) (start old : HeldView) (id : ℕ) (literals : Clause) (first : ℕ) (rest : List Step) → Leaves start old → id ≡ old.arena.given → ChainOk (held_clause old.arena) literals first (chain_of rest) → IsOfSearch (held_clause start.arena) start.arena.given IsUnit (derived_step id literals first rest)
derived-of_search IsUnit start old id literals first rest left next chain = record {
  later = omega (arith, left.given);
  originals = λ no. absurd no;
  antecedents = λ a named.
      let p = ChainOk-given (held_clause old.arena) literals first (chain_of rest) chain a named in
      elim (cases_lt a start.arena.given) [
        | inl low ↦
            let f = flagged (clause_at old.arena a) p.0 p.1 in
            let q = left.older a f.0 low f.1 in
            inr (some-literals (clause_at start.arena a) q.0 q.1)
        | inr high ↦ inl high
      ];
}

pub TellsLearnt-told : (start : HeldView) (before now after : Option Told) (s : ToldStep) → TellsLearnt start before now → Appends now after s → IsOfSearch (held_clause start.arena) start.arena.given (λ id. ⊥) s → TellsLearnt start before after
TellsLearnt-told start before now after s learnt appends of t u is also =
    let w = before_step now after s u appends also in
    subst (Tells (held_clause start.arena) start.arena.given (λ id. ⊥) t) (sym w.2) (Tells-pushed (held_clause start.arena) start.arena.given (λ id. ⊥) t w.0 s (learnt t w.0 is w.1) of)
