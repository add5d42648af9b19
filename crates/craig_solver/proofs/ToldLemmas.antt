-- The originals that a tracer was told.
use Rattle.std.proofs.Common.{◌≡◌, ◌≢◌, inl, inr, ℕ, not, List, [], ◌∷◌, ◌++◌, Contains, Option, Some, None, refl, sym, ap, subst, ◌∙◌}
use Rattle.std.specs.Option.{ForSome, option_map}
use Rattle.std.proofs.lemmas.List.Elements.{Contains-append_left, Contains-push, Contains-push_cases}
use Rattle.craig_spec.specs.Literal.{Clause}
use Rattle.craig_spec.specs.Chain.{SameLiterals, Told, ToldStep, with_step, without_id}
use Rattle.craig_spec.specs.Needed.{IsOriginal}
use Rattle.craig_base.specs.Clauses.{IsNormal, IsTautology}
use Rattle.craig_base.specs.declared.clause_id.ClauseId.{ClauseId}
use Rattle.craig_base.specs.declared.script_part.Part.{Part}
use Rattle.craig_proof.specs.Tracer.{Appends, original_step}
use Rattle.craig_search.specs.Tells.{IsStillTold}
use Rattle.craig_search.proofs.ForgottenLemmas.{forgotten-step, forgotten-still}
use Rattle.craig_proof.proofs.AppendsLemmas.{before_step}
use Rattle.craig_solver.specs.State.{AreOriginals, IsLastUnit}
use Rattle.craig_solver.specs.Told.{AreAccepted, AreAllAccepted, AreAllTold, IsAcceptedStep, IsClauseTold}

-- with one more accepted clause, each step is one as before
pub IsAcceptedStep-more : (xs : List (Part × Clause)) (p : Part × Clause) (s : ToldStep) → IsAcceptedStep xs s → IsAcceptedStep (xs ++ p ∷ []) s
IsAcceptedStep-more xs p s is = record {
  pair = is.pair;
  is_accepted = Contains-append_left xs (p ∷ []) is.pair is.is_accepted;
  part = is.part;
  literals = is.literals;
  normal = is.normal;
}

-- a step that is the same but for its id and whether it is forgotten
pub IsAcceptedStep-same : (xs : List (Part × Clause)) (r s : ToldStep) → s.origin ≡ r.origin → s.literals ≡ r.literals → IsAcceptedStep xs r → IsAcceptedStep xs s
IsAcceptedStep-same xs r s origin literals is = record {
  pair = is.pair;
  is_accepted = is.is_accepted;
  part = origin ∙ is.part;
  literals = subst (SameLiterals is.pair.1) (sym literals) is.literals;
  normal = subst IsNormal (sym literals) is.normal;
}

pub AreOriginals-more : (xs : List (Part × Clause)) (p : Part × Clause) (root : Option ClauseId) (units : ℕ) (told : Option Told) → ForSome told (AreOriginals xs root units) → ForSome told (AreOriginals (xs ++ p ∷ []) root units)
AreOriginals-more xs p root units told all t is s here original = elim (all t is s here original) [
  | inl accepted ↦ inl (IsAcceptedStep-more xs p s accepted)
  | inr assumed ↦ inr assumed
]

pub told-original : (xs : List (Part × Clause)) (part : Part) (written literals : Clause) (id : ℕ) → SameLiterals written literals → IsNormal literals → IsAcceptedStep (xs ++ (part, written) ∷ []) (original_step id part.0 literals)
told-original xs part written literals id same normal = record {
  pair = (part, written);
  is_accepted = Contains-push xs (part, written);
  part = refl;
  literals = same;
  normal = normal;
}

-- after an original was told
pub AreOriginals-original : (xs : List (Part × Clause)) (part : Part) (written literals : Clause) (id : ℕ) (root : Option ClauseId) (units : ℕ) (before after : Option Told) → ForSome before (AreOriginals xs root units) → Appends before after (original_step id part.0 literals) → SameLiterals written literals → IsNormal literals → ForSome after (AreOriginals (xs ++ (part, written) ∷ []) root units)
AreOriginals-original xs part written literals id root units before after all appends same normal u is s here original =
    let was = before_step before after (original_step id part.0 literals) u appends is in
    let steps : u.steps ≡ was.0.steps ++ original_step id part.0 literals ∷ [] = ap (λ (t : Told). t.steps) was.2 in
    elim (Contains-push_cases was.0.steps (original_step id part.0 literals) s (subst (λ (rs : List ToldStep). Contains rs s) steps here)) [
      | inl old ↦ elim (all was.0 was.1 s old original) [
        | inl accepted ↦ inl (IsAcceptedStep-more xs (part, written) s accepted)
        | inr assumed ↦ inr assumed
      ]
      | inr last ↦ inl (subst (IsAcceptedStep (xs ++ (part, written) ∷ [])) last (told-original xs part written literals id same normal))
    ]

-- after a unit is forgotten, or the root when no unit is left
pub AreOriginals-forgotten : (xs : List (Part × Clause)) (id : ℕ) (old_root root : Option ClauseId) (old_units units : ℕ) (t : Told) → ((x : ℕ) → x ≢ id → IsLastUnit old_root old_units x → IsLastUnit root units x) → AreOriginals xs old_root old_units t → AreOriginals xs root units (without_id id t)
AreOriginals-forgotten xs id old_root root old_units units t fewer all s here original =
    let m = forgotten-step t id s here in
    elim (all m.0 m.1 (subst IsOriginal m.4 original)) [
      | inl accepted ↦ inl (IsAcceptedStep-same xs m.0 s m.4 m.3 accepted)
      | inr assumed ↦ inr (record {
        unit = (assumed.unit.0, m.3 ∙ assumed.unit.1);
        last = λ stays.
            let was = m.5 stays in
            subst (IsLastUnit root units) (sym m.2) (fewer m.0.id was.1 (assumed.last was.0));
      })
    ]

-- what the contract says of the originals
pub AreAccepted-originals : (xs : List (Part × Clause)) (root : Option ClauseId) (units : ℕ) (t : Told) → AreOriginals xs root units t → AreAccepted xs t
AreAccepted-originals xs root units t all s here original = elim (all s here original) [ inl accepted ↦ inl accepted | inr assumed ↦ inr assumed.unit ]

pub AreAllAccepted-originals : (xs : List (Part × Clause)) (units : ℕ) (t : Told) → AreOriginals xs None units t → AreAllAccepted xs t
AreAllAccepted-originals xs units t all s here original stays = elim (all s here original) [
  | inl accepted ↦ accepted
  | inr assumed ↦ absurd (let unit = assumed.last stays in let no : None ≡ Some unit.0 = unit.1 in cc)
]

-- one more accepted clause that is told, or is a tautology
IsClauseTold-pushed : (t : Told) (s : ToldStep) (p : Part × Clause) → IsClauseTold t p → IsClauseTold (with_step t s) p
IsClauseTold-pushed t s p told = (told.0, Contains-append_left t.steps (s ∷ []) told.0 told.1, told.2, told.3)

pub AreAllTold-tautology : (xs : List (Part × Clause)) (p : Part × Clause) (told : Option Told) → IsTautology p.1 → ForSome told (AreAllTold xs) → ForSome told (AreAllTold (xs ++ p ∷ []))
AreAllTold-tautology xs p told tautology all t is q here not = elim (Contains-push_cases xs p q here) [
  | inl old ↦ all t is q old not
  | inr last ↦ absurd (not (subst (λ (r : Part × Clause). IsTautology r.1) last tautology))
]

pub AreAllTold-original : (xs : List (Part × Clause)) (part : Part) (written literals : Clause) (id : ℕ) (before after : Option Told) → ForSome before (AreAllTold xs) → Appends before after (original_step id part.0 literals) → SameLiterals written literals → ForSome after (AreAllTold (xs ++ (part, written) ∷ []))
AreAllTold-original xs part written literals id before after all appends same u is q here not =
    let step = original_step id part.0 literals in
    let was = before_step before after step u appends is in
    subst (λ (t : Told). IsClauseTold t q) (sym was.2) (elim (Contains-push_cases xs (part, written) q here) [
      | inl old ↦ IsClauseTold-pushed was.0 step q (all was.0 was.1 q old not)
      | inr last ↦ subst (IsClauseTold (with_step was.0 step)) last (step, Contains-push was.0.steps step, refl, same)
    ])

-- after an id is forgotten
pub AreAllTold-forgotten : (xs : List (Part × Clause)) (id : ℕ) (before after : Option Told) → ForSome before (AreAllTold xs) → after ≡ option_map (without_id id) before → ForSome after (AreAllTold xs)
AreAllTold-forgotten xs id None after all is u at = absurd (let no : None ≡ Some u = sym is ∙ at in cc)
AreAllTold-forgotten xs id (Some t) after all is u at = λ p here not.
    let same : Some u ≡ Some (without_id id t) = sym at ∙ is in
    let told : u ≡ without_id id t = cc in
    let s = all t refl p here not in
    let m = forgotten-still t id s.0 s.1 in
    subst (λ (v : Told). IsClauseTold v p) (sym told) (m.0, m.1, m.4 ∙ s.2, subst (SameLiterals p.1) (sym m.3) s.3)

-- and after a search, whose tracer tells each step still
pub AreAllTold-still : (xs : List (Part × Clause)) (t u : Told) → AreAllTold xs t → ((s : ToldStep) → Contains t.steps s → IsStillTold u s) → AreAllTold xs u
AreAllTold-still xs t u all still p here not =
    let s = all p here not in
    let r = still s.0 s.1 in
    (r.0, r.1, r.4 ∙ s.2, subst (SameLiterals p.1) (sym r.3) s.3)
