-- The answer after a search.
use Rattle.std.proofs.Common.{◌≡◌, ◌⊎◌, inl, inr, ℕ, Bool, true, false, cond, not, List, [], ◌∷◌, ◌++◌, Contains, Option, Result, Ok, Err, refl, sym, ap, subst, ◌∙◌}
use Rattle.std.specs.Option.{option_map}
use Rattle.std.specs.Result.{IfOk, OnOk}
use Rattle.std.proofs.lemmas.List.Elements.{All-contains, Contains-append_cases}
use Rattle.craig_spec.specs.Literal.{Clause, Literal, negation}
use Rattle.craig_spec.specs.Truth.{Assignment, IsModel, clause_value, literal_value, variable_value}
use Rattle.craig_base.specs.Arena.{ArenaView, FlaggedClause, IsArena, clauses_of}
use Rattle.craig_base.proofs.FoundLemmas.{Contains-clauses_of}
use Rattle.craig_base.specs.Clauses.{IsTautology}
use Rattle.craig_base.specs.LemmaRule.{MeetsLemmaRule}
use Rattle.craig_base.specs.Values.{assignment_of_values}
use Rattle.craig_base.specs.declared.script_part.Part.{Part}
use Rattle.craig_watch.specs.declared.value.Value.TheVariants.{True}
use Rattle.craig_watch.specs.Held.{HeldView}
use Rattle.craig_watch.specs.Trail.{value_under}
use Rattle.craig_search.specs.declared.verdict.Verdict.{Verdict}
use Rattle.craig_search.specs.declared.verdict.Verdict.TheVariants as verdict
use Rattle.craig_search.specs.Leaves.{Leaves}
use Rattle.craig_search.specs.Verdict.{Assumptions, IsFound, IsVerdict, units}
use Rattle.craig_solver.specs.declared.answer.Answer.{Answer}
use Rattle.craig_solver.specs.declared.answer.Answer.TheVariants as answer
use Rattle.craig_solver.specs.Settling.{AreValuesOf, IsAnswerFor}
use Rattle.craig_solver.specs.Answer.{IsAnswer, accepted_clauses}
use Rattle.craig_solver.specs.State.{AreHeldFor}
use Rattle.craig_spec.proofs.ClauseLemmas.{SameLiterals-sym, SameLiterals-trans, clause_value-member, clause_value-same}
use Rattle.craig_spec.proofs.MemberLemmas.{Contains-from_image, Contains-front, list_all-members}
use Rattle.craig_solver.proofs.SearchedLemmas.{held-model, held-occurs}

-- what is said of an answer, and what is said where there is one
pub IfOk-both : {T E Q : Type 0} {P R : T → Type 0} (r : Result T E) → ((x : T) → P x → Q → R x) → IfOk r P → OnOk r Q → IfOk r R
IfOk-both (Ok x) both p q = both x p q
IfOk-both (Err e) both p q = tt

by-refuting : (b : Bool) → (b ≡ false → b ≡ true) → b ≡ true
by-refuting true h = refl
by-refuting false h = h refl

sign-cases : (b v : Bool) → cond b (not v) v ≡ false → cond (not b) (not v) v ≡ true
sign-cases true true is = refl
sign-cases true false is = absurd (let no : true ≡ false = is in cc)
sign-cases false true is = absurd (let no : true ≡ false = is in cc)
sign-cases false false is = refl

opposite-cases : (s : Assignment) (l : Literal) (b : Bool) → literal_value s l ≡ b → (literal_value s l ≡ true) ⊎ (literal_value s (negation l) ≡ true)
opposite-cases s l true is = inl is
opposite-cases s l false is = inr (sign-cases l.negated (variable_value s l.var) is)

-- a tautology is true under each assignment
tautology-true : (s : Assignment) (c : Clause) → IsTautology c → clause_value s c ≡ true
tautology-true s c tautology =
    elim (opposite-cases s tautology.0 (literal_value s tautology.0) refl) [
      | inl one ↦ clause_value-member s c tautology.0 tautology.1 one
      | inr other ↦ clause_value-member s c (negation tautology.0) tautology.2 other
    ]

-- what is true on the trail after a search is true under the values
module _ (accepted : List (Part × Clause)) (h n : HeldView) (vars : ℕ) (are : AreHeldFor accepted h.arena vars) (left : Leaves h n) where
  held-true : (values : List Bool) (assumptions : Assumptions) → AreValuesOf n.vars n.trail values → IsFound n assumptions → (p : Part × Clause) → Contains accepted p → ¬ IsTautology p.1 → clause_value (assignment_of_values values) p.1 ≡ true
  held-true values assumptions is found p here not_tautology =
      let s = assignment_of_values values in
      let o = are.held p here not_tautology in
      let d = left.stay o.id o.clause o.live o.not_learnt in
      let l = found.clauses o.id d.0.literals (ap (option_map (λ (f : FlaggedClause). f.literals)) d.1) in
      let same = SameLiterals-trans p.1 o.clause.literals d.0.literals o.literals d.2.literals in
      clause_value-same s d.0.literals p.1 (SameLiterals-sym p.1 d.0.literals same) (clause_value-member s d.0.literals l.0 l.1 (is.literals l.0 l.2))

  accepted-true : (values : List Bool) (assumptions : Assumptions) → AreValuesOf n.vars n.trail values → IsFound n assumptions → (p : Part × Clause) → Contains accepted p → clause_value (assignment_of_values values) p.1 ≡ true
  accepted-true values assumptions is found p here =
      let s = assignment_of_values values in
      by-refuting (clause_value s p.1) (λ no. held-true values assumptions is found p here (λ tautology. let odd : true ≡ false = sym (tautology-true s p.1 tautology) ∙ no in cc))

  unit-true : (values : List Bool) (assumptions : Assumptions) → AreValuesOf n.vars n.trail values → IsFound n assumptions → (a : Part × Literal) → Contains assumptions a → clause_value (assignment_of_values values) (a.1 ∷ []) ≡ true
  unit-true values assumptions is found a here =
      let s = assignment_of_values values in
      clause_value-member s (a.1 ∷ []) a.1 (Contains-front a.1 []) (is.literals a.1 (All-contains (λ (b : Part × Literal). value_under n.trail b.1 ≡ True) assumptions a found.assumed here))

  model-searched : (values : List Bool) (assumptions : Assumptions) → AreValuesOf n.vars n.trail values → IsFound n assumptions → IsModel (assignment_of_values values) (accepted_clauses accepted ++ units assumptions)
  model-searched values assumptions is found =
      let s = assignment_of_values values in
      list_all-members (clause_value s) (accepted_clauses accepted ++ units assumptions) (λ c here. elim (Contains-append_cases (accepted_clauses accepted) (units assumptions) c here) [
        | inl clause ↦
            let p = Contains-from_image (λ (a : Part × Clause). a.1) accepted c clause in
            subst (λ (d : Clause). clause_value s d ≡ true) (sym p.2) (accepted-true values assumptions is found p.0 p.1)
        | inr unit ↦
            let a = Contains-from_image (λ (b : Part × Literal). b.1 ∷ []) assumptions c unit in
            subst (λ (d : Clause). clause_value s d ≡ true) (sym a.2) (unit-true values assumptions is found a.0 a.1)
      ])

-- lemmas over the held clauses are lemmas over the accepted ones
rule-searched : (accepted : List (Part × Clause)) (a : ArenaView) (vars : ℕ) (lemmas : List Clause) → IsArena a → AreHeldFor accepted a vars → MeetsLemmaRule (clauses_of a) lemmas → MeetsLemmaRule (accepted_clauses accepted) lemmas
rule-searched accepted a vars lemmas ok are rule = record {
  implied = λ k d within s model. rule.implied k d within s (held-model accepted a vars ok are s model);
  known = λ k d within x occurs. held-occurs accepted a vars ok are x (rule.known k d within x occurs);
  not_tautology = rule.not_tautology;
  new = λ k d within c here contains.
      let p = Contains-from_image (λ (b : Part × Clause). b.1) accepted c here in
      let inside = λ (l : Literal) (has : Contains p.0.1 l). contains l (subst (λ (e : Clause). Contains e l) (sym p.2) has) in
      let o = are.held p.0 p.1 (λ tautology. rule.not_tautology k d within (tautology.0, inside tautology.0 tautology.1, inside (negation tautology.0) tautology.2)) in
      rule.new k d within o.clause.literals (Contains-clauses_of a o.id o.clause.literals (ap (option_map (λ (f : FlaggedClause). f.literals)) o.live)) (λ l has. inside l ((o.literals l).1 has));
  few = rule.few;
}

answer-cases : (accepted : List (Part × Clause)) (h n : HeldView) (assumptions : Assumptions) (limit : Option ℕ) (v : Verdict) (a : Answer) → IsArena h.arena → AreHeldFor accepted h.arena h.vars → Leaves h n → IsVerdict h n assumptions limit v → IsAnswerFor n v a → IsAnswer (accepted_clauses accepted) h.vars assumptions limit a
answer-cases accepted h n assumptions limit verdict.Model (answer.Model values) ok are left is for =
    (for.many ∙ left.vars, model-searched accepted h n h.vars are left values assumptions for is)
answer-cases accepted h n assumptions limit verdict.Model (answer.Failed root places) ok are left is for =
    absurd for
answer-cases accepted h n assumptions limit verdict.Model (answer.Limit lemmas) ok are left is for =
    absurd for
answer-cases accepted h n assumptions limit (verdict.Failed root places) a ok are left is for =
    subst (IsAnswer (accepted_clauses accepted) h.vars assumptions limit) (sym for) (is.first_places, λ s model. is.contradictory s (held-model accepted h.arena h.vars ok are s model))
answer-cases accepted h n assumptions limit (verdict.Limit lemmas) a ok are left is for =
    subst (IsAnswer (accepted_clauses accepted) h.vars assumptions limit) (sym for) (is.many, rule-searched accepted h.arena h.vars lemmas ok are is.rule, is.normal)

-- the answer is right of the accepted clauses, whatever they and the number of variables are called
pub IsAnswer-searched : (accepted same : List (Part × Clause)) (h n : HeldView) (vars : ℕ) (assumptions : Assumptions) (limit : Option ℕ) (v : Verdict) (a : Answer) → accepted ≡ same → h.vars ≡ vars → IsArena h.arena → AreHeldFor accepted h.arena h.vars → Leaves h n → IsVerdict h n assumptions limit v → IsAnswerFor n v a → IsAnswer (accepted_clauses same) vars assumptions limit a
IsAnswer-searched accepted same h n vars assumptions limit v a is_same vars_is ok are left is for =
    subst (λ (xs : List (Part × Clause)). IsAnswer (accepted_clauses xs) vars assumptions limit a) is_same (subst (λ (k : ℕ). IsAnswer (accepted_clauses accepted) k assumptions limit a) vars_is (answer-cases accepted h n assumptions limit v a ok are left is for))
