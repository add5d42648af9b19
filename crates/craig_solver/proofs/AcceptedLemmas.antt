-- The accepted clauses, and one more.
use Rattle.std.proofs.Common.{◌≡◌, ℕ, true, List, [], ◌∷◌, ◌++◌, Contains, ap, sym, subst, ◌∙◌}
use Rattle.std.proofs.lemmas.List.Elements.{Contains-append_left, Contains-push}
use Rattle.craig_spec.specs.Literal.{Clause}
use Rattle.craig_spec.specs.Truth.{Assignment, IsModel, clause_value}
use Rattle.craig_spec.specs.Occurs.{Occurs, occurs_in_clause}
use Rattle.craig_base.specs.declared.script_part.Part.{Part}
use Rattle.craig_spec.proofs.MemberLemmas.{Contains-from_image, Contains-image, list_all-member, list_any-find, list_any-member, list_all-members}
use Rattle.craig_solver.specs.Answer.{accepted_clauses}

clause-more : (xs : List (Part × Clause)) (p : Part × Clause) (c : Clause) → Contains (accepted_clauses xs) c → Contains (accepted_clauses (xs ++ p ∷ [])) c
clause-more xs p c here =
    let m = Contains-from_image (λ (a : Part × Clause). a.1) xs c here in
    subst (Contains (accepted_clauses (xs ++ p ∷ []))) (sym m.2) (Contains-image (λ (a : Part × Clause). a.1) (xs ++ p ∷ []) m.0 (Contains-append_left xs (p ∷ []) m.0 m.1))

clause-last : (xs : List (Part × Clause)) (p : Part × Clause) → Contains (accepted_clauses (xs ++ p ∷ [])) p.1
clause-last xs p = Contains-image (λ (a : Part × Clause). a.1) (xs ++ p ∷ []) p (Contains-push xs p)

-- a model of more clauses is one of fewer
pub IsModel-fewer : (xs : List (Part × Clause)) (p : Part × Clause) (s : Assignment) → IsModel s (accepted_clauses (xs ++ p ∷ [])) → IsModel s (accepted_clauses xs)
IsModel-fewer xs p s model =
    list_all-members (clause_value s) (accepted_clauses xs) (λ c here. list_all-member (clause_value s) (accepted_clauses (xs ++ p ∷ [])) c (clause-more xs p c here) model)

pub IsModel-last : (xs : List (Part × Clause)) (p : Part × Clause) (s : Assignment) → IsModel s (accepted_clauses (xs ++ p ∷ [])) → clause_value s p.1 ≡ true
IsModel-last xs p s model =
    list_all-member (clause_value s) (accepted_clauses (xs ++ p ∷ [])) p.1 (clause-last xs p) model

pub Occurs-more : (xs : List (Part × Clause)) (p : Part × Clause) (x : ℕ) → Occurs x (accepted_clauses xs) → Occurs x (accepted_clauses (xs ++ p ∷ []))
Occurs-more xs p x h =
    let m = list_any-find (occurs_in_clause x) (accepted_clauses xs) h in
    list_any-member (occurs_in_clause x) (accepted_clauses (xs ++ p ∷ [])) m.0 (clause-more xs p m.0 m.1) m.2

pub Occurs-last : (xs : List (Part × Clause)) (p : Part × Clause) (x : ℕ) → occurs_in_clause x p.1 ≡ true → Occurs x (accepted_clauses (xs ++ p ∷ []))
Occurs-last xs p x h =
    list_any-member (occurs_in_clause x) (accepted_clauses (xs ++ p ∷ [])) p.1 (clause-last xs p) h

-- one more accepted clause, after the list and the clause were kept
pub same-pushed : (old now new : List (Part × Clause)) (part : Part) (written lits : Clause) → now ≡ old → written ≡ lits → new ≡ now ++ (part, written) ∷ [] → new ≡ old ++ (part, lits) ∷ []
same-pushed old now new part written lits same copy pushed =
    pushed ∙ ap (λ (xs : List (Part × Clause)). xs ++ (part, written) ∷ []) same ∙ ap (λ (c : Clause). old ++ (part, c) ∷ []) copy
