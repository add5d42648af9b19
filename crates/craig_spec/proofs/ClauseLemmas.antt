-- Clauses: their true literals, their variables, and clauses with the same literals.
use Rattle.std.proofs.Common.{◌≡◌, sym, ℕ, Bool, true, eqb, get_or, All, Contains, eq-eqb, eqb-true}
use Rattle.std.specs.List.{list_any}
use Rattle.std.proofs.lemmas.List.Elements.{All-contains, Contains-get_or}
use Rattle.craig_spec.specs.Literal.{Literal, Clause}
use Rattle.craig_spec.specs.Chain.{SameLiterals}
use Rattle.craig_spec.specs.Truth.{Assignment, clause_value, literal_value}
use Rattle.craig_spec.specs.Occurs.{occurs_in_clause}
use Rattle.craig_spec.proofs.MemberLemmas.{list_any-find, list_any-member, list_any-more}

-- a clause is true by one of its literals
pub clause_value-find : (s : Assignment) (c : Clause) → clause_value s c ≡ true → (l : Literal) × Contains c l × (literal_value s l ≡ true)
clause_value-find s c h = list_any-find (literal_value s) c h

pub clause_value-member : (s : Assignment) (c : Clause) (l : Literal) → Contains c l → literal_value s l ≡ true → clause_value s c ≡ true
clause_value-member s c l here h = list_any-member (literal_value s) c l here h

-- and has a variable by one of them
pub occurs_in_clause-find : (x : ℕ) (c : Clause) → occurs_in_clause x c ≡ true → (l : Literal) × Contains c l × (l.var ≡ x)
occurs_in_clause-find x c h = let found = list_any-find (λ (l : Literal). eqb x l.var) c h in (found.0, found.1, sym (eqb-true x (found.0).var found.2))

pub occurs_in_clause-member : (x : ℕ) (c : Clause) (l : Literal) → Contains c l → l.var ≡ x → occurs_in_clause x c ≡ true
occurs_in_clause-member x c l here is = list_any-member (λ (l : Literal). eqb x l.var) c l here (eq-eqb x l.var (sym is))

-- having the same literals is an equivalence
pub SameLiterals-refl : (c : Clause) → SameLiterals c c
SameLiterals-refl c l = (λ h. h, λ h. h)

pub SameLiterals-sym : (c d : Clause) → SameLiterals c d → SameLiterals d c
SameLiterals-sym c d same l = ((same l).1, (same l).0)

pub SameLiterals-trans : (c d e : Clause) → SameLiterals c d → SameLiterals d e → SameLiterals c e
SameLiterals-trans c d e one two l = (λ h. (two l).0 ((one l).0 h), λ h. (one l).1 ((two l).1 h))

-- such clauses pass the same tests: they are true together, and have the same variables
pub list_any-same_literals : (p : Literal → Bool) (c d : Clause) → SameLiterals c d → list_any p c ≡ true → list_any p d ≡ true
list_any-same_literals p c d same h = list_any-more p c d (λ l. (same l).0) h

pub clause_value-same : (s : Assignment) (c d : Clause) → SameLiterals c d → clause_value s c ≡ true → clause_value s d ≡ true
clause_value-same s c d same h = list_any-same_literals (literal_value s) c d same h

pub occurs_in_clause-same : (x : ℕ) (c d : Clause) → SameLiterals c d → occurs_in_clause x c ≡ true → occurs_in_clause x d ≡ true
occurs_in_clause-same x c d same h = list_any-same_literals (λ l. eqb x l.var) c d same h

-- what holds of each literal of the one holds of those of the other
pub All-same_literals : (P : Literal → Type 0) (c d : Clause) → SameLiterals c d → All P d → All P c
All-same_literals P c d same all k l within =
    All-contains P d (get_or c k l) all ((same (get_or c k l)).0 (Contains-get_or c k l within))
