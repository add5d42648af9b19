-- The units of failed assumptions under rising ids.
use Rattle.std.proofs.Common.{◌≡◌, ◌≢◌, ◌⊎◌, inl, inr, ℕ, zero, suc, ◌+◌, ◌<◌, Bool, true, false, cond, eqb, eq-eqb, eqb-true, List, [], ◌∷◌, ◌++◌, length, All, Contains, Option, Some, None, refl, sym, ap, subst, ◌∙◌, arith}
use Rattle.std.specs.List.{slice_get}
use Rattle.std.proofs.lemmas.Option.{slice_get-get_or}
use Rattle.std.proofs.lemmas.List.Elements.{Contains-append_left, Contains-push}
use Rattle.craig_spec.specs.Literal.{Literal, Clause, negation}
use Rattle.craig_spec.specs.Chain.{Told, ToldStep, with_step}
use Rattle.craig_spec.proofs.ClauseLemmas.{SameLiterals-refl}
use Rattle.craig_spec.proofs.MemberLemmas.{Contains-front, Contains-later}
use Rattle.craig_base.specs.declared.script_part.Part.{Part}
use Rattle.craig_proof.specs.Covers.{IsCovering, IsOldOrNext}
use Rattle.craig_proof.specs.Tracer.{Appends, original_step}
use Rattle.craig_proof.specs.declared.step.Step.{Step}
use Rattle.craig_proof.proofs.CoversLemmas.{IsCovering-original}
use Rattle.craig_search.specs.Failing.{look_up, unit_chain, with_unit, with_units_told}
use Rattle.craig_search.specs.Verdict.{Assumptions, at_places}

any_assumption : Part × Literal
any_assumption = (record { 0 = 0 }, record { var = 0; negated = false })

-- one place more
pub at_places-push : (assumptions : Assumptions) (places : List ℕ) (p : ℕ) (a : Part × Literal) → slice_get assumptions p ≡ Some a → at_places assumptions (places ++ p ∷ []) ≡ at_places assumptions places ++ a ∷ []
at_places-push assumptions [] p a is = rw is refl
at_places-push assumptions (q ∷ places) p a is = pushed-cases (slice_get assumptions q) (at_places assumptions places) (at_places assumptions (places ++ p ∷ [])) a (at_places-push assumptions places p a is) where
  pushed-cases : (o : Option (Part × Literal)) (xs ys : Assumptions) (b : Part × Literal) → ys ≡ xs ++ b ∷ [] → Rattle.std.specs.Option.option_to_list o ++ ys ≡ (Rattle.std.specs.Option.option_to_list o ++ xs) ++ b ∷ []
  pushed-cases None xs ys b e = e
  pushed-cases (Some c) xs ys b e = ap (λ (zs : Assumptions). c ∷ zs) e

pub length-at_places : (assumptions : Assumptions) (places : List ℕ) → All (λ p. p < length assumptions) places → length (at_places assumptions places) ≡ length places
length-at_places assumptions [] within = refl
length-at_places assumptions (p ∷ places) within =
    let at : slice_get assumptions p ≡ Some _ = slice_get-get_or assumptions p any_assumption (within 0 p (omega arith)) in
    let rest : length (at_places assumptions places) ≡ length places = length-at_places assumptions places (λ k d low. within (suc k) d (omega (arith, low))) in
    rw at (ap suc rest)

pub unit_chain-push : (id : ℕ) (xs : Assumptions) (a : Part × Literal) → unit_chain id (xs ++ a ∷ []) ≡ unit_chain id xs ++ record { pivot = negation a.1; antecedent = record { 0 = id + length xs } } ∷ []
unit_chain-push id [] a =
    let same : id ≡ id + 0 = omega arith in
    ap (λ (n : ℕ). let s : Step = record { pivot = negation a.1; antecedent = record { 0 = n } } in s ∷ []) same
unit_chain-push id (b ∷ xs) a =
    let same : suc id + length xs ≡ id + suc (length xs) = omega arith in
    let s : Step = record { pivot = negation b.1; antecedent = record { 0 = id } } in
    ap (λ (rest : List Step). s ∷ rest) (unit_chain-push (suc id) xs a ∙ ap (λ (n : ℕ). unit_chain (suc id) xs ++ record { pivot = negation a.1; antecedent = record { 0 = n } } ∷ []) same)

pub with_units_told-push : (id : ℕ) (xs : Assumptions) (a : Part × Literal) (t : Told) → with_units_told id (xs ++ a ∷ []) t ≡ with_step (with_units_told id xs t) (original_step (id + length xs) a.0.0 (a.1 ∷ []))
with_units_told-push id [] a t = let same : id ≡ id + 0 = omega arith in ap (λ (n : ℕ). with_step t (original_step n a.0.0 (a.1 ∷ []))) same
with_units_told-push id (b ∷ xs) a t =
    let same : suc id + length xs ≡ id + suc (length xs) = omega arith in
    let u : Told = with_step t (original_step id b.0.0 (b.1 ∷ [])) in
    with_units_told-push (suc id) xs a u ∙ ap (λ (n : ℕ). with_step (with_units_told (suc id) xs u) (original_step n a.0.0 (a.1 ∷ []))) same

pub look_up-push : (f : ℕ → Option Clause) (id : ℕ) (xs : Assumptions) (a : Part × Literal) → look_up f id (xs ++ a ∷ []) ≡ with_unit (look_up f id xs) (id + length xs) a
look_up-push f id [] a = let same : id ≡ id + 0 = omega arith in ap (λ (n : ℕ). with_unit f n a) same
look_up-push f id (b ∷ xs) a =
    let same : suc id + length xs ≡ id + suc (length xs) = omega arith in
    look_up-push (with_unit f id b) (suc id) xs a ∙ ap (λ (n : ℕ). with_unit (look_up (with_unit f id b) (suc id) xs) n a) same

-- what stands under an id
with_unit-here : (f : ℕ → Option Clause) (id : ℕ) (a : Part × Literal) → with_unit f id a id ≡ Some (a.1 ∷ [])
with_unit-here f id a = rw (eq-eqb id id refl) refl

unit-cases : (b : Bool) (f : ℕ → Option Clause) (id k : ℕ) (a : Part × Literal) → eqb k id ≡ b → k ≢ id → cond b (Some (a.1 ∷ [])) (f k) ≡ f k
unit-cases true f id k a is other = absurd (other (eqb-true k id is))
unit-cases false f id k a is other = refl

with_unit-other : (f : ℕ → Option Clause) (id k : ℕ) (a : Part × Literal) → k ≢ id → with_unit f id a k ≡ f k
with_unit-other f id k a other = unit-cases (eqb k id) f id k a refl other

pub look_up-low : (f : ℕ → Option Clause) (id : ℕ) (xs : Assumptions) (k : ℕ) → k < id → look_up f id xs k ≡ f k
look_up-low f id [] k low = refl
look_up-low f id (a ∷ xs) k low = look_up-low (with_unit f id a) (suc id) xs k (omega (arith, low)) ∙ with_unit-other f id k a (λ e. omega (arith, low, e))

pub look_up-unit : (f : ℕ → Option Clause) (id : ℕ) (xs : Assumptions) (k : ℕ) (a : Part × Literal) → slice_get xs k ≡ Some a → look_up f id xs (id + k) ≡ Some (a.1 ∷ [])
look_up-unit f id [] k a is = absurd (let no : None ≡ Some a = is in cc)
look_up-unit f id (b ∷ xs) zero a is =
    let same : id + 0 ≡ id = omega arith in
    let e : b ≡ a = (let s : Some b ≡ Some a = is in cc) in
    ap (look_up (with_unit f id b) (suc id) xs) same ∙ look_up-low (with_unit f id b) (suc id) xs id (omega arith) ∙ with_unit-here f id b ∙ ap (λ (c : Part × Literal). Some (c.1 ∷ [])) e
look_up-unit f id (b ∷ xs) (suc k) a is =
    let same : id + suc k ≡ suc id + k = omega arith in
    ap (look_up (with_unit f id b) (suc id) xs) same ∙ look_up-unit (with_unit f id b) (suc id) xs k a is

-- what is found is found without the units, or is a unit
abbrev pub IsUnitOf : Assumptions → Clause → Type 0
IsUnitOf xs c = (a : Part × Literal) × Contains xs a × (c ≡ a.1 ∷ [])

found-cases : (b : Bool) (o : Option Clause) (d c : Clause) → cond b (Some d) o ≡ Some c → (d ≡ c) ⊎ (o ≡ Some c)
found-cases true o d c is = inl (let s : Some d ≡ Some c = is in cc)
found-cases false o d c is = inr is

pub look_up-cases : (f : ℕ → Option Clause) (id : ℕ) (xs : Assumptions) (k : ℕ) (c : Clause) → look_up f id xs k ≡ Some c → (f k ≡ Some c) ⊎ IsUnitOf xs c
look_up-cases f id [] k c is = inl is
look_up-cases f id (a ∷ xs) k c is = elim (look_up-cases (with_unit f id a) (suc id) xs k c is) [
  | inl here ↦ elim (found-cases (eqb k id) (f k) (a.1 ∷ []) c here) [ inl unit ↦ inr (a, Contains-front a xs, sym unit) | inr old ↦ inl old ]
  | inr unit ↦ inr (unit.0, Contains-later a xs unit.0 unit.1, unit.2)
]

-- the units that were told
pub units-stay : (id : ℕ) (xs : Assumptions) (t : Told) (s : ToldStep) → Contains t.steps s → Contains (with_units_told id xs t).steps s
units-stay id [] t s here = here
units-stay id (a ∷ xs) t s here = units-stay (suc id) xs (with_step t (original_step id a.0.0 (a.1 ∷ []))) s (Contains-append_left t.steps (original_step id a.0.0 (a.1 ∷ []) ∷ []) s here)

pub units-there : (id : ℕ) (xs : Assumptions) (t : Told) (k : ℕ) (a : Part × Literal) → slice_get xs k ≡ Some a → Contains (with_units_told id xs t).steps (original_step (id + k) a.0.0 (a.1 ∷ []))
units-there id [] t k a is = absurd (let no : None ≡ Some a = is in cc)
units-there id (b ∷ xs) t zero a is =
    let same : id ≡ id + 0 = omega arith in
    let e : b ≡ a = (let s : Some b ≡ Some a = is in cc) in
    let first : Contains (with_units_told id (b ∷ xs) t).steps (original_step id b.0.0 (b.1 ∷ [])) = units-stay (suc id) xs (with_step t (original_step id b.0.0 (b.1 ∷ []))) (original_step id b.0.0 (b.1 ∷ [])) (Contains-push t.steps (original_step id b.0.0 (b.1 ∷ []))) in
    subst (λ (n : ℕ). Contains (with_units_told id (b ∷ xs) t).steps (original_step n a.0.0 (a.1 ∷ []))) same (subst (λ (c : Part × Literal). Contains (with_units_told id (b ∷ xs) t).steps (original_step id c.0.0 (c.1 ∷ []))) e first)
units-there id (b ∷ xs) t (suc k) a is =
    let same : suc id + k ≡ id + suc k = omega arith in
    subst (λ (n : ℕ). Contains (with_units_told id (b ∷ xs) t).steps (original_step n a.0.0 (a.1 ∷ []))) same (units-there (suc id) xs (with_step t (original_step id b.0.0 (b.1 ∷ []))) k a is)

-- covering with one unit more
old_or_unit : (f : ℕ → Option Clause) (id : ℕ) (a : Part × Literal) → IsOldOrNext f (with_unit f id a) id (a.1 ∷ [])
old_or_unit f id a = record {
  at_next = λ c is. (let e : a.1 ∷ [] ≡ c = (let s : Some (a.1 ∷ []) ≡ Some c = sym (with_unit-here f id a) ∙ is in cc) in subst (λ (d : Clause). Rattle.craig_spec.specs.Chain.SameLiterals d (a.1 ∷ [])) e (SameLiterals-refl (a.1 ∷ [])));
  others = λ k other d is. (d, sym (with_unit-other f id k a other) ∙ is, SameLiterals-refl d);
}

pub covers-unit : (before after : Option Told) (f : ℕ → Option Clause) (given : ℕ) (a : Part × Literal) → IsCovering before f given → Appends before after (original_step given a.0.0 (a.1 ∷ [])) → IsCovering after (with_unit f given a) (given + 1)
covers-unit before after f given a covers appends = IsCovering-original before after f (with_unit f given a) given a.0.0 (a.1 ∷ []) covers appends (old_or_unit f given a)
