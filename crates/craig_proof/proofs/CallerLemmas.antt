-- What a caller of a tracer knows after a step.
use Rattle.std.proofs.Common.{◌≡◌, ℕ, suc, zero, ◌<◌, true, false, not, ◌&&◌, eqb, eq-eqb, List, [], ◌∷◌, ◌++◌, All, Option, Some, None, refl, ap, sym, subst, ◌∙◌, arith, inl, inr}
use Rattle.std.specs.Option.{is_some}
use Rattle.std.proofs.Math.Bool.{or-true}
use Rattle.craig_spec.proofs.MemberLemmas.{Contains-one}
use Rattle.craig_spec.specs.Literal.{Literal, negation}
use Rattle.craig_spec.specs.Chain.{ChainOk, clause_told, IsUnforgotten, IsResolvent, Told, ToldStep, nothing_told, with_step}
use Rattle.craig_proof.specs.Tracer.{Appends, original_step}
use Rattle.craig_proof.proofs.AppendsLemmas.{before_step}

-- the greatest id is that of the step
pub greatest_is : (t : Told) (s : ToldStep) (x : Told) (g : ℕ) → x ≡ with_step t s → x.greatest ≡ Some g → g ≡ s.id
greatest_is t s x g e h = let h2 : Some s.id ≡ Some g = sym (ap (λ (u : Told). u.greatest) e) ∙ h in cc

-- a literal and its negation give the empty clause
pub IsResolvent-units : (l : Literal) → IsResolvent l (l ∷ []) (negation l ∷ []) []
IsResolvent-units l = record {
  first_has = (0, omega arith, refl);
  second_has = (0, omega arith, refl);
  no_other = λ m here there. sym (Contains-one l m here);
  literals = λ m. (
    λ (k, within, at). absurd (let no : k < 0 = within in omega arith),
    λ h. elim h [
      | inl first ↦ absurd (first.1 (sym (Contains-one l m first.0)))
      | inr second ↦ absurd (second.1 (sym (Contains-one (negation l) m second.0)))
    ],
  );
}

-- the steps after three, from nothing
pub three_steps : (z one two x : Told) (s0 s1 s2 : ToldStep) → z ≡ nothing_told → one ≡ with_step z s0 → two ≡ with_step one s1 → x ≡ with_step two s2 → x.steps ≡ s0 ∷ s1 ∷ s2 ∷ []
three_steps z one two x s0 s1 s2 e0 e1 e2 e3 =
    ap (λ (u : Told). u.steps) e3 ∙ ap (λ (u : Told). u.steps ++ s2 ∷ []) e2 ∙ ap (λ (u : Told). (u.steps ++ s1 ∷ []) ++ s2 ∷ []) e1 ∙ ap (λ (u : Told). ((u.steps ++ s0 ∷ []) ++ s1 ∷ []) ++ s2 ∷ []) e0

-- the chain of two unit clauses
pub ChainOk-units : (l m : Literal) (p q : ℕ) (others : List ToldStep) → m ≡ negation l → ChainOk (clause_told (original_step 0 p (l ∷ []) ∷ original_step 1 q (m ∷ []) ∷ others)) [] 0 (record { pivot = l; antecedent = 1 } ∷ [])
ChainOk-units l m p q others e = record {
  start = l ∷ [];
  start_is = refl;
  chain = (negation l ∷ [], [], ap (λ (n : Literal). Some (n ∷ [])) e, IsResolvent-units l, λ n. (λ h. h, λ h. h));
}

-- both are not forgotten
pub IsUnforgotten-units : (c d : List Literal) (p q : ℕ) (others : List ToldStep) → All (IsUnforgotten (original_step 0 p c ∷ original_step 1 q d ∷ others)) (0 ∷ 1 ∷ [])
IsUnforgotten-units c d p q others zero e within = refl
IsUnforgotten-units c d p q others (suc zero) e within = refl
IsUnforgotten-units c d p q others (suc (suc k)) e within = absurd (omega arith)

pub unforgotten_pushed : (steps : List ToldStep) (s : ToldStep) → s.forgotten ≡ false → IsUnforgotten (steps ++ s ∷ []) s.id
unforgotten_pushed [] s f = rw (eq-eqb s.id s.id refl, f) refl
unforgotten_pushed (r ∷ steps) s f = rw (unforgotten_pushed steps s f) (or-true (eqb r.id s.id && not r.forgotten))

-- the last step that was told is not forgotten
pub IsUnforgotten-last : (a b : Option Told) (s : ToldStep) → Appends a b s → is_some a ≡ true → s.forgotten ≡ false → (u : Told) × (b ≡ Some u) × IsUnforgotten u.steps s.id
IsUnforgotten-last None b s appends some f = absurd (cc)
IsUnforgotten-last (Some t) b s appends some f = (with_step t s, appends, unforgotten_pushed t.steps s f)

-- something was told
pub is_some-told : (a : Option Told) (t : Told) → a ≡ Some t → is_some a ≡ true
is_some-told a t is = rw is refl

-- and what is told afterwards has it so
pub IsUnforgotten-told : (a b : Option Told) (s : ToldStep) (u : Told) → Appends a b s → b ≡ Some u → s.forgotten ≡ false → IsUnforgotten u.steps s.id
IsUnforgotten-told a b s u appends is f =
    let was = before_step a b s u appends is in
    subst (λ (v : Told). IsUnforgotten v.steps s.id) (sym was.2) (unforgotten_pushed was.0.steps s f)
