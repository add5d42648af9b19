-- A small refutation, and sides that note its variables.
use Rattle.std.proofs.Common.{◌≡◌, ◌≢◌, ◌⊎◌, inl, inr, ℕ, zero, suc, ◌+◌, ◌<◌, ◌≤◌, Bool, true, false, cond, ◌||◌, eqb, List, [], ◌∷◌, ◌++◌, length, get_or, take, Contains, IsTrue, Option, None, Some, refl, sym, ap, ◌∙◌, subst, arith, eqb-true, eq-eqb}
use Rattle.std.proofs.Math.Bool.{or-false}
use Rattle.std.proofs.lemmas.Bool.{or_cases}
use Rattle.std.proofs.lemmas.List.{take_more}
use Rattle.std.proofs.lemmas.List.Elements.{Contains-push_cases}
use Rattle.std.proofs.lemmas.List.Folds.{list_any-append}
use Rattle.craig_spec.specs.Literal.{Literal, Clause, negation}
use Rattle.craig_spec.specs.Occurs.{occurs_in_clause}
use Rattle.craig_spec.specs.Chain.{ChainStep, Original, Derived, ToldStep, Told, ChainOk, IsResolvent, clause_told, nothing_told, with_step}
use Rattle.craig_label.specs.Sides.{Range, SidesView, IsNoted, range_of, widened}
use Rattle.craig_proof.specs.Tracer.{original_step}
use Rattle.std.specs.Option.{option_map}
use Rattle.craig_spec.proofs.MemberLemmas.{Contains-one}
use Rattle.craig_proof.proofs.CallerLemmas.{IsResolvent-units}
use Rattle.craig_itp.specs.Interpolants.{AreNoted, Spans}
use Rattle.craig_itp.proofs.SpansLemmas.{spans_kept, spans_noted}

-- the variables of the literals so far, with those of the next one
pub occurs_more : (x k : ℕ) (c : Clause) (l : Literal) → k < length c → l ≡ get_or c k l → IsTrue (occurs_in_clause x (take (k + 1) c)) → IsTrue (occurs_in_clause x (take k c)) ⊎ (x ≡ l.var)
occurs_more x k c l within is h =
    let at : occurs_in_clause x (take (k + 1) c) ≡ (occurs_in_clause x (take k c) || (eqb x (get_or c k l).var || false)) = ap (occurs_in_clause x) (take_more c k l within) ∙ list_any-append (λ (m : Literal). eqb x m.var) (take k c) (get_or c k l ∷ []) in
    elim (or_cases (occurs_in_clause x (take k c)) (eqb x (get_or c k l).var) (ap (λ b. occurs_in_clause x (take k c) || b) (sym (or-false (eqb x (get_or c k l).var))) ∙ sym at ∙ h)) [
      | inl before ↦ inl before
      | inr here ↦ inr (eqb-true x (get_or c k l).var here ∙ ap (λ (m : Literal). m.var) (sym is))
    ]

-- one literal more is noted
pub noted_more : (old new : SidesView) (part k : ℕ) (c : Clause) (l : Literal) → k < length c → l ≡ get_or c k l → IsNoted old l.var part new → ((x : ℕ) → IsTrue (occurs_in_clause x (take k c)) → Spans old x part) → (x : ℕ) → IsTrue (occurs_in_clause x (take (k + 1) c)) → Spans new x part
noted_more old new part k c l within is noted before x occurs =
    elim (occurs_more x k c l within is occurs) [
      | inl earlier ↦ spans_kept old new l.var part x part noted (before x earlier)
      | inr here ↦ subst (λ (y : ℕ). Spans new y part) (sym here) (spans_noted old new l.var part noted)
    ]

original_part : (p q : ℕ) → Original p ≡ Original q → p ≡ q
original_part p q e = cc

-- with its variables noted, an original joins the noted steps
pub AreNoted-original : (old new : SidesView) (steps : List ToldStep) (id part : ℕ) (c : Clause) → AreNoted old steps → ((x other : ℕ) → Spans old x other → Spans new x other) → ((x : ℕ) → IsTrue (occurs_in_clause x c) → Spans new x part) → AreNoted new (steps ++ original_step id part c ∷ [])
AreNoted-original old new steps id part c before kept now step here p x origin occurs =
    elim (Contains-push_cases steps (original_step id part c) step here) [
      | inl earlier ↦ kept x p (before step earlier p x origin occurs)
      | inr is ↦
          let same : part ≡ p = original_part part p (ap (λ (s : ToldStep). s.origin) is ∙ origin) in
          let has : IsTrue (occurs_in_clause x c) = subst (λ (k : Clause). IsTrue (occurs_in_clause x k)) (sym (ap (λ (s : ToldStep). s.literals) is)) occurs in
          subst (Spans new x) same (now x has)
    ]

-- what a tracer tells after one step more
pub told_after : (t u : Told) (s : ToldStep) → Some u ≡ option_map (λ t. with_step t s) (Some t) → u ≡ with_step t s
told_after t u s e = cc

pub AreNoted-told : (old new : SidesView) (t u : Told) (id part : ℕ) (c : Clause) → AreNoted old t.steps → ((x other : ℕ) → Spans old x other → Spans new x other) → ((x : ℕ) → IsTrue (occurs_in_clause x c) → Spans new x part) → Some u ≡ option_map (λ t. with_step t (original_step id part c)) (Some t) → AreNoted new u.steps
AreNoted-told old new t u id part c before kept now e =
    subst (λ (v : Told). AreNoted new v.steps) (sym (told_after t u (original_step id part c) e)) (AreNoted-original old new t.steps id part c before kept now)

original_not_derived : (p first : ℕ) (rest : List ChainStep) → Derived first rest ≡ Original p → ⊥
original_not_derived p first rest e = cc

-- a derived clause asks for nothing
pub AreNoted-derived : (sides : SidesView) (t u : Told) (id : ℕ) (c : Clause) (first : ℕ) (rest : List ChainStep) → AreNoted sides t.steps → Some u ≡ option_map (λ t. with_step t (record { id = id; literals = c; origin = Derived first rest; forgotten = false })) (Some t) → AreNoted sides u.steps
AreNoted-derived sides t u id c first rest before e =
    subst (λ (v : Told). AreNoted sides v.steps) (sym (told_after t u (record { id = id; literals = c; origin = Derived first rest; forgotten = false }) e)) (λ step here p x origin occurs.
    elim (Contains-push_cases t.steps (record { id = id; literals = c; origin = Derived first rest; forgotten = false }) step here) [
      | inl earlier ↦ before step earlier p x origin occurs
      | inr is ↦ absurd (original_not_derived p first rest (ap (λ (s : ToldStep). s.origin) is ∙ origin))
    ])

one_of_two : (l m n : Literal) → Contains (l ∷ m ∷ []) n → (n ≡ l) ⊎ (n ≡ m)
one_of_two l m n (zero, within, at) = inl (sym at)
one_of_two l m n (suc zero, within, at) = inr (sym at)
one_of_two l m n (suc (suc k), within, at) = absurd (omega arith)

-- a unit clause and one with its negation
IsResolvent-unit : (l m : Literal) → l.var ≢ m.var → IsResolvent l (l ∷ []) (negation l ∷ m ∷ []) (m ∷ [])
IsResolvent-unit l m other = record {
  first_has = (0, omega arith, refl);
  second_has = (0, omega arith, refl);
  no_other = λ n here there. sym (Contains-one l n here);
  literals = λ n. (
    λ h. inr (
      (1, omega arith, Contains-one m n h),
      λ same. other (sym (ap (λ (k : Literal). k.var) (Contains-one m n h ∙ same))),
    ),
    λ h. elim h [
      | inl first ↦ absurd (first.1 (sym (Contains-one l n first.0)))
      | inr second ↦
          elim (one_of_two (negation l) m n second.0) [
            | inl pivot ↦ absurd (second.1 pivot)
            | inr is ↦ (0, omega arith, sym is)
          ]
    ],
  );
}

-- the steps after four, from nothing
four_steps : (z one two three t : Told) (s0 s1 s2 s3 : ToldStep) → z ≡ nothing_told → one ≡ with_step z s0 → two ≡ with_step one s1 → three ≡ with_step two s2 → t ≡ with_step three s3 → t.steps ≡ s0 ∷ s1 ∷ s2 ∷ s3 ∷ []
four_steps z one two three t s0 s1 s2 s3 e0 e1 e2 e3 e4 =
    ap (λ (u : Told). u.steps) e4 ∙ ap (λ (u : Told). u.steps ++ s3 ∷ []) e3 ∙ ap (λ (u : Told). (u.steps ++ s2 ∷ []) ++ s3 ∷ []) e2
    ∙ ap (λ (u : Told). ((u.steps ++ s1 ∷ []) ++ s2 ∷ []) ++ s3 ∷ []) e1 ∙ ap (λ (u : Told). (((u.steps ++ s0 ∷ []) ++ s1 ∷ []) ++ s2 ∷ []) ++ s3 ∷ []) e0

-- the chain of the refutation
abbrev pub pivots : Literal → Literal → List ChainStep
pivots x y = record { pivot = x; antecedent = 1 } ∷ record { pivot = y; antecedent = 2 } ∷ []

chain_over : (x y w : Literal) (p q r : ℕ) → x.var ≢ y.var → ChainOk (clause_told (original_step 0 p (x ∷ []) ∷ original_step 1 q (negation x ∷ y ∷ []) ∷ original_step 2 r (negation y ∷ []) ∷ original_step 3 r (x ∷ w ∷ []) ∷ [])) [] 0 (pivots x y)
chain_over x y w p q r other = record {
  start = x ∷ [];
  start_is = refl;
  chain = (negation x ∷ y ∷ [], y ∷ [], refl, IsResolvent-unit x y other, (negation y ∷ [], [], refl, IsResolvent-units y, λ n. (λ h. h, λ h. h)));
}

pub ChainOk-refutation : (z one two three t : Told) (x y nx ny w : Literal) (p q r : ℕ) → x.var ≢ y.var → nx ≡ negation x → ny ≡ negation y → z ≡ nothing_told → one ≡ with_step z (original_step 0 p (x ∷ [])) → two ≡ with_step one (original_step 1 q (nx ∷ y ∷ [])) → three ≡ with_step two (original_step 2 r (ny ∷ [])) → t ≡ with_step three (original_step 3 r (x ∷ w ∷ [])) → (u : Told) → Some t ≡ Some u → ChainOk (clause_told u.steps) [] 0 (pivots x y)
ChainOk-refutation z one two three t x y nx ny w p q r other nx_is ny_is e0 e1 e2 e3 e4 u is =
    let same : t ≡ u = cc in
    subst (λ (v : Told). ChainOk (clause_told v.steps) [] 0 (pivots x y)) same
    (rw (four_steps z one two three t (original_step 0 p (x ∷ [])) (original_step 1 q (nx ∷ y ∷ [])) (original_step 2 r (ny ∷ [])) (original_step 3 r (x ∷ w ∷ [])) e0 e1 e2 e3 e4, nx_is, ny_is) (chain_over x y w p q r other))
