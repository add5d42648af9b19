-- The chain that resolves with the units of failed assumptions.
use Rattle.std.proofs.Common.{◌≡◌, ◌≢◌, ◌⊎◌, inl, inr, ℕ, suc, ◌+◌, ◌<◌, Bool, true, false, not, List, [], ◌∷◌, ◌++◌, length, get_or, map, AllPairs, Contains, Option, Some, None, refl, sym, ap, subst, ◌∙◌, arith}
use Rattle.std.specs.List.{slice_get}
use Rattle.std.specs.Option.{option_to_list}
use Rattle.std.proofs.lemmas.List.{append-nil, append_assoc}
use Rattle.std.proofs.lemmas.Option.{same_Some, slice_get_within}
use Rattle.craig_spec.specs.Literal.{Literal, Clause, negation}
use Rattle.craig_spec.specs.Chain.{ChainOk, GivesSame, IsResolvent, SameLiterals}
use Rattle.craig_spec.proofs.ClauseLemmas.{SameLiterals-refl}
use Rattle.craig_spec.proofs.LiteralLemmas.{negation_twice}
use Rattle.craig_spec.proofs.MemberLemmas.{Contains-cases, Contains-from_image, Contains-front, Contains-image, Contains-later, Contains-one}
use Rattle.craig_base.specs.declared.script_part.Part.{Part}
use Rattle.craig_proof.specs.Tracer.{chain_of}
use Rattle.craig_proof.specs.declared.step.Step.{Step}
use Rattle.craig_proof.proofs.ChainGrowthLemmas.{ChainOk-order, ChainOk-push, ChainOk-start}
use Rattle.craig_proof.proofs.CallerLemmas.{IsResolvent-units}
use Rattle.craig_proof.proofs.ChainLemmas.{ChainOk-same}
use Rattle.craig_search.specs.Assuming.{AreNegated, IsAssumed, NegatesAt}
use Rattle.craig_search.specs.Failing.{look_up, unit_chain}
use Rattle.craig_search.specs.Verdict.{Assumptions, at_places}
use Rattle.craig_search.proofs.UnitLemmas.{look_up-low, look_up-unit}

-- the negations of the assumptions
abbrev pub negations : Assumptions → Clause
negations assumptions = map (λ a. negation a.1) assumptions

-- no two have one literal
abbrev pub AreApart : Assumptions → Type 0
AreApart [] = Unit {0}
AreApart (a ∷ assumptions) = ((b : Part × Literal) → Contains assumptions b → a.1 ≢ b.1) × AreApart assumptions

from-cases : (o : Option (Part × Literal)) (xs : Assumptions) (b : Part × Literal) → Contains (option_to_list o ++ xs) b → (o ≡ Some b) ⊎ Contains xs b
from-cases None xs b has = inr has
from-cases (Some c) xs b has = elim (Contains-cases c xs b has) [ inl is ↦ inl (ap (λ (x : Part × Literal). Some x) is) | inr rest ↦ inr rest ]

pub at_places-from : (assumptions : Assumptions) (places : List ℕ) (b : Part × Literal) → Contains (at_places assumptions places) b → (q : ℕ) × Contains places q × (slice_get assumptions q ≡ Some b)
at_places-from assumptions [] b has = absurd (let w : has.0 < 0 = has.1 in omega arith)
at_places-from assumptions (p ∷ places) b has = elim (from-cases (slice_get assumptions p) (at_places assumptions places) b has) [
  | inl is ↦ (p, Contains-front p places, is)
  | inr rest ↦ (let f = at_places-from assumptions places b rest in (f.0, Contains-later p places f.0 f.1, f.2))
]

has-cases : (o : Option (Part × Literal)) (xs : Assumptions) (b : Part × Literal) → (o ≡ Some b) ⊎ Contains xs b → Contains (option_to_list o ++ xs) b
has-cases None xs b (inl is) = absurd (let no : None ≡ Some b = is in cc)
has-cases None xs b (inr has) = has
has-cases (Some c) xs b (inl is) = subst (Contains (c ∷ xs)) (same_Some c b is) (Contains-front c xs)
has-cases (Some c) xs b (inr has) = Contains-later c xs b has

pub at_places-has : (assumptions : Assumptions) (places : List ℕ) (q : ℕ) (b : Part × Literal) → Contains places q → slice_get assumptions q ≡ Some b → Contains (at_places assumptions places) b
at_places-has assumptions [] q b has is = absurd (let w : has.0 < 0 = has.1 in omega arith)
at_places-has assumptions (p ∷ places) q b has is = has-cases (slice_get assumptions p) (at_places assumptions places) b (elim (Contains-cases p places q has) [
  | inl same ↦ inl (ap (slice_get assumptions) same ∙ is)
  | inr rest ↦ inr (at_places-has assumptions places q b rest is)
])

pub apart-places : (assumptions : Assumptions) (c : Clause) (places : List ℕ) → AllPairs (λ p q. p < q) places → ((p : ℕ) → Contains places p → NegatesAt assumptions c p) → AreApart (at_places assumptions places)
apart-places assumptions c [] rising each = tt
apart-places assumptions c (p ∷ places) rising each =
    let here = each p (Contains-front p places) in
    let rest : AreApart (at_places assumptions places) = apart-places assumptions c places (λ i j d before within. rising (suc i) (suc j) d (omega (arith, before)) (omega (arith, within))) (λ q has. each q (Contains-later p places q has)) in
    let other : (b : Part × Literal) → Contains (at_places assumptions places) b → here.0.1 ≢ b.1 = λ b has. (
    let f = at_places-from assumptions places b has in
    let there = each f.0 (Contains-later p places f.0 f.1) in
    let same : there.0 ≡ b = same_Some _ _ (sym there.1 ∙ f.2) in
    let less : p < get_or places f.1.0 f.0 = rising 0 (suc f.1.0) f.0 (omega arith) (omega (arith, f.1.1)) in
    let at : get_or places f.1.0 f.0 ≡ f.0 = f.1.2 in
    subst (λ (x : Part × Literal). here.0.1 ≢ x.1) same (there.3 p here.0 (omega arith) here.1)
    ) in
    rw here.1 (other, rest)

-- a clause resolved with the unit of its first literal's negation
unit-resolvent : (l : Literal) (rest : Clause) → ¬ Contains rest (negation l) → IsResolvent (negation l) (negation l ∷ rest) (l ∷ []) rest
unit-resolvent l rest absent = record {
  first_has = Contains-front (negation l) rest;
  second_has = subst (Contains (l ∷ [])) (sym (negation_twice l)) (Contains-front l []);
  no_other = λ m here there. sym (negation_twice m) ∙ ap negation (sym (Contains-one l (negation m) there));
  literals = λ m. (
    λ has. inl (Contains-later (negation l) rest m has, λ e. absent (subst (Contains rest) e has)),
    λ either. elim either [
      | inl first ↦ elim (Contains-cases (negation l) rest m first.0) [ inl is ↦ absurd (first.1 (sym is)) | inr has ↦ has ]
      | inr second ↦ absurd (second.1 (sym (Contains-one l m second.0) ∙ sym (negation_twice l)))
    ],
  );
}

pub negation-same : (l m : Literal) → negation l ≡ negation m → l ≡ m
negation-same l m e = sym (negation_twice l) ∙ ap negation e ∙ negation_twice m

pub chain-units : (g : ℕ → Option Clause) (xs : Assumptions) (id first : ℕ) (rest : List Step) → AreApart xs → ((k : ℕ) (a : Part × Literal) → slice_get xs k ≡ Some a → g (id + k) ≡ Some (a.1 ∷ [])) → ChainOk g (negations xs) first (chain_of rest) → ChainOk g [] first (chain_of (rest ++ unit_chain id xs))
chain-units g [] id first rest apart units chain = subst (λ (steps : List Step). ChainOk g [] first (chain_of steps)) (sym (append-nil rest)) chain
chain-units g (a ∷ xs) id first rest (other, apart) units chain =
    let s : Step = record { pivot = negation a.1; antecedent = record { 0 = id } } in
    let here : id ≡ id + 0 = omega arith in
    let found : g id ≡ Some (a.1 ∷ []) = ap g here ∙ units 0 a refl in
    let absent : ¬ Contains (negations xs) (negation a.1) = λ has. (let f = Contains-from_image (λ (b : Part × Literal). negation b.1) xs (negation a.1) has in other f.0 f.1 (negation-same a.1 f.0.1 f.2)) in
    let one : ChainOk g (negations xs) first (chain_of (rest ++ s ∷ [])) = ChainOk-push g (negation a.1 ∷ negations xs) first rest s (a.1 ∷ []) (negations xs) chain found (unit-resolvent a.1 (negations xs) absent) in
    let later : (k : ℕ) (b : Part × Literal) → slice_get xs k ≡ Some b → g (suc id + k) ≡ Some (b.1 ∷ []) = λ k b is. (let same : suc id + k ≡ id + suc k = omega arith in ap g same ∙ units (suc k) b is) in
    subst (λ (steps : List Step). ChainOk g [] first (chain_of steps)) (append_assoc rest (s ∷ []) (unit_chain (suc id) xs)) (chain-units g xs (suc id) first (rest ++ s ∷ []) apart later one)

-- a clause of negated assumptions is that of the negations at its places
core-same : (assumptions : Assumptions) (c : Clause) (places : List ℕ) → AreNegated assumptions c (length assumptions) places → ((m : Literal) → Contains c m → IsAssumed assumptions (negation m)) → SameLiterals c (negations (at_places assumptions places))
core-same assumptions c places n assumed l = (
  λ has.
      let p = assumed l has in
      let back : negation p.1.1 ≡ l = ap negation p.3 ∙ negation_twice l in
      let q = n.all p.0 p.1 (slice_get_within assumptions p.0 p.1 p.2) p.2 (subst (Contains c) (sym back) has) in
      subst (Contains (negations (at_places assumptions places))) (ap negation q.4 ∙ back) (Contains-image (λ (b : Part × Literal). negation b.1) (at_places assumptions places) q.1 (at_places-has assumptions places q.0 q.1 q.2 q.3)),
  λ has.
      let b = Contains-from_image (λ (b : Part × Literal). negation b.1) (at_places assumptions places) l has in
      let q = at_places-from assumptions places b.0 b.1 in
      let there = (n.each q.0 q.1).1 in
      let same : there.0 ≡ b.0 = same_Some _ _ (sym there.1 ∙ q.2) in
      subst (Contains c) (ap (λ (x : Part × Literal). negation x.1) same ∙ sym b.2) there.2,
)

-- the clause resolved with the units is empty
pub core-refuted : (f : ℕ → Option Clause) (given : ℕ) (assumptions : Assumptions) (c : Clause) (places : List ℕ) (first : ℕ) (rest : List Step) → ((id : ℕ) (d : Clause) → f id ≡ Some d → id < given) → ChainOk f c first (chain_of rest) → AreNegated assumptions c (length assumptions) places → ((m : Literal) → Contains c m → IsAssumed assumptions (negation m)) → ChainOk (look_up f given (at_places assumptions places)) [] first (chain_of (rest ++ unit_chain given (at_places assumptions places)))
core-refuted f given assumptions c places first rest below chain n assumed =
    let xs : Assumptions = at_places assumptions places in
    let gives : (id : ℕ) → GivesSame f (look_up f given xs) id = λ id d is. (d, look_up-low f given xs id (below id d is) ∙ is, SameLiterals-refl d) in
    let over : ChainOk (look_up f given xs) c first (chain_of rest) = ChainOk-same f (look_up f given xs) c first (chain_of rest) (λ id named. gives id) chain in
    chain-units (look_up f given xs) xs given first rest (apart-places assumptions c places n.rising (λ p has. (n.each p has).1)) (λ k a is. look_up-unit f given xs k a is) (ChainOk-order (look_up f given xs) c (negations xs) first (chain_of rest) over (core-same assumptions c places n assumed))

-- the units of a literal and of its negation
not-cases : (b : Bool) → b ≡ not b → ⊥
not-cases true e = let no : true ≡ false = e in cc
not-cases false e = let no : false ≡ true = e in cc

not-itself : (l : Literal) → l ≢ negation l
not-itself l e = not-cases l.negated (ap (λ (m : Literal). m.negated) e)

pair-cases : (l m n : Literal) → (m ≡ l) ⊎ (m ≡ negation l) → (n ≡ l) ⊎ (n ≡ negation l) → m ≢ n → n ≡ negation m
pair-cases l m n (inl p) (inl q) other = absurd (other (p ∙ sym q))
pair-cases l m n (inl p) (inr q) other = q ∙ ap negation (sym p)
pair-cases l m n (inr p) (inl q) other = q ∙ sym (negation_twice l) ∙ ap negation (sym p)
pair-cases l m n (inr p) (inr q) other = absurd (other (p ∙ sym q))

pub clash-cases : (xs : Assumptions) (l : Literal) → AreApart xs → ((a : Part × Literal) → Contains xs a → (a.1 ≡ l) ⊎ (a.1 ≡ negation l)) → ((a : Part × Literal) × Contains xs a × (a.1 ≡ l)) → ((a : Part × Literal) × Contains xs a × (a.1 ≡ negation l)) → (a : Part × Literal) × (b : Part × Literal) × (xs ≡ a ∷ b ∷ []) × (b.1 ≡ negation a.1)
clash-cases [] l apart either one two = absurd (let w : one.1.0 < 0 = one.1.1 in omega arith)
clash-cases (a ∷ []) l apart either one two =
    let first : a ≡ one.0 = Contains-one a one.0 one.1 in
    let second : a ≡ two.0 = Contains-one a two.0 two.1 in
    absurd (not-itself l (sym (ap (λ (x : Part × Literal). x.1) first ∙ one.2) ∙ ap (λ (x : Part × Literal). x.1) second ∙ two.2))
clash-cases (a ∷ b ∷ []) l (other, rest) either one two =
    (a, b, refl, pair-cases l a.1 b.1 (either a (Contains-front a (b ∷ []))) (either b (Contains-later a (b ∷ []) b (Contains-front b []))) (other b (Contains-front b [])))
clash-cases (a ∷ b ∷ c ∷ xs) l (other, later) either one two =
    let is_a = either a (Contains-front a (b ∷ c ∷ xs)) in
    let is_b : b.1 ≡ negation a.1 = pair-cases l a.1 b.1 is_a (either b (Contains-later a (b ∷ c ∷ xs) b (Contains-front b (c ∷ xs)))) (other b (Contains-front b (c ∷ xs))) in
    let is_c : c.1 ≡ negation a.1 = pair-cases l a.1 c.1 is_a (either c (Contains-later a (b ∷ c ∷ xs) c (Contains-later b (c ∷ xs) c (Contains-front c xs)))) (other c (Contains-later b (c ∷ xs) c (Contains-front c xs))) in
    absurd (later.0 c (Contains-front c xs) (is_b ∙ sym is_c))

-- the chain of two units
clash-chain : (g : ℕ → Option Clause) (id : ℕ) (a b : Part × Literal) → g id ≡ Some (a.1 ∷ []) → g (suc id) ≡ Some (b.1 ∷ []) → b.1 ≡ negation a.1 → ChainOk g [] id (chain_of (record { pivot = negation b.1; antecedent = record { 0 = suc id } } ∷ []))
clash-chain g id a b here there is =
    let s : Step = record { pivot = negation b.1; antecedent = record { 0 = suc id } } in
    let pivot : negation b.1 ≡ a.1 = ap negation is ∙ negation_twice a.1 in
    ChainOk-push g (a.1 ∷ []) id [] s (b.1 ∷ []) [] (ChainOk-start g (a.1 ∷ []) id here) there
    (subst (λ (p : Literal). IsResolvent p (a.1 ∷ []) (b.1 ∷ []) []) (sym pivot) (subst (λ (m : Literal). IsResolvent a.1 (a.1 ∷ []) (m ∷ []) []) (sym is) (IsResolvent-units a.1)))

-- the first of the steps with the units, and the chain behind it
pub clash-refuted : (f : ℕ → Option Clause) (given : ℕ) (assumptions : Assumptions) (l : Literal) (places : List ℕ) (steps : List Step) → AreNegated assumptions (l ∷ negation l ∷ []) (length assumptions) places → IsAssumed assumptions l → IsAssumed assumptions (negation l) → steps ≡ unit_chain given (at_places assumptions places) → (s : Step) × (r : Step) × (steps ≡ s ∷ r ∷ []) × ChainOk (look_up f given (at_places assumptions places)) [] s.antecedent.0 (chain_of (r ∷ []))
clash-refuted f given assumptions l places steps n yes_l not_l is =
    let xs : Assumptions = at_places assumptions places in
    let c : Clause = l ∷ negation l ∷ [] in
    let member : (m : Literal) → Contains c (negation m) → IsAssumed assumptions m → (b : Part × Literal) × Contains xs b × (b.1 ≡ m) = λ m has p. (let q = n.all p.0 p.1 (slice_get_within assumptions p.0 p.1 p.2) p.2 (subst (λ (k : Literal). Contains c (negation k)) (sym p.3) has) in (q.1, at_places-has assumptions places q.0 q.1 q.2 q.3, q.4 ∙ p.3)) in
    let either : (a : Part × Literal) → Contains xs a → (a.1 ≡ l) ⊎ (a.1 ≡ negation l) = λ a has. (
    let q = at_places-from assumptions places a has in
    let there = (n.each q.0 q.1).1 in
    let same : there.0 ≡ a = same_Some _ _ (sym there.1 ∙ q.2) in
    let here : Contains c (negation a.1) = subst (λ (x : Part × Literal). Contains c (negation x.1)) same there.2 in
    elim (Contains-cases l (negation l ∷ []) (negation a.1) here) [
      | inl e ↦ inr (sym (negation_twice a.1) ∙ ap negation (sym e))
      | inr rest ↦ inl (negation-same a.1 l (sym (Contains-one (negation l) (negation a.1) rest)))
    ]
    ) in
    let two = clash-cases xs l (apart-places assumptions c places n.rising (λ p has. (n.each p has).1)) either (member l (Contains-later l (negation l ∷ []) (negation l) (Contains-front (negation l) [])) yes_l) (member (negation l) (subst (Contains c) (sym (negation_twice l)) (Contains-front l (negation l ∷ []))) not_l) in
    let a : Part × Literal = two.0 in
    let b : Part × Literal = two.1 in
    let g : ℕ → Option Clause = look_up f given xs in
    let here : g given ≡ Some (a.1 ∷ []) = (let z : given ≡ given + 0 = omega arith in ap g z ∙ look_up-unit f given xs 0 a (ap (λ (ys : Assumptions). slice_get ys 0) two.2)) in
    let there : g (suc given) ≡ Some (b.1 ∷ []) = (let z : suc given ≡ given + 1 = omega arith in ap g z ∙ look_up-unit f given xs 1 b (ap (λ (ys : Assumptions). slice_get ys 1) two.2)) in
    (record { pivot = negation a.1; antecedent = record { 0 = given } }, record { pivot = negation b.1; antecedent = record { 0 = suc given } }, is ∙ ap (unit_chain given) two.2, clash-chain g given a b here there two.3)
