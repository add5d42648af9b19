-- The values of one refutation at its cuts.
use Rattle.std.proofs.Common.{◌≡◌, inl, inr, ℕ, ◌≤◌, Bool, true, false, eqb, leb, ltb, List, [], ◌∷◌, map, Contains, Option, Some, None, refl, sym, subst, ◌∙◌, arith, le-leb, leb-true, ltb-true, lt-ltb}
use Rattle.std.proofs.lemmas.Bool.{cases_Bool, both_ways, or_cases, or_left, or_right}
use Rattle.craig_spec.specs.Literal.{Clause}
use Rattle.craig_spec.specs.Truth.{Assignment}
use Rattle.craig_spec.specs.Chain.{ChainStep, Origin, Original, Derived, ToldStep, Told, antecedents, clause_told, IsTold}
use Rattle.craig_spec.specs.Cut.{is_between, is_on_side_a, is_on_side_b}
use Rattle.craig_spec.specs.PartialInterpolant.{Label, A, AB, B, rank, Labelling, IsBelow, label_at, leaf_a_value, leaf_b_value, chain_value, origin_value, partial_values, partial_interpolant, lowest_labelling, highest_labelling}
use Rattle.craig_spec.proofs.MemberLemmas.{Contains-front, Contains-later}
use Rattle.craig_spec.proofs.ToldLemmas.{clause_told-find}
use Rattle.craig_label.specs.Sides.{Range, SidesView, range_of, is_in_a, is_in_b, occurs_in_a, occurs_in_b}
use Rattle.craig_system.specs.Rules.{labelling}
use Rattle.craig_itp.specs.Labellings.{IsEmptyRoot, PartsHold, ValueImplies, cut_value}
use Rattle.craig_itp.proofs.StandingLemmas.{each_stands, by_antecedents}
use Rattle.craig_itp.proofs.PartialValuesLemmas.{MeetsRules-partial_values}
use Rattle.craig_itp.proofs.TestLemmas.{is_leaf, is_leaf-true, is_leaf-from, is_leaf-false, is_on_side_a-from, is_on_side_b-from, is_between-from}
use Rattle.craig_itp.proofs.TwoLabellingsLemmas.{root-implied}

-- labels rise where variables come to side A and go from side B
label_at-rises : (in_a in_b in_a_later in_b_later : Bool) (mark : Label) → (in_a ≡ true → in_a_later ≡ true) → (in_b_later ≡ true → in_b ≡ true) → leb (rank (label_at in_a in_b mark)) (rank (label_at in_a_later in_b_later mark)) ≡ true
label_at-rises false in_b c d mark up down = le-leb 0 (rank (label_at c d mark)) (omega arith)
label_at-rises true in_b false d mark up down = absurd (let no : false ≡ true = up refl in cc)
label_at-rises true true true true mark up down = le-leb (rank mark) (rank mark) (omega arith)
label_at-rises true true true false A up down = refl
label_at-rises true true true false AB up down = refl
label_at-rises true true true false B up down = refl
label_at-rises true false true true mark up down = absurd (let no : false ≡ true = down refl in cc)
label_at-rises true false true false mark up down = refl

is_in_a-later : (j k : ℕ) (o : Option Range) → j ≤ k → is_in_a j o ≡ true → is_in_a k o ≡ true
is_in_a-later j k None le h = h
is_in_a-later j k (Some r) le h = let first = leb-true r.first j h in le-leb r.first k (omega arith)

is_in_b-earlier : (j k : ℕ) (o : Option Range) → j ≤ k → is_in_b k o ≡ true → is_in_b j o ≡ true
is_in_b-earlier j k None le h = h
is_in_b-earlier j k (Some r) le h =
    elim (or_cases (eqb r.first 0) (ltb k r.last) h) [
      | inl common ↦ or_left (eqb r.first 0) (ltb j r.last) common
      | inr after ↦ or_right (eqb r.first 0) (ltb j r.last) (let last = ltb-true k r.last after in lt-ltb j r.last (omega arith))
    ]

-- the labelling of a later cut is nowhere lower
IsBelow-cuts : (sides : SidesView) (marks : ℕ → Label) (j k : ℕ) → j ≤ k → IsBelow (labelling sides j marks) (labelling sides k marks)
IsBelow-cuts sides marks j k le = record {
  labels = λ x. label_at-rises (occurs_in_a sides j x) (occurs_in_b sides j x) (occurs_in_a sides k x) (occurs_in_b sides k x) (marks x) (is_in_a-later j k (range_of sides x) le) (is_in_b-earlier j k (range_of sides x) le);
  leaves = λ part h. let low = is_leaf-true j part h in is_leaf-from k part low.0 (omega (arith, low.1));
}

label_at-marks : (in_a in_b : Bool) (one two : Label) → leb (rank one) (rank two) ≡ true → leb (rank (label_at in_a in_b one)) (rank (label_at in_a in_b two)) ≡ true
label_at-marks false in_b one two h = refl
label_at-marks true true one two h = h
label_at-marks true false one two h = refl

-- so is that of higher marks
IsBelow-marks : (sides : SidesView) (cut : ℕ) (one two : ℕ → Label) → ((x : ℕ) → leb (rank (one x)) (rank (two x)) ≡ true) → IsBelow (labelling sides cut one) (labelling sides cut two)
IsBelow-marks sides cut one two up = record {
  labels = λ x. label_at-marks (occurs_in_a sides cut x) (occurs_in_b sides cut x) (one x) (two x) (up x);
  leaves = λ part h. h;
}

-- the lowest labelling is below each, and each below the highest
IsBelow-lowest : (l : Labelling) → IsBelow lowest_labelling l
IsBelow-lowest l = record {
  labels = λ x. le-leb 0 (rank (l.label x)) (omega arith);
  leaves = λ part h. absurd (let no : false ≡ true = h in cc);
}

rank-highest : (x : Label) → leb (rank x) 2 ≡ true
rank-highest A = refl
rank-highest AB = refl
rank-highest B = refl

IsBelow-highest : (l : Labelling) → IsBelow l highest_labelling
IsBelow-highest l = record {
  labels = λ x. rank-highest (l.label x);
  leaves = λ part h. refl;
}

pub marks-implied : (sides : SidesView) (cut : ℕ) (one two : ℕ → Label) → ((x : ℕ) → leb (rank (one x)) (rank (two x)) ≡ true) → (t : Told) → IsTold t → (root : ℕ) → clause_told t.steps root ≡ Some [] → (s : Assignment) → ValueImplies (labelling sides cut one) (labelling sides cut two) t.steps root s
marks-implied sides cut one two up t told root empty s =
    root-implied (labelling sides cut one) (labelling sides cut two) (IsBelow-marks sides cut one two up) t told root empty s (λ r part here need is on off. absurd (both_ways (is_leaf cut part) off on))

-- from one cut to a later one
pub cut-step : (sides : SidesView) (marks : ℕ → Label) (t : Told) (root : ℕ) → IsEmptyRoot t root → (j k : ℕ) → j ≤ k → (s : Assignment) → PartsHold (is_between j k) t.steps root s → cut_value sides marks t.steps root j s ≡ true → cut_value sides marks t.steps root k s ≡ true
cut-step sides marks t root r j k le s hold =
    root-implied (labelling sides j marks) (labelling sides k marks) (IsBelow-cuts sides marks j k le) t r.told root r.empty s
    (λ q part here need is on off. hold q part here need is (is_between-from j k part (is_leaf-false j part off) (is_leaf-true k part on).1))

-- the values of the outermost labellings
module _ (s : Assignment) (t : Told) (told : IsTold t) where
  -- what holds of all antecedents of a step holds of those by their ids
  by_ids : (P : ℕ → Type 0) (q : ToldStep) → Contains t.steps q → ((r : ToldStep) → Contains t.steps r → Contains (antecedents q.origin) r.id → P r.id) → (x : ℕ) → Contains (antecedents q.origin) x → P x
  by_ids P q here earlier x ante =
      let r = (each_stands t told q here).given x ante in
      subst P r.2 (earlier r.0 r.1 (subst (λ (y : ℕ). Contains (antecedents q.origin) y) (sym r.2) ante))

  chain_value-true : (f : ℕ → Bool) (left : Bool) (rest : List ChainStep) → left ≡ true → ((x : ℕ) → Contains (map (λ q. q.antecedent) rest) x → f x ≡ true) → chain_value lowest_labelling.label s f left rest ≡ true
  chain_value-true f left [] h known = h
  chain_value-true f left (q ∷ rest) h known =
      let ids : List ℕ = map (λ q. q.antecedent) rest in
      chain_value-true f _ rest (rw (h, known q.antecedent (Contains-front q.antecedent ids)) refl) (λ x here. known x (Contains-later q.antecedent ids x here))

  no_a : (c : Clause) → leaf_b_value lowest_labelling.label s c ≡ true
  no_a [] = refl
  no_a (l ∷ c) = no_a c

  origin_value-true : (f : ℕ → Bool) (c : Clause) (o : Origin) → ((x : ℕ) → Contains (antecedents o) x → f x ≡ true) → origin_value lowest_labelling s f c o ≡ true
  origin_value-true f c (Original part) known = no_a c
  origin_value-true f c (Derived first rest) known =
      let ids : List ℕ = map (λ q. q.antecedent) rest in
      chain_value-true f (f first) rest (known first (Contains-front first ids)) (λ x ante. known x (Contains-later first ids x ante))

  pub lowest-true : (q : ToldStep) → Contains t.steps q → partial_interpolant lowest_labelling t.steps q.id s ≡ true
  lowest-true =
      let f : ℕ → Bool = partial_values lowest_labelling s t.steps in
      by_antecedents t.steps (λ q. f q.id ≡ true) (each_stands t told)
      (λ q here earlier. MeetsRules-partial_values lowest_labelling s t told q here ∙ origin_value-true f q.literals q.origin (by_ids (λ x. f x ≡ true) q here earlier))

  chain_value-false : (f : ℕ → Bool) (left : Bool) (rest : List ChainStep) → left ≡ false → ((x : ℕ) → Contains (map (λ q. q.antecedent) rest) x → f x ≡ false) → chain_value highest_labelling.label s f left rest ≡ false
  chain_value-false f left [] h known = h
  chain_value-false f left (q ∷ rest) h known =
      let ids : List ℕ = map (λ q. q.antecedent) rest in
      chain_value-false f _ rest (rw (h, known q.antecedent (Contains-front q.antecedent ids)) refl) (λ x here. known x (Contains-later q.antecedent ids x here))

  no_b : (c : Clause) → leaf_a_value highest_labelling.label s c ≡ false
  no_b [] = refl
  no_b (l ∷ c) = no_b c

  origin_value-false : (f : ℕ → Bool) (c : Clause) (o : Origin) → ((x : ℕ) → Contains (antecedents o) x → f x ≡ false) → origin_value highest_labelling s f c o ≡ false
  origin_value-false f c (Original part) known = no_b c
  origin_value-false f c (Derived first rest) known =
      let ids : List ℕ = map (λ q. q.antecedent) rest in
      chain_value-false f (f first) rest (known first (Contains-front first ids)) (λ x ante. known x (Contains-later first ids x ante))

  pub highest-false : (q : ToldStep) → Contains t.steps q → partial_interpolant highest_labelling t.steps q.id s ≡ false
  highest-false =
      let f : ℕ → Bool = partial_values highest_labelling s t.steps in
      by_antecedents t.steps (λ q. f q.id ≡ false) (each_stands t told)
      (λ q here earlier. MeetsRules-partial_values highest_labelling s t told q here ∙ origin_value-false f q.literals q.origin (by_ids (λ x. f x ≡ false) q here earlier))

-- of the root
root-true : (t : Told) (root : ℕ) → IsEmptyRoot t root → (s : Assignment) → partial_interpolant lowest_labelling t.steps root s ≡ true
root-true t root r s =
    let q = clause_told-find t.steps root [] r.empty in
    subst (λ (id : ℕ). partial_interpolant lowest_labelling t.steps id s ≡ true) q.2 (lowest-true s t r.told q.0 q.1)

root-false : (t : Told) (root : ℕ) → IsEmptyRoot t root → (s : Assignment) → partial_interpolant highest_labelling t.steps root s ≡ false
root-false t root r s =
    let q = clause_told-find t.steps root [] r.empty in
    subst (λ (id : ℕ). partial_interpolant highest_labelling t.steps id s ≡ false) q.2 (highest-false s t r.told q.0 q.1)

-- the partial interpolant follows from the originals of side A
pub cut-implied : (sides : SidesView) (marks : ℕ → Label) (t : Told) (root : ℕ) → IsEmptyRoot t root → (k : ℕ) (s : Assignment) → PartsHold (is_on_side_a k) t.steps root s → cut_value sides marks t.steps root k s ≡ true
cut-implied sides marks t root r k s hold =
    root-implied lowest_labelling (labelling sides k marks) (IsBelow-lowest (labelling sides k marks)) t r.told root r.empty s
    (λ q part here need is on off. hold q part here need is (is_on_side_a-from k part (is_leaf-true k part on).1)) (root-true t root r s)

-- and contradicts those of side B
pub cut-refuted : (sides : SidesView) (marks : ℕ → Label) (t : Told) (root : ℕ) → IsEmptyRoot t root → (k : ℕ) (s : Assignment) → PartsHold (is_on_side_b k) t.steps root s → cut_value sides marks t.steps root k s ≡ false
cut-refuted sides marks t root r k s hold =
    elim (cases_Bool (cut_value sides marks t.steps root k s)) [
      | inl on ↦ absurd (both_ways (partial_interpolant highest_labelling t.steps root s) (root-false t root r s)
          (root-implied (labelling sides k marks) highest_labelling (IsBelow-highest (labelling sides k marks)) t r.told root r.empty s
          (λ q part here need is leaf off. hold q part here need is (is_on_side_b-from k part (is_leaf-false k part off))) on))
      | inr off ↦ off
    ]

-- all originals contradict one another
pub cut-nothing_left : (t : Told) (root : ℕ) → IsEmptyRoot t root → (s : Assignment) → PartsHold (λ part. true) t.steps root s → ⊥
cut-nothing_left t root r s hold =
    both_ways (partial_interpolant highest_labelling t.steps root s) (root-false t root r s)
    (root-implied lowest_labelling highest_labelling (IsBelow-lowest highest_labelling) t r.told root r.empty s (λ q part here need is on off. hold q part here need is refl) (root-true t root r s))
