-- What sequences of interpolants and failed assumptions say of parts.
use Rattle.std.proofs.Common.{◌≡◌, ◌∙◌, sym, ap, subst, refl, inl, inr, ◌⊎◌, ℕ, zero, suc, length, slice_index, ◌+◌, ◌<◌, ◌≤◌, Bool, true, false, not, ◌&&◌, cond, List, [], ◌∷◌, map, filter, get_or, Contains, Some, slice_get, arith, leb-true, ltb-true, eqb-true, IsTrue}
use Rattle.std.specs.List.Sorted.{IsStrictlyIncreasing}
use Rattle.std.proofs.lemmas.Bool.{and_from, and_parts, cases_order, or_cases}
use Rattle.std.proofs.lemmas.List.Elements.{All-contains, Contains-append_cases}
use Rattle.std.proofs.lemmas.Option.{get_or_from_slice_get, slice_get-get_or}
use Rattle.craig_spec.specs.Circuit.{Circuit, circuit_value}
use Rattle.craig_spec.specs.Cut.{PartClause, PartLiteral, clauses_within, is_between, is_on_side_a, is_on_side_b, with_units}
use Rattle.craig_spec.specs.FailedAssumptions.{NamesFailed}
use Rattle.craig_spec.specs.Literal.{Literal}
use Rattle.craig_spec.specs.Occurs.{occurs, occurs_in_clause}
use Rattle.craig_spec.specs.Sequence.{IsOutputAt, IsSequence}
use Rattle.craig_spec.specs.Truth.{Assignment, IsModel, clause_value}
use Rattle.craig_spec.proofs.ClauseLemmas.{clause_value-member, occurs_in_clause-find}
use Rattle.craig_spec.proofs.MemberLemmas.{Contains-from_image, Contains-from_slice_get, Contains-one, Contains-front, Contains-later, list_any-find, slice_get-below, slice_get-from_map, slice_get-to_map}
use Rattle.craig_itp.proofs.TestLemmas.{is_on_side_a-true, is_on_side_b-true}
use Rattle.craig_top.proofs.SidesLemmas.{occurs-within}
use Rattle.craig_top.specs.TrueParts.{AreFirstOnes, AreImplied, AreOfCuts, AreRefuted, AreRisingUpTo, IsLiteralAt, ImplyLaterOnes, AreTrueWith, ClausesAreTrue, ClausesHave, FirstPlacesRise, HaveWith, IsFirstAt, ReachSharedVariables}

-- clauses of parts are true where each one is
all-within : (s : Assignment) (test : ℕ → Bool) (cs : List PartClause) → ((p : PartClause) → Contains cs p → test p.part ≡ true → clause_value s p.clause ≡ true) → IsModel s (clauses_within test cs)
all-within s test [] each = refl
all-within s test (c ∷ cs) each = here (test c.part) (filter (λ (d : PartClause). test d.part) cs) (each c (Contains-front c cs)) (all-within s test cs (λ p h. each p (Contains-later c cs p h)))
  where
    here : (t : Bool) (rest : List PartClause) → (t ≡ true → clause_value s c.clause ≡ true) → IsModel s (map (λ (d : PartClause). d.clause) rest) → IsModel s (map (λ (d : PartClause). d.clause) (cond t (c ∷ rest) rest))
    here true rest first later = and_from _ _ (first refl) later
    here false rest first later = later

-- what occurs in them stands in one
have-within : (x : ℕ) (test : ℕ → Bool) (cs : List PartClause) → occurs x (clauses_within test cs) ≡ true → ClausesHave cs x (λ part. test part ≡ true)
have-within x test cs h =
    let p = list_any-find (λ (c : PartClause). test c.part && occurs_in_clause x c.clause) cs (sym (occurs-within x test cs) ∙ h) in
    let both = and_parts _ _ p.2 in
    let l = occurs_in_clause-find x (p.0).clause both.1 in
    (p.0, p.1, both.0, l.0, l.1, l.2)

is_false : (b : Bool) → not b ≡ true → b ≡ false
is_false true h = absurd (let no : false ≡ true = h in cc)
is_false false h = refl

-- of rising numbers an earlier one is below a later one
rising_pairs : (xs : List ℕ) → IsStrictlyIncreasing xs → (i j a b : ℕ) → i < j → slice_get xs i ≡ Some a → slice_get xs j ≡ Some b → a < b
rising_pairs xs rising i j a b before at_i at_j =
    let within : j < length xs = slice_get-below xs j b at_j in
    let less : slice_index xs i < slice_index xs j = strictly_below xs rising i j before within in
    let first : slice_index xs i ≡ a = get_or_from_slice_get xs i a 0 at_i in
    let second : slice_index xs j ≡ b = get_or_from_slice_get xs j b 0 at_j in
    omega arith
  where
    strictly_below : (ys : List ℕ) → IsStrictlyIncreasing ys → (k m : ℕ) → k < m → m < length ys → slice_index ys k < slice_index ys m
    strictly_below ys up k zero less inside = absurd (omega (arith, less))
    strictly_below ys up k (suc m) less inside = elim (cases_order k m) [
      | inl same ↦ (let next : slice_index ys m < slice_index ys (m + 1) = up m (omega (arith, inside)) in let e : suc m ≡ m + 1 = omega arith in rw (e, same) next)
      | inr order ↦ elim order [
        | inl under ↦ (let one = strictly_below ys up k m under (omega (arith, inside)) in let next : slice_index ys m < slice_index ys (m + 1) = up m (omega (arith, inside)) in let e : suc m ≡ m + 1 = omega arith in rw e (omega (arith, one, next)))
        | inr above ↦ absurd (omega (arith, less, above))
      ]
    ]

-- part 0 and the parts between two cuts
in_between : (cut later part : ℕ) → is_between cut later part ≡ true → (part ≡ 0) ⊎ ((cut < part) × (part ≤ later))
in_between cut later part h = elim (or_cases _ _ h) [
  | inl t ↦ inl (eqb-true part 0 t)
  | inr t ↦ (let both = and_parts _ _ t in inr (ltb-true cut part both.0, leb-true part later both.1))
]

module _ (clauses : List PartClause) (parts : ℕ) (cuts : List ℕ) (c : Circuit) (literals : List ℕ) (sequence : IsSequence clauses parts cuts c literals) where
  output_at : (cut l : ℕ) (at : IsLiteralAt cuts literals cut l) → IsOutputAt cuts literals at.0 cut l
  output_at cut l at = record { cut_is = at.1; literal_is = at.2 }

  pub rising_up_to : AreRisingUpTo parts cuts
  rising_up_to = (
    sequence.chosen.some,
    λ i j a b before at_i at_j. rising_pairs cuts sequence.chosen.rising i j a b before at_i at_j,
    λ cut here. All-contains (λ n. n ≤ parts) cuts cut sequence.chosen.within here,
  )

  pub of_cuts : AreOfCuts parts cuts literals
  of_cuts = (sequence.count, λ l at. sequence.first at.0 l (output_at 0 l at), λ l at. sequence.last at.0 l (output_at parts l at))

  pub are_implied : AreImplied (ClausesAreTrue clauses) cuts c literals
  are_implied cut l at s holds = (sequence.separate at.0 cut l (output_at cut l at)).implied s (all-within s (is_on_side_a cut) clauses (λ p here low. holds p here (is_on_side_a-true cut p.part low)))

  pub are_refuted : AreRefuted (ClausesAreTrue clauses) cuts c literals
  are_refuted cut l at s holds = is_false (circuit_value s c l) ((sequence.separate at.0 cut l (output_at cut l at)).refuted s (all-within s (is_on_side_b cut) clauses (λ p here high. holds p here (is_on_side_b-true cut p.part high))))

  pub reach_shared : ReachSharedVariables (ClausesHave clauses) cuts c literals
  reach_shared cut l x at here =
      let both = (sequence.separate at.0 cut l (output_at cut l at)).shared x here in
      let a = have-within x (is_on_side_a cut) clauses both.0 in
      let b = have-within x (is_on_side_b cut) clauses both.1 in
      ((a.0, a.1, is_on_side_a-true cut (a.0).part a.2, a.3, a.4, a.5), (b.0, b.1, is_on_side_b-true cut (b.0).part b.2, b.3, b.4, b.5))

  pub imply_later : ImplyLaterOnes (ClausesAreTrue clauses) cuts c literals
  imply_later cut later l m at then before s value holds =
      sequence.onward at.0 then.0 cut later l m (output_at cut l at) (output_at later m then) before s value (all-within s (is_between cut later) clauses (λ p here same. holds p here (in_between cut later p.part same)))

-- ---- with the units of failed assumptions

module _ (accepted : List PartClause) (failed : List PartLiteral) where
  units_hold : (s : Assignment) (IsIn : ℕ → Type 0) → AreTrueWith accepted failed s IsIn → ClausesAreTrue (with_units accepted failed) s IsIn
  units_hold s IsIn (clauses, literals) p here inside = elim (Contains-append_cases accepted (map (λ (f : PartLiteral). record { part = f.part; clause = f.literal ∷ [] }) failed) p here) [
    | inl old ↦ clauses p old inside
    | inr unit ↦ (
        let found = Contains-from_image (λ (f : PartLiteral). record { part = f.part; clause = f.literal ∷ [] }) failed p unit in
        let f : PartLiteral = found.0 in
        subst (λ (q : PartClause). IsTrue (clause_value s q.clause)) (sym found.2)
        (clause_value-member s (f.literal ∷ []) f.literal (Contains-front f.literal []) (literals f found.1 (subst (λ (q : PartClause). IsIn q.part) found.2 inside))))
  ]

  units_have : (x : ℕ) (IsIn : ℕ → Type 0) → ClausesHave (with_units accepted failed) x IsIn → HaveWith accepted failed x IsIn
  units_have x IsIn (p, here, inside, l, member, is) = elim (Contains-append_cases accepted (map (λ (f : PartLiteral). record { part = f.part; clause = f.literal ∷ [] }) failed) p here) [
    | inl old ↦ inl (p, old, inside, l, member, is)
    | inr unit ↦ inr (
        let found = Contains-from_image (λ (f : PartLiteral). record { part = f.part; clause = f.literal ∷ [] }) failed p unit in
        let f : PartLiteral = found.0 in
        let alone : Contains (f.literal ∷ []) l = subst (λ (q : PartClause). Contains q.clause l) found.2 member in
        (f, found.1, subst (λ (q : PartClause). IsIn q.part) found.2 inside, ap (λ (m : Literal). m.var) (Contains-one f.literal l alone) ∙ is))
  ]

  module _ (parts : ℕ) (cuts : List ℕ) (c : Circuit) (ls : List ℕ) (sequence : IsSequence (with_units accepted failed) parts cuts c ls) where
    pub are_implied-units : AreImplied (AreTrueWith accepted failed) cuts c ls
    are_implied-units cut l at s holds = are_implied (with_units accepted failed) parts cuts c ls sequence cut l at s (units_hold s (λ part. part ≤ cut) holds)

    pub are_refuted-units : AreRefuted (AreTrueWith accepted failed) cuts c ls
    are_refuted-units cut l at s holds = are_refuted (with_units accepted failed) parts cuts c ls sequence cut l at s (units_hold s (λ part. (part ≡ 0) ⊎ (cut < part)) holds)

    pub reach_shared-units : ReachSharedVariables (HaveWith accepted failed) cuts c ls
    reach_shared-units cut l x at here =
        let both = reach_shared (with_units accepted failed) parts cuts c ls sequence cut l x at here in
        (units_have x (λ part. part ≤ cut) both.0, units_have x (λ part. (part ≡ 0) ⊎ (cut < part)) both.1)

    pub imply_later-units : ImplyLaterOnes (AreTrueWith accepted failed) cuts c ls
    imply_later-units cut later l m at then before s value holds =
        imply_later (with_units accepted failed) parts cuts c ls sequence cut later l m at then before s value (units_hold s (λ part. (part ≡ 0) ⊎ ((cut < part) × (part ≤ later))) holds)

-- ---- failed assumptions

-- things that are there are the same
pub some_same : {A : Type 0} (x y : A) → Some x ≡ Some y → x ≡ y
some_same x y e = cc

-- a literal has one first place
one_first : (assumptions : List PartLiteral) (p q : ℕ) (f : PartLiteral) → IsFirstAt assumptions p f → IsFirstAt assumptions q f → p ≡ q
one_first assumptions p q f a b = elim (cases_order p q) [
  | inl same ↦ same
  | inr order ↦ elim order [
    | inl less ↦ absurd (b.1 p f less a.0 refl)
    | inr more ↦ absurd (a.1 q f more b.0 refl)
  ]
]

module _ (assumptions failed : List PartLiteral) (names : NamesFailed assumptions failed) where
  -- each is at its place
  failed_at : (i : ℕ) (f : PartLiteral) → slice_get failed i ≡ Some f → (p : ℕ) × (slice_get names.places i ≡ Some p) × IsFirstAt assumptions p f
  failed_at i f is =
      let some : slice_get (map Some failed) i ≡ Some (Some f) = slice_get-to_map Some failed i f is in
      let found = slice_get-from_map (slice_get assumptions) names.places i (Some f) (ap (λ os. slice_get os i) names.failed_are ∙ some) in
      let member : Contains names.places found.0 = Contains-from_slice_get names.places i found.0 found.1 in
      (found.0, found.1, (found.2, λ earlier b low at. names.first found.0 earlier f b member found.2 low at))

  pub first_ones : AreFirstOnes assumptions failed
  first_ones f (i, within, at) =
      let found = failed_at i f (slice_get-get_or failed i f within ∙ ap Some at) in
      (found.0, found.2)

  pub first_places_rise : FirstPlacesRise assumptions failed
  first_places_rise i p q f g one next a b =
      let x = failed_at i f one in
      let y = failed_at (i + 1) g next in
      let p_is : p ≡ x.0 = one_first assumptions p x.0 f a x.2 in
      let q_is : q ≡ y.0 = one_first assumptions q y.0 g b y.2 in
      let low : get_or names.places i 0 ≡ x.0 = get_or_from_slice_get names.places i x.0 0 x.1 in
      let high : get_or names.places (i + 1) 0 ≡ y.0 = get_or_from_slice_get names.places (i + 1) y.0 0 y.1 in
      let up = names.rising i (slice_get-below names.places (i + 1) y.0 y.1) in
      omega (arith, up, low, high, p_is, q_is)
