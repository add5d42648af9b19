-- What the steps of a refutation are, and which of a session's steps they are.
use Rattle.std.proofs.Common.{◌≡◌, ◌∙◌, sym, ap, subst, refl, ◌⊎◌, inl, inr, ℕ, zero, suc, ◌+◌, ◌<◌, ◌≤◌, Bool, true, false, cond, List, [], ◌∷◌, length, take, map, filter, get_or, Contains, Option, Some, slice_get, arith, length-append}
use Rattle.std.proofs.lemmas.Bool.{cases_order}
use Rattle.std.proofs.lemmas.List.Elements.{All-contains, Contains-append_right}
use Rattle.std.proofs.lemmas.Option.{get_or_from_slice_get}
use Rattle.craig_spec.specs.Chain.{ChainOk, ChainStep, Derived, IsChain, IsResolvent, IsTold, Origin, SameLiterals, StandsOn, Told, ToldStep, antecedents, clause_told}
use Rattle.craig_spec.specs.Circuit.{Circuit}
use Rattle.craig_spec.specs.Cut.{PartClause}
use Rattle.craig_spec.specs.DrawnFromOneRefutation.{DrawnFromOneRefutation, IsOriginalOf, IsRefutationOf, MarkedLiterals, HaveRootValues, occurrence_labelling}
use Rattle.craig_spec.specs.Literal.{Clause, Literal, negation}
use Rattle.craig_spec.specs.Needed.{AllFollow, IsNeeded, unforgotten}
use Rattle.craig_spec.specs.PartialInterpolant.{Labelling, partial_values}
use Rattle.craig_spec.specs.Truth.{Assignment, IsUnsatisfiable, clause_value, literal_value}
use Rattle.craig_spec.proofs.ClauseLemmas.{clause_value-find, clause_value-member, clause_value-same}
use Rattle.craig_spec.proofs.LiteralLemmas.{same_or_not, literal_value-negation}
use Rattle.craig_spec.proofs.MemberLemmas.{Contains-cases, Contains-from_image, Contains-front, Contains-image, Contains-later, list_all-member, slice_get-below, slice_get-front}
use Rattle.craig_spec.proofs.ToldLemmas.{clause_told-find}
use Rattle.craig_itp.specs.Labellings.{MeetsRules}
use Rattle.craig_top.specs.DrawnSteps.{AreAlong, AreByTheRules, AreInOrder, AreNeededOnes, ClashOnlyOn, DerivedAreResolved, DerivedFollow, EndInTheEmptyClause, FollowsFrom, HasAllBut, HasNoOther, IdsRise, IsEmptyOne, IsResolvedAt, OriginalsAreClauses, OriginalsAreNormal}
use Rattle.craig_top.specs.LastRefutation.{IsOfLastRoot, IsRefutationBy}
use Rattle.craig_top.specs.Named.{named_step}
use Rattle.craig_top.specs.GivenState.{State}
use Rattle.craig_top.proofs.ListedLiteralsLemmas.{not_both}
use Rattle.craig_top.proofs.NotedLemmas.{IsOriginal-from, same_part}
use Rattle.craig_spec.specs.Cut.{PartLiteral}

-- ---- resolvents

module _ (pivot : Literal) (c d r : Clause) (resolved : IsResolvent pivot c d r) where
  pub clash_only_on : ClashOnlyOn pivot c d
  clash_only_on l = (
    (λ both. resolved.no_other l both.0 both.1),
    (λ same. (subst (Contains c) (sym same) resolved.first_has, subst (λ (m : Literal). Contains d (negation m)) (sym same) resolved.second_has)),
  )

  pub has_first : HasAllBut pivot c r
  has_first l here = elim (same_or_not l pivot) [
    | inl same ↦ inl same
    | inr other ↦ inr ((resolved.literals l).1 (inl (here, other)))
  ]

  pub has_second : HasAllBut (negation pivot) d r
  has_second l here = elim (same_or_not l (negation pivot)) [
    | inl same ↦ inl same
    | inr other ↦ inr ((resolved.literals l).1 (inr (here, other)))
  ]

  pub has_no_other : HasNoOther pivot c d r
  has_no_other l here = (resolved.literals l).0 here

-- a resolvent is true where both clauses are
pub follows_from : (pivot : Literal) (c d r : Clause) → IsResolvent pivot c d r → FollowsFrom c d r
follows_from pivot c d r resolved s first second =
    let l = clause_value-find s c first in
    let m = clause_value-find s d second in
    elim (has_first pivot c d r resolved l.0 l.1) [
      | inr here ↦ clause_value-member s r l.0 here l.2
      | inl same ↦ elim (has_second pivot c d r resolved m.0 m.1) [
        | inr here ↦ clause_value-member s r m.0 here m.2
        | inl other ↦ absurd (not_both (literal_value s pivot) (sym (ap (literal_value s) same) ∙ l.2) (sym (literal_value-negation s pivot) ∙ sym (ap (literal_value s) other) ∙ m.2))
      ]
    ]

-- ---- chains

along_more : (f : ℕ → Option Clause) (c : Clause) (s : ChainStep) (rest : List ChainStep) (d r : Clause) (along : List Clause) → f s.antecedent ≡ Some d → IsResolvent s.pivot c d r → slice_get along 0 ≡ Some r
    → ((i : ℕ) (t : ChainStep) → slice_get rest i ≡ Some t → IsResolvedAt f along i t) → (i : ℕ) (t : ChainStep) → slice_get (s ∷ rest) i ≡ Some t → IsResolvedAt f (c ∷ along) i t
along_more f c s rest d r along given resolved begins others zero t is = let same : s ≡ t = cc in subst (λ (u : ChainStep). IsResolvedAt f (c ∷ along) 0 u) same (c, d, r, refl, given, begins, resolved)
along_more f c s rest d r along given resolved begins others (suc i) t is =
    let found = others i t is in
    (found.0, found.1, found.2, found.3, found.4, (let same : suc i + 1 ≡ suc (i + 1) = omega arith in ap (λ n. slice_get (c ∷ along) n) same ∙ found.5), found.6)

along_chain : (f : ℕ → Option Clause) (c : Clause) (rest : List ChainStep) (literals : Clause) → IsChain f c rest literals
    → (along : List Clause) × (slice_get along 0 ≡ Some c) × ((i : ℕ) (s : ChainStep) → slice_get rest i ≡ Some s → IsResolvedAt f along i s) × (last : Clause) × (slice_get along (length rest) ≡ Some last) × SameLiterals last literals
along_chain f c [] literals same = (c ∷ [], refl, (λ i s no. absurd (cc)), c, refl, same)
along_chain f c (s ∷ rest) literals (d, r, given, resolved, chain) =
    let found = along_chain f r rest literals chain in
    (c ∷ found.0, refl, along_more f c s rest d r found.0 given resolved found.1 found.2, found.3, found.4, found.5)

pub chain_along : (f : ℕ → Option Clause) (literals : Clause) (first : ℕ) (rest : List ChainStep) → ChainOk f literals first rest → (along : List Clause) × AreAlong f literals first rest along
chain_along f literals first rest ok =
    let found = along_chain f ok.start rest literals ok.chain in
    (found.0, (found.1 ∙ sym ok.start_is, found.2, found.3, found.4, found.5))

-- ---- steps

module _ (clauses : List PartClause) (steps : List ToldStep) (root : ℕ) (refutes : IsRefutationOf clauses steps root) where
  pub ids_rise : IdsRise steps
  ids_rise i r s one next =
      let a : get_or steps i r ≡ r = get_or_from_slice_get steps i r r one in
      let b : get_or steps (i + 1) r ≡ s = get_or_from_slice_get steps (i + 1) s r next in
      let up : (get_or steps i r).id < (get_or steps (i + 1) r).id = refutes.rising i (i + 1) r (omega arith) (slice_get-below steps (i + 1) s next) in
      omega (arith, up, ap (λ (t : ToldStep). t.id) a, ap (λ (t : ToldStep). t.id) b)

  pub originals_are_clauses : OriginalsAreClauses clauses steps
  originals_are_clauses step part here is =
      let from = refutes.originals step here (IsOriginal-from step.origin part is) in
      (from.source, from.is_one, same_part step.origin (from.source).part part from.part is, from.literals)

  pub originals_are_normal : OriginalsAreNormal steps
  originals_are_normal step part here is = (once, from.not_tautology)
    where
      from : IsOriginalOf clauses step
      from = refutes.originals step here (IsOriginal-from step.origin part is)

      once : (i j : ℕ) (l : Literal) → slice_get step.literals i ≡ Some l → slice_get step.literals j ≡ Some l → i ≡ j
      once i j l one other =
          let a : get_or step.literals i l ≡ l = get_or_from_slice_get step.literals i l l one in
          let b : get_or step.literals j l ≡ l = get_or_from_slice_get step.literals j l l other in
          elim (cases_order i j) [
            | inl same ↦ same
            | inr order ↦ elim order [
              | inl less ↦ absurd (from.distinct i j l less (slice_get-below step.literals j l other) (a ∙ sym b))
              | inr more ↦ absurd (from.distinct j i l more (slice_get-below step.literals i l one) (b ∙ sym a))
            ]
          ]

  pub derived_are_resolved : DerivedAreResolved steps
  derived_are_resolved k step first rest at is =
      let same : get_or steps k step ≡ step = get_or_from_slice_get steps k step step at in
      let stands : StandsOn (take k steps) (get_or steps k step).literals (get_or steps k step).origin = refutes.stand k step (slice_get-below steps k step at) in
      let own : StandsOn (take k steps) step.literals step.origin = subst (λ (t : ToldStep). StandsOn (take k steps) t.literals t.origin) same stands in
      subst (StandsOn (take k steps) step.literals) is own

  pub derived_follow : ((f : ℕ → Option Clause) (literals : Clause) (first : ℕ) (rest : List ChainStep) → ChainOk f literals first rest → (a : Assignment) → ((id : ℕ) (c : Clause) → Contains (antecedents (Derived first rest)) id → f id ≡ Some c → clause_value a c ≡ true) → clause_value a literals ≡ true) → DerivedFollow steps
  derived_follow follows k step first rest at is s holds =
      follows (clause_told (take k steps)) step.literals first rest (derived_are_resolved k step first rest at is) s (λ id c named told.
      let found = clause_told-find (take k steps) id c told in
      let r : ToldStep = found.0 in
      let names : Contains (antecedents step.origin) r.id = subst (λ (o : Origin). Contains (antecedents o) r.id) (sym is) (subst (Contains (antecedents (Derived first rest))) (sym found.2) named) in
      subst (λ (d : Clause). clause_value s d ≡ true) found.3 (holds r found.1 names))

  steps_count : length steps ≡ length refutes.before + 1
  steps_count = ap length refutes.ends ∙ length-append refutes.before (refutes.last ∷ []) ∙ (let one : length refutes.before + suc zero ≡ length refutes.before + 1 = omega arith in one)

  at_the_end : slice_get steps (length refutes.before) ≡ Some refutes.last
  at_the_end = ap (λ rs. slice_get rs (length refutes.before)) refutes.ends ∙ slice_get-front refutes.before refutes.last []

  pub end_in_the_empty_clause : EndInTheEmptyClause steps root
  end_in_the_empty_clause = (length refutes.before, refutes.last, steps_count, at_the_end, refutes.root_is, refutes.empty)

  -- the steps as a tracer was told them
  abbrev pub told_of : Told
  told_of = record { greatest = Some root; steps = steps }

  pub told_are : IsTold told_of
  told_are = record {
    rising = refutes.rising;
    greatest = λ k d within. (root, refl, at_most k d within);
    stand = refutes.stand;
  }
    where
      at_most : (k : ℕ) (d : ToldStep) → k < length steps → (get_or steps k d).id ≤ root
      at_most k d within =
          let n : ℕ = length refutes.before in
          let count : length steps ≡ n + 1 = steps_count in
          let last : get_or steps n d ≡ refutes.last = get_or_from_slice_get steps n refutes.last d at_the_end in
          let last_id : (get_or steps n d).id ≡ root = ap (λ (t : ToldStep). t.id) last ∙ refutes.root_is in
          elim (cases_order k n) [
            | inl same ↦ (let e : (get_or steps k d).id ≡ (get_or steps n d).id = ap (λ i. (get_or steps i d).id) same in omega (arith, e, last_id))
            | inr order ↦ elim order [
              | inl less ↦ (let up : (get_or steps k d).id < (get_or steps n d).id = refutes.rising k n d less (omega (arith, count)) in omega (arith, up, last_id))
              | inr more ↦ absurd (omega (arith, more, within, count))
            ]
          ]

  pub no_model : (IsTold told_of → AllFollow steps) → IsUnsatisfiable (map (λ (p : PartClause). p.clause) clauses)
  no_model follow s model =
      let last_here : Contains steps refutes.last = subst (λ rs. Contains rs refutes.last) (sym refutes.ends) (Contains-append_right refutes.before (refutes.last ∷ []) refutes.last (Contains-front refutes.last [])) in
      let value : clause_value s (refutes.last).literals ≡ true = follow told_are refutes.last s last_here (λ r here original needed.
      let from = refutes.originals r here original in
      let source : clause_value s (from.source).clause ≡ true = list_all-member (clause_value s) (map (λ (p : PartClause). p.clause) clauses) (from.source).clause (Contains-image (λ (p : PartClause). p.clause) clauses from.source from.is_one) model in
      clause_value-same s (from.source).clause r.literals from.literals source) in
      absurd (let no : false ≡ true = sym (ap (clause_value s) refutes.empty) ∙ value in cc)

-- ---- values

pub by_the_rules : (clauses : List PartClause) (parts : ℕ) (cuts : List ℕ) (c : Circuit) (systems : List MarkedLiterals) (drawn : DrawnFromOneRefutation clauses parts cuts c systems)
    → ((l : Labelling) (s : Assignment) (t : Told) (value : ℕ → Bool) → IsTold t → MeetsRules l s t.steps value → (step : ToldStep) → Contains t.steps step → value step.id ≡ partial_values l s t.steps step.id)
    → (system : MarkedLiterals) → Contains systems system → AreByTheRules clauses parts cuts drawn.steps drawn.root c system.marks system.literals
by_the_rules clauses parts cuts c systems drawn unique system here cut l low high at s value meets =
    let refutes = drawn.refutes in
    let label : Labelling = occurrence_labelling clauses cut system.marks in
    let given : HaveRootValues clauses parts cuts drawn.steps drawn.root c system = All-contains (HaveRootValues clauses parts cuts drawn.steps drawn.root c) systems system drawn.values here in
    let last_here : Contains drawn.steps refutes.last = subst (λ rs. Contains rs refutes.last) (sym refutes.ends) (Contains-append_right refutes.before (refutes.last ∷ []) refutes.last (Contains-front refutes.last [])) in
    let at_last : value (refutes.last).id ≡ partial_values label s drawn.steps (refutes.last).id = unique label s (record { greatest = Some drawn.root; steps = drawn.steps }) value (told_are clauses drawn.steps drawn.root refutes) meets refutes.last last_here in
    given at.0 cut l (record { cut_is = at.1; literal_is = at.2 }) low high s ∙ sym (subst (λ (id : ℕ). value id ≡ partial_values label s drawn.steps id) refutes.root_is at_last)

-- ---- the last root

-- what a filter keeps
kept_cases : (p : ToldStep → Bool) (k x : ToldStep) (rest : List ToldStep) (b : Bool) → p k ≡ b → Contains (cond b (k ∷ rest) rest) x → ((k ≡ x) × (p k ≡ true)) ⊎ Contains rest x
kept_cases p k x rest true is here = elim (Contains-cases k rest x here) [
  | inl same ↦ inl (same, is)
  | inr later ↦ inr later
]
kept_cases p k x rest false is here = inr here

from_filter : (p : ToldStep → Bool) (kept : List ToldStep) (x : ToldStep) → Contains (filter p kept) x → Contains kept x × (p x ≡ true)
from_filter p [] x (i, within, at) = absurd (omega (arith, within))
from_filter p (k ∷ kept) x here = elim (kept_cases p k x (filter p kept) (p k) refl here) [
  | inl now ↦ (subst (Contains (k ∷ kept)) now.0 (Contains-front k kept), ap p (sym now.0) ∙ now.1)
  | inr later ↦ (let found = from_filter p kept x later in (Contains-later k kept x found.0, found.1))
]

to_filter_first : (k : ToldStep) (rest : List ToldStep) (b : Bool) → b ≡ true → Contains (cond b (k ∷ rest) rest) k
to_filter_first k rest true e = Contains-front k rest
to_filter_first k rest false e = absurd (let no : false ≡ true = e in cc)

to_filter_later : (k x : ToldStep) (rest : List ToldStep) (b : Bool) → Contains rest x → Contains (cond b (k ∷ rest) rest) x
to_filter_later k x rest true here = Contains-later k rest x here
to_filter_later k x rest false here = here

to_filter : (p : ToldStep → Bool) (kept : List ToldStep) (x : ToldStep) → Contains kept x → p x ≡ true → Contains (filter p kept) x
to_filter p [] x (i, within, at) is = absurd (omega (arith, within))
to_filter p (k ∷ kept) x here is = elim (Contains-cases k kept x here) [
  | inl same ↦ subst (Contains (filter p (k ∷ kept))) same (to_filter_first k (filter p kept) (p k) (ap p same ∙ is))
  | inr later ↦ to_filter_later k x (filter p kept) (p k) (to_filter p kept x later is)
]

map-map : (f g : ToldStep → ToldStep) (ks : List ToldStep) → map f (map g ks) ≡ map (λ k. f (g k)) ks
map-map f g [] = refl
map-map f g (k ∷ ks) = ap (λ rs. f (g k) ∷ rs) (map-map f g ks)

module _ (names : List ℕ) (kept : List ToldStep) (last : Option ℕ) (steps : List ToldStep) (root : ℕ) (of_last : IsOfLastRoot names kept last steps root) where
  steps_are : steps ≡ map (λ (k : ToldStep). named_step names (unforgotten k)) (filter (λ (k : ToldStep). of_last.needed.0 k.id) kept)
  steps_are = of_last.named ∙ ap (map (named_step names)) of_last.needed.2 ∙ map-map (named_step names) unforgotten (filter (λ (k : ToldStep). of_last.needed.0 k.id) kept)

  pub in_order : AreInOrder names kept steps
  in_order = (of_last.needed.0, steps_are)

  pub needed_ones : AreNeededOnes names kept root steps
  needed_ones s = (to, from)
    where
      to : Contains steps s → (k : ToldStep) × Contains kept k × IsNeeded kept root k.id × (s ≡ named_step names (unforgotten k))
      to here =
          let found = Contains-from_image (λ (k : ToldStep). named_step names (unforgotten k)) (filter (λ (k : ToldStep). of_last.needed.0 k.id) kept) s (subst (λ rs. Contains rs s) steps_are here) in
          let k = from_filter (λ (k : ToldStep). of_last.needed.0 k.id) kept found.0 found.1 in
          (found.0, k.0, (of_last.needed.1 found.0 k.0).0 k.1, found.2)

      from : ((k : ToldStep) × Contains kept k × IsNeeded kept root k.id × (s ≡ named_step names (unforgotten k))) → Contains steps s
      from (k, here, needed, is) =
          subst (Contains steps) (sym is) (subst (λ rs. Contains rs (named_step names (unforgotten k))) (sym steps_are)
          (Contains-image (λ (k : ToldStep). named_step names (unforgotten k)) (filter (λ (k : ToldStep). of_last.needed.0 k.id) kept) k (to_filter (λ (k : ToldStep). of_last.needed.0 k.id) kept k here ((of_last.needed.1 k here).1 needed))))

no_images : {A B : Type 0} (f : A → B) (xs : List A) → map f xs ≡ [] → xs ≡ []
no_images f [] e = refl
no_images f (x ∷ xs) e = cc

pub root_is_empty : (names : List ℕ) (kept : List ToldStep) (last : Option ℕ) (state : State) (assumptions : List PartLiteral) (text : List ℕ) → IsRefutationBy names kept last state assumptions text → IsEmptyOne kept last
root_is_empty names kept last state assumptions text (reply, of_last) =
    let refutes = reply.gives.interpolants.drawn.refutes in
    let here : Contains reply.gives.interpolants.drawn.steps refutes.last = subst (λ rs. Contains rs refutes.last) (sym refutes.ends) (Contains-append_right refutes.before (refutes.last ∷ []) refutes.last (Contains-front refutes.last [])) in
    let found = (needed_ones names kept last reply.gives.interpolants.drawn.steps reply.gives.interpolants.drawn.root of_last refutes.last).0 here in
    let k : ToldStep = found.0 in
    let id : k.id ≡ reply.gives.interpolants.drawn.root = sym (ap (λ (t : ToldStep). t.id) found.3) ∙ refutes.root_is in
    (k, found.1, of_last.is_last ∙ ap Some (sym id), no_images _ k.literals (sym (ap (λ (t : ToldStep). t.literals) found.3) ∙ refutes.empty))
