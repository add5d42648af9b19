-- Steps that are lent by their places, whatever they are read from.
use Rattle.std.proofs.Common.{◌≡◌, ℕ, ◌+◌, ◌<◌, ◌≤◌, eqb, eq-eqb, List, length, get_or, set, map, slice_get, All, AllPairs, Contains, Option, Some, None, inl, inr, refl, ap, sym, subst, ◌∙◌, arith, eqb-true}
use Rattle.std.specs.Option.{ForSome, option_map}
use Rattle.std.proofs.lemmas.Bool.{cases_lt}
use Rattle.std.proofs.Math.ListN.{get_or-map}
use Rattle.std.proofs.lemmas.List.{get_or_default, get_or-set_other, get_or-set_same, length-set}
use Rattle.std.proofs.lemmas.Option.{get_or_from_slice_get, same_Some, slice_get-get_or, slice_get_read}
use Rattle.craig_spec.specs.Chain.{AreRising, ChainStep, EachStands, ToldStep}
use Rattle.craig_spec.specs.PackedChain.{packed_chain, packed_origin}
use Rattle.craig_spec.specs.Needed.{IsNeededPart, unforgotten}
use Rattle.craig_spec.proofs.MemberLemmas.{list_any-find, list_any-member, slice_get-below, slice_get-from_map, slice_get-to_map}
use Rattle.craig_proof.specs.Lent.{ArePlaces, AreWithin, IsAtPlace, IsLent, step_at, steps_at}
use Rattle.craig_proof.specs.ChainStore.{IsDerivedUnder}
use Rattle.craig_proof.specs.StoredSteps.{bytes_of, no_step}
use Rattle.craig_proof.specs.declared.needed_step.NeededStep.{NeededStep}
use Rattle.craig_proof.specs.declared.needed_step.NeededStep.TheVariants as lent
use Rattle.craig_proof.proofs.StoredLemmas.{one_place, rising_rows}
use Rattle.craig_proof.proofs.ToldLemmas.{HasId-at}
use Rattle.craig_proof.specs.NeededSteps.{HasId}
use Rattle.craig_proof.proofs.PartLemmas.{NeededPart-steps}
use Rattle.craig_proof.proofs.RootLemmas.{needed_below_root}

pub row_is : {R : Type 0} (f : R → ToldStep) (rows : List R) (place : ℕ) (r : R) → r ≡ get_or rows place r → get_or (map f rows) place (f r) ≡ f r
row_is f rows place r is = get_or-map f rows place r ∙ ap f (sym is)

pub row_at : {R : Type 0} (f : R → ToldStep) (rows : List R) (place : ℕ) (d : R) → place < length rows → slice_get (map f rows) place ≡ Some (f (get_or rows place d))
row_at f rows place d within = slice_get-to_map f rows place (get_or rows place d) (slice_get-get_or rows place d within)

-- an id that a step has is at its place
id_place : (steps : List ToldStep) (id : ℕ) → HasId steps id → (k : ℕ) × (s : ToldStep) × (slice_get steps k ≡ Some s) × (s.id ≡ id)
id_place steps id has =
    let found = list_any-find (λ (s : ToldStep). eqb s.id id) steps has in
    let at = found.1 in
    (at.0, found.0, slice_get-get_or steps at.0 found.0 at.1 ∙ ap Some at.2, eqb-true (found.0).id id found.2)

pub place_within : (steps : List ToldStep) (places : List ℕ) (id : ℕ) → ArePlaces steps places → HasId steps id → id < length places
place_within steps places id are has =
    let h = id_place steps id has in
    slice_get-below places id h.0 (ap (slice_get places) (sym h.3) ∙ are h.0 h.1 h.2)

pub place_found : (steps : List ToldStep) (places : List ℕ) (id n d : ℕ) → ArePlaces steps places → HasId steps id → n ≡ get_or places id d → (s : ToldStep) × (slice_get steps n ≡ Some s) × (s.id ≡ id)
place_found steps places id n d are has is =
    let h = id_place steps id has in
    let at : slice_get places id ≡ Some h.0 = ap (slice_get places) (sym h.3) ∙ are h.0 h.1 h.2 in
    let same : n ≡ h.0 = is ∙ get_or_from_slice_get places id h.0 d at in
    (h.1, ap (slice_get steps) same ∙ h.2, h.3)

-- one place more in the table
pub places_more : (steps : List ToldStep) (places : List ℕ) (place : ℕ) (s : ToldStep) → AreRising steps → slice_get steps place ≡ Some s → s.id < length places
    → ((k : ℕ) (q : ToldStep) → k < place → slice_get steps k ≡ Some q → slice_get places q.id ≡ Some k)
    → (k : ℕ) (q : ToldStep) → k < place + 1 → slice_get steps k ≡ Some q → slice_get (set places s.id place) q.id ≡ Some k
places_more steps places place s rising here inside before k q low at =
    elim (cases_lt k place) [
      | inl earlier ↦ (
          let old : slice_get places q.id ≡ Some k = before k q earlier at in
          let kept : q.id < length places = slice_get-below places q.id k old in
          let up : (get_or steps k q).id < (get_or steps place q).id = rising k place q earlier (slice_get-below steps place s here) in
          let one : get_or steps k q ≡ q = get_or_from_slice_get steps k q q at in
          let two : get_or steps place q ≡ s = get_or_from_slice_get steps place s q here in
          let one_id = ap (λ (r : ToldStep). r.id) one in
          let two_id = ap (λ (r : ToldStep). r.id) two in
          let room : q.id < length (set places s.id place) = omega (arith, kept, length-set places s.id place) in
          slice_get-get_or (set places s.id place) q.id 0 room ∙ ap Some (get_or-set_other places s.id q.id place 0 (λ e. omega arith) ∙ get_or_from_slice_get places q.id k 0 old))
      | inr now ↦ (
          let same : k ≡ place = omega arith in
          let is : q ≡ s = same_Some q s (sym at ∙ ap (slice_get steps) same ∙ here) in
          let id_is : q.id ≡ s.id = ap (λ (r : ToldStep). r.id) is in
          let room : s.id < length (set places s.id place) = omega (arith, inside, length-set places s.id place) in
          ap (slice_get (set places s.id place)) id_is ∙ slice_get-get_or (set places s.id place) s.id 0 room ∙ ap Some (get_or-set_same places s.id place 0 inside ∙ sym same))
    ]

-- the id of a step that is read is below a bound on all
pub id_below : (steps : List ToldStep) (bound place : ℕ) (s : ToldStep) → All (λ (q : ToldStep). q.id < bound) steps → slice_get steps place ≡ Some s → s.id < bound
id_below steps bound place s all at =
    let low : (get_or steps place s).id < bound = all place s (slice_get-below steps place s at) in
    subst (λ (q : ToldStep). q.id < bound) (get_or_from_slice_get steps place s s at) low

-- the ids of what a root needs are at most the root's
pub part_low : (steps part : List ToldStep) (root : ℕ) → AreRising steps → EachStands steps → IsNeededPart steps root part → All (λ (q : ToldStep). q.id ≤ root) part
part_low steps part root rising stand is k d within =
    let s = get_or part k d in
    let from = NeededPart-steps steps part root s is (k, within, get_or_default part k s d within) in
    let id_is : s.id ≡ (from.0).id = ap (λ (q : ToldStep). q.id) from.2 in
    let high : (from.0).id ≤ root = needed_below_root steps root (from.0).id rising stand from.3 in
    omega arith

pub all_below : (steps : List ToldStep) (root bound : ℕ) → bound ≡ root + 1 → All (λ (q : ToldStep). q.id ≤ root) steps → All (λ (q : ToldStep). q.id < bound) steps
all_below steps root bound is low k d within = let le : (get_or steps k d).id ≤ root = low k d within in omega arith

-- what holds of the members of a table that may be there
pub table_items : {V : Type 0} (items : V → List ℕ) (P : List ℕ → Type 0) (t : Option V) → ForSome t (λ v. P (items v)) → ForSome (option_map items t) P
table_items items P None h = λ x e. absurd (cc)
table_items items P (Some v) h = λ x e. let is : items v ≡ x = cc in subst P is (h v refl)

pub table_at : {V : Type 0} (items : V → List ℕ) (P : List ℕ → Type 0) (t : Option V) (v : V) → t ≡ Some v → ForSome (option_map items t) P → P (items v)
table_at items P t v is h = h (items v) (rw is refl)

-- the step at a place is that of what is read there
pub step_read : (steps : List ToldStep) (place : ℕ) (s : ToldStep) → slice_get steps place ≡ Some s → step_at steps place ≡ s
step_read steps place s at = get_or_from_slice_get steps place s no_step at

-- what is lent of a step is lent of it where it isn't forgotten
pub lent_unforgotten : (s : ToldStep) (n : NeededStep) → IsLent s n → IsLent (unforgotten s) n
lent_unforgotten s (lent.Original part literals) is = is
lent_unforgotten s (lent.Derived first rest) is = is

module _ (steps : List ToldStep) (places : List ℕ) where
  here_at : (k p : ℕ) → slice_get places k ≡ Some p → slice_get (steps_at steps places) k ≡ Some (unforgotten (step_at steps p))
  here_at k p at = slice_get-to_map (λ place. unforgotten (step_at steps place)) places k p at

  -- what is said of a step that is lent
  pub lent_at : (k p : ℕ) (n : NeededStep) → k < length places → p ≡ get_or places k p → IsAtPlace steps p (λ s. IsLent s n) → IsAtPlace (steps_at steps places) k (λ s. IsLent s n)
  lent_at k p n within is at =
      let found : slice_get places k ≡ Some p = slice_get_read places (length places) k p refl within is in
      let same : step_at steps p ≡ at.0 = step_read steps p at.0 at.1 in
      (unforgotten (step_at steps p), here_at k p found, lent_unforgotten (step_at steps p) n (subst (λ s. IsLent s n) (sym same) at.2))

  -- the place of a step that is lent, among all
  lent_place : (id : ℕ) → HasId (steps_at steps places) id → (k : ℕ) × (p : ℕ) × (slice_get places k ≡ Some p) × ((step_at steps p).id ≡ id)
  lent_place id has =
      let h = id_place (steps_at steps places) id has in
      let x = slice_get-from_map (λ place. unforgotten (step_at steps place)) places h.0 h.1 h.2 in
      (h.0, x.0, x.1, ap (λ (s : ToldStep). s.id) x.2 ∙ h.3)

  place_low : (k p : ℕ) → slice_get places k ≡ Some p → AreWithin steps places → p < length steps
  place_low k p at within = subst (λ n. n < length steps) (get_or_from_slice_get places k p p at) (within k p (slice_get-below places k p at))

  pub has_lent : (id : ℕ) → AreWithin steps places → HasId (steps_at steps places) id → HasId steps id
  has_lent id within has =
      let l = lent_place id has in
      let low : l.1 < length steps = place_low l.0 l.1 l.2 within in
      HasId-at steps id l.1 low (λ d. ap (λ (s : ToldStep). s.id) (get_or_default steps l.1 d no_step low) ∙ l.3)

  -- places rise where the ids of their steps do
  pub places_rise : AreRising steps → AreWithin steps places → AreRising (steps_at steps places) → AllPairs (λ m n. m < n) places
  places_rise all within rising i j d before inside =
      let m = get_or places i d in
      let n = get_or places j d in
      let m_low : m < length steps = within i d (omega arith) in
      let n_low : n < length steps = within j d inside in
      let up : (step_at steps m).id < (step_at steps n).id = rising_rows (λ place. unforgotten (step_at steps place)) places rising i j d before inside in
      let not_after : n < m → ⊥ = λ after. (let down : (step_at steps n).id < (step_at steps m).id = all n m no_step after m_low in omega arith) in
      let not_same : m ≡ n → ⊥ = λ same. (let e = ap (λ k. (step_at steps k).id) same in omega arith) in
      omega (arith, not_after, not_same)

  -- the place of an id among all is one of those
  pub place_there : (id p : ℕ) → AreRising steps → AreWithin steps places → HasId (steps_at steps places) id → IsAtPlace steps p (λ s. s.id ≡ id) → Contains places p
  place_there id p all within has at =
      let l = lent_place id has in
      let low : l.1 < length steps = place_low l.0 l.1 l.2 within in
      let high : p < length steps = slice_get-below steps p at.0 at.1 in
      let p_id : (step_at steps p).id ≡ id = ap (λ (s : ToldStep). s.id) (step_read steps p at.0 at.1) ∙ at.2 in
      let same : l.1 ≡ p = one_place (λ (s : ToldStep). s.id) steps l.1 p no_step all low high (l.3 ∙ sym p_id) in
      (l.0, slice_get-below places l.0 l.1 l.2, get_or_from_slice_get places l.0 l.1 p l.2 ∙ same)

  -- and stands where it is found among them
  pub place_is : (id k p : ℕ) → slice_get places k ≡ Some p → IsAtPlace steps p (λ s. s.id ≡ id) → IsAtPlace (steps_at steps places) k (λ s. s.id ≡ id)
  place_is id k p at found = (unforgotten (step_at steps p), here_at k p at, ap (λ (s : ToldStep). s.id) (step_read steps p found.0 found.1) ∙ found.2)

-- the step of a derived clause is one of the id
pub has_derived : (steps : List ToldStep) (id first : ℕ) (rest : List ChainStep) → IsDerivedUnder steps id first rest → HasId steps id
has_derived steps id first rest kept = list_any-member (λ (s : ToldStep). eqb s.id id) steps kept.step kept.kept (eq-eqb (kept.step).id id kept.id_is)

-- and its bytes are those at the place of the id
pub derived_bytes : (steps : List ToldStep) (id first : ℕ) (rest : List ChainStep) (place : ℕ) (bytes : List ℕ) → AreRising steps → IsDerivedUnder steps id first rest → IsAtPlace steps place (λ s. s.id ≡ id) → IsAtPlace steps place (λ s. bytes_of s ≡ bytes) → bytes ≡ packed_chain id first rest
derived_bytes steps id first rest place bytes rising kept at lies =
    let k = kept.kept in
    let s : ToldStep = kept.step in
    let high : place < length steps = slice_get-below steps place at.0 at.1 in
    let at_id : (get_or steps place s).id ≡ id = ap (λ (q : ToldStep). q.id) (get_or_from_slice_get steps place at.0 s at.1) ∙ at.2 in
    let here_id : (get_or steps k.0 s).id ≡ id = ap (λ (q : ToldStep). q.id) k.2 ∙ kept.id_is in
    let same : place ≡ k.0 = one_place (λ (q : ToldStep). q.id) steps place k.0 s rising high k.1 (at_id ∙ sym here_id) in
    let is : lies.0 ≡ s = sym (get_or_from_slice_get steps place lies.0 s lies.1) ∙ ap (λ n. get_or steps n s) same ∙ k.2 in
    sym lies.2 ∙ ap bytes_of is ∙ ap (packed_origin s.id) kept.chain ∙ ap (λ n. packed_chain n first rest) kept.id_is
