-- Assumptions over dense variables, and as they were written.
use Rattle.std.proofs.Common.{◌≡◌, ◌≢◌, ◌∙◌, sym, ap, subst, refl, ℕ, zero, suc, ◌+◌, ◌<◌, ◌≤◌, Bool, true, false, ◌||◌, nat_le, List, [], ◌∷◌, ◌++◌, length, map, take, get_or, slice_get, All, Contains, Some, ℤ, arith, leb-true, lt-ltb, inl, inr, set, nat_eq, eqb-true, eq-eqb}
use Rattle.std.proofs.Math.Bool.{or-false, or-true}
use Rattle.std.proofs.lemmas.Bool.{and_from, and_parts}
use Rattle.std.proofs.lemmas.List.{get_or-set_other, get_or-set_same, map-append, take_more}
use Rattle.std.proofs.lemmas.List.Elements.{All-contains, Contains-get_or}
use Rattle.std.proofs.lemmas.List.Folds.{list_any-append}
use Rattle.std.proofs.lemmas.Option.{get_or_from_slice_get, same_Some}
use Rattle.std.specs.Int.RustNames.{unsigned_abs}
use Rattle.std.specs.List.{list_all}
use Rattle.craig_spec.specs.Cut.{PartLiteral, with_units}
use Rattle.craig_spec.specs.FailedAssumptions.{NamesFailed}
use Rattle.craig_spec.specs.Literal.{Clause, Literal}
use Rattle.craig_spec.specs.Occurs.{occurs, occurs_in_clause}
use Rattle.craig_base.specs.declared.script_part.Part.{Part}
use Rattle.craig_script.specs.Reading.{is_within}
use Rattle.craig_search.proofs.UnitLemmas.{at_places-push}
use Rattle.craig_search.specs.Verdict.{AreFirstPlaces, Assumptions, at_places, units}
use Rattle.craig_top.specs.GivenState.{ScriptSettings, script_literal}
use Rattle.craig_top.specs.Growth.{NamesGrow}
use Rattle.craig_top.specs.Named.{AreDifferent, bare_clauses}
use Rattle.craig_top.specs.Naming.{named_assumptions, named_clause, named_literal, written}
use Rattle.craig_top.specs.Reply.{assumptions_of}
use Rattle.craig_top.specs.Stored.{stored_state}
use Rattle.craig_top.specs.Values.{AreOver, IsOver}
use Rattle.craig_spec.proofs.MemberLemmas.{Contains-cases, Contains-from_image, Contains-from_slice_get, Contains-image, slice_get-below, slice_get-from_map, slice_get-to_map, slice_get-within}
use Rattle.craig_top.proofs.GrowthLemmas.{IsOver-push}
use Rattle.craig_top.proofs.NamedChainLemmas.{same_from_named}
use Rattle.craig_top.proofs.OverLemmas.{IsOver-contains, IsOver-each}

-- the literals of assumptions
abbrev pub literals : Assumptions → Clause
literals assumptions = map (λ (a : Part × Literal). a.1) assumptions

-- an assumption as it was written
abbrev named_at : List ℕ → Part × Literal → PartLiteral
named_at names a = record { part = a.0.0; literal = named_literal names a.1 }

-- what a pair writes
abbrev written_at : ℕ × ℤ → PartLiteral
written_at pair = record { part = pair.0; literal = script_literal pair.1 }

-- names that only grew name the same literals
literal-grows : (old new : List ℕ) (l : Literal) → NamesGrow old new → l.var < length old → named_literal new l ≡ named_literal old l
literal-grows old new l grows below = ap (λ x. record { var = x; negated = l.negated }) (grows.kept l.var below)

named_assumptions-grows : (old new : List ℕ) (assumptions : Assumptions) → NamesGrow old new → IsOver (length old) (literals assumptions) → named_assumptions new assumptions ≡ named_assumptions old assumptions
named_assumptions-grows old new [] grows over = refl
named_assumptions-grows old new (a ∷ assumptions) grows over =
    let below = IsOver-contains (length old) (literals (a ∷ assumptions)) a.1 over (0, omega arith, refl) in
    ap (λ (l : Literal). record { part = a.0.0; literal = l } ∷ named_assumptions new assumptions) (literal-grows old new a.1 grows below)
    ∙ ap (λ (ls : List PartLiteral). named_at old a ∷ ls) (named_assumptions-grows old new assumptions grows (and_parts _ _ over).1)

-- one assumption more, whose variable may be new
pub named_assumptions-push : (old new : List ℕ) (assumptions pushed : Assumptions) (part : Part) (l : Literal) (pairs : List (ℕ × ℤ)) (i : ℕ) (d : ℕ × ℤ) → NamesGrow old new → IsOver (length old) (literals assumptions)
    → named_assumptions old assumptions ≡ assumptions_of (take i pairs) → i < length pairs → pushed ≡ assumptions ++ (part, l) ∷ [] → part.0 ≡ (get_or pairs i d).0 → named_literal new l ≡ script_literal (get_or pairs i d).1
    → named_assumptions new pushed ≡ assumptions_of (take (i + 1) pairs)
named_assumptions-push old new assumptions pushed part l pairs i d grows over so within push in_part is =
    let before : named_assumptions new assumptions ≡ assumptions_of (take i pairs) = named_assumptions-grows old new assumptions grows over ∙ so in
    let last : named_at new (part, l) ≡ written_at (get_or pairs i d) = ap (λ n. record { part = n; literal = named_literal new l }) in_part ∙ ap (λ (m : Literal). record { part = (get_or pairs i d).0; literal = m }) is in
    ap (named_assumptions new) push
    ∙ map-append (named_at new) assumptions ((part, l) ∷ [])
    ∙ ap (λ ls. ls ++ named_at new (part, l) ∷ []) before
    ∙ ap (λ (m : PartLiteral). assumptions_of (take i pairs) ++ m ∷ []) last
    ∙ sym (ap assumptions_of (take_more pairs i d within) ∙ map-append written_at (take i pairs) (get_or pairs i d ∷ []))

pub literals-push : (n : ℕ) (assumptions pushed : Assumptions) (part : Part) (l : Literal) → IsOver n (literals assumptions) → l.var < n → pushed ≡ assumptions ++ (part, l) ∷ [] → IsOver n (literals pushed)
literals-push n assumptions pushed part l over below push =
    rw (push, map-append (λ (a : Part × Literal). a.1) assumptions ((part, l) ∷ [])) (IsOver-push n (literals assumptions) l over below)

-- one place more
pub at_places-more : (assumptions : Assumptions) (places : List ℕ) (i d : ℕ) (chosen pushed : Assumptions) (item : Part × Literal) → i < length places → get_or places i d < length assumptions → chosen ≡ at_places assumptions (take i places)
    → item ≡ get_or assumptions (get_or places i d) item → pushed ≡ chosen ++ item ∷ [] → pushed ≡ at_places assumptions (take (i + 1) places)
at_places-more assumptions places i d chosen pushed item within inside so is push =
    let p : ℕ = get_or places i d in
    let found = slice_get-within assumptions p inside in
    let same : item ≡ found.0 = is ∙ get_or_from_slice_get assumptions p found.0 item found.1 in
    push ∙ ap (λ (xs : Assumptions). xs ++ item ∷ []) so ∙ ap (λ (a : Part × Literal). at_places assumptions (take i places) ++ a ∷ []) same
    ∙ sym (ap (at_places assumptions) (take_more places i d within) ∙ at_places-push assumptions (take i places) p found.0 found.1)

-- what pairs are tested for, one by one
pub pair-within : (limit : ℕ) (pairs : List (ℕ × ℤ)) (i : ℕ) (d : ℕ × ℤ) → list_all (is_within limit) (map (λ (pair : ℕ × ℤ). unsigned_abs pair.1) pairs) ≡ true → i < length pairs
    → (1 ≤ unsigned_abs (get_or pairs i d).1) × (unsigned_abs (get_or pairs i d).1 ≤ limit)
pair-within limit [] i d all h = absurd (omega (arith, h))
pair-within limit (p ∷ pairs) zero d all h = let bounds = and_parts _ _ (and_parts _ _ all).0 in (leb-true 1 (unsigned_abs p.1) bounds.0, leb-true (unsigned_abs p.1) limit bounds.1)
pair-within limit (p ∷ pairs) (suc i) d all h = pair-within limit pairs i d (and_parts _ _ all).1 (omega (arith, h))

pub parts-within : (parts most : ℕ) (pairs : List (ℕ × ℤ)) → list_all (λ pair. nat_le pair.0 parts) pairs ≡ true → parts ≤ most → All (λ pair. pair.0 ≤ most) pairs
parts-within parts most [] all high i d within = absurd (omega (arith, within))
parts-within parts most (p ∷ pairs) all high zero d within = let low : p.0 ≤ parts = leb-true p.0 parts (and_parts _ _ all).0 in omega (arith, low, high)
parts-within parts most (p ∷ pairs) all high (suc i) d within = parts-within parts most pairs (and_parts _ _ all).1 high i d (omega (arith, within))

-- so are the dense assumptions
pub parts-named : (names : List ℕ) (parts : ℕ) (assumptions : Assumptions) (pairs : List (ℕ × ℤ)) → named_assumptions names assumptions ≡ assumptions_of pairs → list_all (λ pair. nat_le pair.0 parts) pairs ≡ true
    → (a : Part × Literal) → Contains assumptions a → a.0.0 ≤ parts
parts-named names parts assumptions pairs same all a here =
    let named = Contains-image (named_at names) assumptions a here in
    within pairs all (subst (λ (ls : List PartLiteral). Contains ls (named_at names a)) same named)
  where
    within : (pairs : List (ℕ × ℤ)) → list_all (λ pair. nat_le pair.0 parts) pairs ≡ true → Contains (assumptions_of pairs) (named_at names a) → a.0.0 ≤ parts
    within [] all (k, there, at) = absurd (omega (arith, there))
    within (p ∷ pairs) all (zero, there, at) = subst (λ n. n ≤ parts) (ap (λ (l : PartLiteral). l.part) at) (leb-true p.0 parts (and_parts _ _ all).0)
    within (p ∷ pairs) all (suc k, there, at) = within pairs (and_parts _ _ all).1 (k, omega (arith, there), at)

-- the assumptions at places are some of them
at_places-cons : (assumptions : Assumptions) (p : ℕ) (places : List ℕ) (a : Part × Literal) → slice_get assumptions p ≡ Some a → at_places assumptions (p ∷ places) ≡ a ∷ at_places assumptions places
at_places-cons assumptions p places a at = rw at refl

pub at_places-some : (assumptions : Assumptions) (places : List ℕ) → All (λ p. p < length assumptions) places → (a : Part × Literal) → Contains (at_places assumptions places) a → Contains assumptions a
at_places-some assumptions [] within a (k, there, at) = absurd (omega (arith, there))
at_places-some assumptions (p ∷ places) within a here =
    let found = slice_get-within assumptions p (within 0 0 (omega arith)) in
    elim (Contains-cases found.0 (at_places assumptions places) a (subst (λ (xs : Assumptions). Contains xs a) (at_places-cons assumptions p places found.0 found.1) here)) [
      | inl is ↦ subst (Contains assumptions) is (Contains-from_slice_get assumptions p found.0 found.1)
      | inr later ↦ at_places-some assumptions places (λ i d inside. within (suc i) d (omega (arith, inside))) a later
    ]

pub over-at_places : (n : ℕ) (assumptions : Assumptions) (places : List ℕ) → All (λ p. p < length assumptions) places → IsOver n (literals assumptions) → IsOver n (literals (at_places assumptions places))
over-at_places n assumptions places within over = IsOver-each n (literals (at_places assumptions places)) (λ l here. (
    let found = Contains-from_image (λ (a : Part × Literal). a.1) (at_places assumptions places) l here in
    subst (λ (m : Literal). m.var < n) (sym found.2)
    (IsOver-contains n (literals assumptions) found.0.1 over (Contains-image (λ (a : Part × Literal). a.1) assumptions found.0 (at_places-some assumptions places within found.0 found.1)))))

-- so are their parts
pub parts-at_places : (names : List ℕ) (parts : ℕ) (assumptions chosen : Assumptions) (pairs : List (ℕ × ℤ)) (places : List ℕ) → chosen ≡ at_places assumptions places → All (λ p. p < length assumptions) places
    → named_assumptions names assumptions ≡ assumptions_of pairs → list_all (λ pair. nat_le pair.0 parts) pairs ≡ true → All (λ (a : Part × Literal). a.0.0 ≤ parts) chosen
parts-at_places names parts assumptions chosen pairs places is within same all k d inside =
    let a : Part × Literal = get_or chosen k d in
    parts-named names parts assumptions pairs same all a (at_places-some assumptions places within a (subst (λ (xs : Assumptions). Contains xs a) is (Contains-get_or chosen k d inside)))

-- first places are within
pub first_places-within : (assumptions : Assumptions) (places : List ℕ) → AreFirstPlaces assumptions places → All (λ p. p < length assumptions) places
first_places-within assumptions places are k d within = let found = are.first k d within in slice_get-below assumptions (get_or places k d) found.0 found.1

-- the assumptions at first places are failed ones, whatever different literals are written for different ones
module _ (write : Part × Literal → PartLiteral) (assumptions : Assumptions) (apart : (a b : Part × Literal) → Contains assumptions a → Contains assumptions b → (write a).literal ≡ (write b).literal → a.1 ≡ b.1) where
  failed_written : (places : List ℕ) → All (λ p. p < length assumptions) places → map (slice_get (map write assumptions)) places ≡ map Some (map write (at_places assumptions places))
  failed_written [] within = refl
  failed_written (p ∷ places) within =
      let found = slice_get-within assumptions p (within 0 0 (omega arith)) in
      rw (at_places-cons assumptions p places found.0 found.1, slice_get-to_map write assumptions p found.0 found.1)
      (ap (λ xs. Some (write found.0) ∷ xs) (failed_written places (λ i d inside. within (suc i) d (omega (arith, inside)))))

  pub NamesFailed-written : (places : List ℕ) → AreFirstPlaces assumptions places → NamesFailed (map write assumptions) (map write (at_places assumptions places))
  NamesFailed-written places are = record {
    places = places;
    rising = are.rising;
    failed_are = failed_written places (first_places-within assumptions places are);
    first = λ p q a b is_place at before other same. (
        let here = slice_get-from_map write assumptions p a at in
        let there = slice_get-from_map write assumptions q b other in
        let chosen = All-contains (λ n. (c : Part × Literal) × (slice_get assumptions n ≡ Some c) × ((r : ℕ) (e : Part × Literal) → r < n → slice_get assumptions r ≡ Some e → e.1 ≢ c.1)) places p are.first is_place in
        let is : chosen.0 ≡ here.0 = same_Some chosen.0 here.0 (sym chosen.1 ∙ here.1) in
        let literals_are : (write there.0).literal ≡ (write here.0).literal = ap (λ (l : PartLiteral). l.literal) there.2 ∙ same ∙ sym (ap (λ (l : PartLiteral). l.literal) here.2) in
        chosen.2 q there.0 before there.1
        (apart there.0 here.0 (Contains-from_slice_get assumptions q there.0 there.1) (Contains-from_slice_get assumptions p here.0 here.1) literals_are ∙ ap (λ (c : Part × Literal). c.1) (sym is)));
  }

-- so are the named ones
pub NamesFailed-named : (names : List ℕ) → AreDifferent names → (assumptions : Assumptions) → IsOver (length names) (literals assumptions) → (places : List ℕ) → AreFirstPlaces assumptions places
    → NamesFailed (named_assumptions names assumptions) (named_assumptions names (at_places assumptions places))
NamesFailed-named names differ assumptions over places are =
    let below : (a : Part × Literal) → Contains assumptions a → a.1.var < length names = λ a here. IsOver-contains (length names) (literals assumptions) a.1 over (Contains-image (λ (b : Part × Literal). b.1) assumptions a here) in
    NamesFailed-written (named_at names) assumptions (λ a b one other same. same_from_named names differ a.1 b.1 (below a one) (below b other) same) places are

-- the accepted clauses and the units of the assumptions, as they were written
bare-named : (names : List ℕ) (accepted : List (Part × Clause)) (assumptions : Assumptions) → map (named_clause names) (map (λ a. a.1) accepted ++ units assumptions) ≡ bare_clauses (with_units (written names accepted) (named_assumptions names assumptions))
bare-named names [] [] = refl
bare-named names [] (a ∷ assumptions) = ap (λ cs. (named_literal names a.1 ∷ []) ∷ cs) (bare-named names [] assumptions)
bare-named names (c ∷ accepted) assumptions = ap (λ cs. named_clause names c.1 ∷ cs) (bare-named names accepted assumptions)

pub assuming-named : (settings : ScriptSettings) (names : List ℕ) (accepted : List (Part × Clause)) (assumptions : Assumptions) (pairs : List (ℕ × ℤ)) → named_assumptions names assumptions ≡ assumptions_of pairs
    → map (named_clause names) (map (λ a. a.1) accepted ++ units assumptions) ≡ bare_clauses (with_units (stored_state settings names accepted).accepted (assumptions_of pairs))
assuming-named settings names accepted assumptions pairs same = bare-named names accepted assumptions ∙ ap (λ ls. bare_clauses (with_units (written names accepted) ls)) same

-- ---- the variables of assumptions

-- one assumption of so many variables
pub IsOver-one : (n : ℕ) (assumptions : Assumptions) (i : ℕ) (item : Part × Literal) → IsOver n (literals assumptions) → i < length assumptions → item ≡ get_or assumptions i item → IsOver n (item.1 ∷ [])
IsOver-one n assumptions i item over within is =
    let first : Part × Literal → Literal = λ a. a.1 in
    let below : (get_or assumptions i item).1.var < n = IsOver-contains n (literals assumptions) (get_or assumptions i item).1 over (Contains-image first assumptions (get_or assumptions i item) (Contains-get_or assumptions i item within)) in
    and_from _ _ (lt-ltb item.1.var n (subst (λ (a : Part × Literal). a.1.var < n) (sym is) below)) refl

units-more : (x : ℕ) (assumptions : Assumptions) (i : ℕ) (item : Part × Literal) → i < length assumptions → item ≡ get_or assumptions i item → (occurs x (units (take i assumptions)) || occurs_in_clause x (item.1 ∷ [])) ≡ occurs x (units (take (i + 1) assumptions))
units-more x assumptions i item within is =
    let unit : Part × Literal → Clause = λ a. a.1 ∷ [] in
    sym (ap (λ xs. occurs x (units xs)) (take_more assumptions i item within)
    ∙ ap (occurs x) (map-append unit (take i assumptions) (get_or assumptions i item ∷ []))
    ∙ list_any-append (occurs_in_clause x) (units (take i assumptions)) (unit (get_or assumptions i item) ∷ [])
    ∙ ap (λ b. occurs x (units (take i assumptions)) || b) (or-false (occurs_in_clause x (unit (get_or assumptions i item))))
    ∙ ap (λ (a : Part × Literal). occurs x (units (take i assumptions)) || occurs_in_clause x (unit a)) (sym is))

-- the variables of one more are noted
pub noted-more : (assumptions : Assumptions) (i : ℕ) (item : Part × Literal) (old mid new : ℕ → Bool) → i < length assumptions → item ≡ get_or assumptions i item → ((x : ℕ) → mid x ≡ (old x || occurs x (units (take i assumptions)))) → ((x : ℕ) → new x ≡ (mid x || occurs_in_clause x (item.1 ∷ [])))
    → (x : ℕ) → new x ≡ (old x || occurs x (units (take (i + 1) assumptions)))
noted-more assumptions i item old mid new within is before noted x =
    noted x ∙ ap (λ b. b || occurs_in_clause x (item.1 ∷ [])) (before x) ∙ or-assoc (old x) (occurs x (units (take i assumptions))) (occurs_in_clause x (item.1 ∷ []))
    ∙ ap (λ b. old x || b) (units-more x assumptions i item within is)
  where
    or-assoc : (a b c : Bool) → ((a || b) || c) ≡ (a || (b || c))
    or-assoc true b c = refl
    or-assoc false b c = refl

-- one variable is noted
pub noted-set : (named : List Bool) (l : Literal) (x : ℕ) → l.var < length named → get_or (set named l.var true) x false ≡ (get_or named x false || occurs_in_clause x (l ∷ []))
noted-set named l x within =
    elim (nat_eq x l.var) as (λ b. nat_eq x l.var ≡ b → get_or (set named l.var true) x false ≡ (get_or named x false || (b || false))) [
      | true ↦ (λ here. let same : x ≡ l.var = eqb-true x l.var here in rw same (get_or-set_same named l.var true false within ∙ sym (or-true (get_or named l.var false))))
      | false ↦ (λ here. get_or-set_other named l.var x true false (λ e. absurd (let no : nat_eq x l.var ≡ true = eq-eqb x l.var e in cc)) ∙ sym (or-false (get_or named x false)))
    ] refl

-- the variable of an assumption is one of so many
pub assumed-below : (n : ℕ) (assumptions : Assumptions) (i : ℕ) (item : Part × Literal) → IsOver n (literals assumptions) → i < length assumptions → item ≡ get_or assumptions i item → item.1.var < n
assumed-below n assumptions i item over within is =
    let first : Part × Literal → Literal = λ a. a.1 in
    subst (λ (a : Part × Literal). a.1.var < n) (sym is) (IsOver-contains n (literals assumptions) (get_or assumptions i item).1 over (Contains-image first assumptions (get_or assumptions i item) (Contains-get_or assumptions i item within)))

-- clauses and units of so many variables
pub over-assumed : (n : ℕ) (cs : List Clause) (assumptions : Assumptions) → AreOver n cs → IsOver n (literals assumptions) → AreOver n (cs ++ units assumptions)
over-assumed n [] [] over assumed = refl
over-assumed n [] (a ∷ assumptions) over assumed = let parts = and_parts _ _ assumed in and_from _ _ (and_from _ _ parts.0 refl) (over-assumed n [] assumptions over parts.1)
over-assumed n (c ∷ cs) assumptions over assumed = let parts = and_parts _ _ over in and_from _ _ parts.0 (over-assumed n cs assumptions parts.1 assumed)
