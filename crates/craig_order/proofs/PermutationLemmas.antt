-- The row and its table of places, after two places were exchanged and after variables were appended.
use Rattle.std.proofs.Common.{◌≡◌, ◌≢◌, inl, inr, ℕ, ◌+◌, ◌<◌, ◌≤◌, List, [], ◌∷◌, ◌++◌, length, get_or, set, map, refl, sym, ap, subst, ◌∙◌, arith, ne_eqb}
use Rattle.std.proofs.lemmas.Bool.{cases_eq, cases_lt, eq-eqb}
use Rattle.std.proofs.lemmas.List.{ext_get_or, get_or-map, get_or-set_same, get_or-set_other, get_or_append_left, get_or_push, length-map, length-set, length_push}
use Rattle.craig_order.specs.Heap.{ArePlaces, IsAppended, exchanged}

-- where an exchange takes places
pub exchanged-first : (i j : ℕ) → exchanged i j i ≡ j
exchanged-first i j = rw (eq-eqb i i refl) refl

pub exchanged-second : (i j : ℕ) → exchanged i j j ≡ i
exchanged-second i j = elim (cases_eq j i) [
  | inl same ↦ rw (eq-eqb j i same) same
  | inr apart ↦ rw (ne_eqb j i apart, eq-eqb j j refl) refl
]

pub exchanged-other : (i j p : ℕ) → p ≢ i → p ≢ j → exchanged i j p ≡ p
exchanged-other i j p one two = rw (ne_eqb p i one, ne_eqb p j two) refl

-- an exchange of places below a number stays below it
pub exchanged-below : (i j p n : ℕ) → i < n → j < n → p < n → exchanged i j p < n
exchanged-below i j p n wi wj wp = elim (cases_eq p i) [
  | inl first ↦ subst (λ (q : ℕ). exchanged i j q < n) (sym first) (subst (λ (q : ℕ). q < n) (sym (exchanged-first i j)) wj)
  | inr one ↦ elim (cases_eq p j) [
    | inl second ↦ subst (λ (q : ℕ). exchanged i j q < n) (sym second) (subst (λ (q : ℕ). q < n) (sym (exchanged-second i j)) wi)
    | inr two ↦ subst (λ (q : ℕ). q < n) (sym (exchanged-other i j p one two)) wp
  ]
]

-- twice it is none
pub exchanged-twice : (i j p : ℕ) → exchanged i j (exchanged i j p) ≡ p
exchanged-twice i j p = elim (cases_eq p i) [
  | inl first ↦ subst (λ (q : ℕ). exchanged i j (exchanged i j q) ≡ q) (sym first) (ap (exchanged i j) (exchanged-first i j) ∙ exchanged-second i j)
  | inr one ↦ elim (cases_eq p j) [
    | inl second ↦ subst (λ (q : ℕ). exchanged i j (exchanged i j q) ≡ q) (sym second) (ap (exchanged i j) (exchanged-second i j) ∙ exchanged-first i j)
    | inr two ↦ ap (exchanged i j) (exchanged-other i j p one two) ∙ exchanged-other i j p one two
  ]
]

-- what stands in the row after an exchange
row-exchanged : (row : List ℕ) (i j p : ℕ) → i < length row → j < length row → get_or (set (set row i (get_or row j 0)) j (get_or row i 0)) p 0 ≡ get_or row (exchanged i j p) 0
row-exchanged row i j p wi wj = elim (cases_eq p j) [
  | inl second ↦ subst (λ (q : ℕ). get_or (set (set row i (get_or row j 0)) j (get_or row i 0)) q 0 ≡ get_or row (exchanged i j q) 0) (sym second)
      (get_or-set_same (set row i (get_or row j 0)) j (get_or row i 0) 0 (subst (λ (n : ℕ). j < n) (sym (length-set row i (get_or row j 0))) wj) ∙ ap (λ (q : ℕ). get_or row q 0) (sym (exchanged-second i j)))
  | inr two ↦ get_or-set_other (set row i (get_or row j 0)) j p (get_or row i 0) 0 two ∙ elim (cases_eq p i) [
    | inl first ↦ subst (λ (q : ℕ). get_or (set row i (get_or row j 0)) q 0 ≡ get_or row (exchanged i j q) 0) (sym first)
        (get_or-set_same row i (get_or row j 0) 0 wi ∙ ap (λ (q : ℕ). get_or row q 0) (sym (exchanged-first i j)))
    | inr one ↦ get_or-set_other row i p (get_or row j 0) 0 one ∙ ap (λ (q : ℕ). get_or row q 0) (sym (exchanged-other i j p one two))
  ]
]

-- where a variable stands after an exchange
place-exchanged : (row places : List ℕ) (i j v : ℕ) → ArePlaces row places → i < length places → j < length places → v < length places → get_or (set (set places (get_or row i 0) j) (get_or row j 0) i) v 0 ≡ exchanged i j (get_or places v 0)
place-exchanged row places i j v ok wi wj w = elim (cases_eq v (get_or row j 0)) [
  | inl second ↦ subst (λ (n : ℕ). get_or (set (set places (get_or row i 0) j) (get_or row j 0) i) n 0 ≡ exchanged i j (get_or places n 0)) (sym second)
      (get_or-set_same (set places (get_or row i 0) j) (get_or row j 0) i 0 (subst (λ (n : ℕ). get_or row j 0 < n) (sym (length-set places (get_or row i 0) j)) (ok.known j wj)) ∙ sym (exchanged-second i j) ∙ ap (exchanged i j) (sym (ok.back j wj)))
  | inr two ↦ get_or-set_other (set places (get_or row i 0) j) (get_or row j 0) v i 0 two ∙ elim (cases_eq v (get_or row i 0)) [
    | inl first ↦ subst (λ (n : ℕ). get_or (set places (get_or row i 0) j) n 0 ≡ exchanged i j (get_or places n 0)) (sym first)
        (get_or-set_same places (get_or row i 0) j 0 (ok.known i wi) ∙ sym (exchanged-first i j) ∙ ap (exchanged i j) (sym (ok.back i wi)))
    | inr one ↦ get_or-set_other places (get_or row i 0) v j 0 one ∙ sym (exchanged-other i j (get_or places v 0)
        (λ e. one (sym (ok.found v w) ∙ ap (λ (p : ℕ). get_or row p 0) e))
        (λ e. two (sym (ok.found v w) ∙ ap (λ (p : ℕ). get_or row p 0) e)))
  ]
]

-- the table after an exchange
pub places-exchanged : (row places : List ℕ) (i j : ℕ) → ArePlaces row places → i < length places → j < length places → set (set places (get_or row i 0) j) (get_or row j 0) i ≡ map (exchanged i j) places
places-exchanged row places i j ok wi wj =
    let long : length (set (set places (get_or row i 0) j) (get_or row j 0) i) ≡ length places = length-set (set places (get_or row i 0) j) (get_or row j 0) i ∙ length-set places (get_or row i 0) j in
    ext_get_or 0 _ _ (long ∙ sym (length-map places (exchanged i j))) (λ v w.
    let known : v < length places = omega arith in
    place-exchanged row places i j v ok wi wj known ∙ sym (get_or-map (exchanged i j) places v 0 0 known))

-- the row and the table are right after an exchange
pub ArePlaces-exchanged : (row places : List ℕ) (i j : ℕ) → ArePlaces row places → i < length places → j < length places → ArePlaces (set (set row i (get_or row j 0)) j (get_or row i 0)) (map (exchanged i j) places)
ArePlaces-exchanged row places i j ok wi wj =
    let long : length (map (exchanged i j) places) ≡ length places = length-map places (exchanged i j) in
    let wide : length (set (set row i (get_or row j 0)) j (get_or row i 0)) ≡ length row = length-set (set row i (get_or row j 0)) j (get_or row i 0) ∙ length-set row i (get_or row j 0) in
    let room : length places ≤ length row = ok.room in
    let few : length places ≤ 2147483648 = ok.few in
    let ri : i < length row = omega arith in
    let rj : j < length row = omega arith in
    let at : (v : ℕ) → v < length places → get_or (map (exchanged i j) places) v 0 ≡ exchanged i j (get_or places v 0) = λ v w. get_or-map (exchanged i j) places v 0 0 w in
    let stands : (p : ℕ) → get_or (set (set row i (get_or row j 0)) j (get_or row i 0)) p 0 ≡ get_or row (exchanged i j p) 0 = λ p. row-exchanged row i j p ri rj in
    record {
      few = omega arith;
      room = omega arith;
      within = λ v w.
          let known : v < length places = omega arith in
          let below : exchanged i j (get_or places v 0) < length places = exchanged-below i j (get_or places v 0) (length places) wi wj (ok.within v known) in
          subst (λ (n : ℕ). get_or (map (exchanged i j) places) v 0 < n) (sym long) (subst (λ (p : ℕ). p < length places) (sym (at v known)) below);
      found = λ v w.
          let known : v < length places = omega arith in
          ap (λ (p : ℕ). get_or (set (set row i (get_or row j 0)) j (get_or row i 0)) p 0) (at v known) ∙ stands (exchanged i j (get_or places v 0)) ∙ ap (λ (p : ℕ). get_or row p 0) (exchanged-twice i j (get_or places v 0)) ∙ ok.found v known;
      known = λ p w.
          let within : p < length places = omega arith in
          subst (λ (n : ℕ). get_or (set (set row i (get_or row j 0)) j (get_or row i 0)) p 0 < n) (sym long) (subst (λ (v : ℕ). v < length places) (sym (stands p)) (ok.known (exchanged i j p) (exchanged-below i j p (length places) wi wj within)));
      back = λ p w.
          let within : p < length places = omega arith in
          let below : exchanged i j p < length places = exchanged-below i j p (length places) wi wj within in
          ap (λ (v : ℕ). get_or (map (exchanged i j) places) v 0) (stands p) ∙ at (get_or row (exchanged i j p) 0) (ok.known (exchanged i j p) below) ∙ ap (exchanged i j) (ok.back (exchanged i j p) below) ∙ exchanged-twice i j p;
    }

-- two variables have two places
pub place-only : (row places : List ℕ) (v w p : ℕ) → ArePlaces row places → v < length places → w < length places → get_or places v 0 ≡ p → get_or places w 0 ≡ p → v ≡ w
place-only row places v w p ok known known_too at at_too = sym (ok.found v known) ∙ ap (λ (q : ℕ). get_or row q 0) (at ∙ sym at_too) ∙ ok.found w known_too

-- the row may have more entries
pub ArePlaces-same : (row more places : List ℕ) → ArePlaces row places → length places ≤ length more → ((p : ℕ) → p < length places → get_or more p 0 ≡ get_or row p 0) → ArePlaces more places
ArePlaces-same row more places ok room same = record {
  few = ok.few;
  room = room;
  within = ok.within;
  found = λ v w. same (get_or places v 0) (ok.within v w) ∙ ok.found v w;
  known = λ p w. subst (λ (v : ℕ). v < length places) (sym (same p w)) (ok.known p w);
  back = λ p w. ap (λ (v : ℕ). get_or places v 0) (same p w) ∙ ok.back p w;
}

-- one variable more
pub ArePlaces-appended : (row places : List ℕ) (n : ℕ) → ArePlaces row places → length places ≡ n → n < length row → n < 2147483648 → ArePlaces (set row n n) (places ++ n ∷ [])
ArePlaces-appended row places n ok size room few =
    let long : length (places ++ n ∷ []) ≡ length places + 1 = length_push places n in
    let wide : length (set row n n) ≡ length row = length-set row n n in
    let old : (v : ℕ) → v < n → get_or (places ++ n ∷ []) v 0 ≡ get_or places v 0 = λ v w. get_or_append_left places (n ∷ []) 0 v (omega arith) in
    let new : get_or (places ++ n ∷ []) n 0 ≡ n = get_or_push places n 0 n size in
    let same : (p : ℕ) → p < n → get_or (set row n n) p 0 ≡ get_or row p 0 = λ p w. get_or-set_other row n p n 0 (λ e. absurd (omega arith)) in
    let last : get_or (set row n n) n 0 ≡ n = get_or-set_same row n n 0 room in
    record {
      few = omega arith;
      room = omega arith;
      within = λ v w. elim (cases_lt v n) [
        | inl low ↦ let was : get_or places v 0 < length places = ok.within v (omega arith) in let is : get_or (places ++ n ∷ []) v 0 ≡ get_or places v 0 = old v low in omega arith
        | inr high ↦ let is : v ≡ n = omega arith in subst (λ (u : ℕ). get_or (places ++ n ∷ []) u 0 < length (places ++ n ∷ [])) (sym is) (omega arith)
      ];
      found = λ v w. elim (cases_lt v n) [
        | inl low ↦
            let was : get_or places v 0 < length places = ok.within v (omega arith) in
            ap (λ (p : ℕ). get_or (set row n n) p 0) (old v low) ∙ same (get_or places v 0) (omega arith) ∙ ok.found v (omega arith)
        | inr high ↦ let is : v ≡ n = omega arith in subst (λ (u : ℕ). get_or (set row n n) (get_or (places ++ n ∷ []) u 0) 0 ≡ u) (sym is) (ap (λ (p : ℕ). get_or (set row n n) p 0) new ∙ last)
      ];
      known = λ p w. elim (cases_lt p n) [
        | inl low ↦ let was : get_or row p 0 < length places = ok.known p (omega arith) in let is : get_or (set row n n) p 0 ≡ get_or row p 0 = same p low in omega arith
        | inr high ↦ let is : p ≡ n = omega arith in subst (λ (u : ℕ). get_or (set row n n) u 0 < length (places ++ n ∷ [])) (sym is) (omega arith)
      ];
      back = λ p w. elim (cases_lt p n) [
        | inl low ↦
            let was : get_or row p 0 < length places = ok.known p (omega arith) in
            ap (λ (v : ℕ). get_or (places ++ n ∷ []) v 0) (same p low) ∙ old (get_or row p 0) (omega arith) ∙ ok.back p (omega arith)
        | inr high ↦ let is : p ≡ n = omega arith in subst (λ (u : ℕ). get_or (places ++ n ∷ []) (get_or (set row n n) u 0) 0 ≡ u) (sym is) (ap (λ (v : ℕ). get_or (places ++ n ∷ []) v 0) last ∙ new)
      ];
    }

-- what was appended so far, with one variable more
pub IsAppended-more : (old places : List ℕ) (n : ℕ) → IsAppended old places n → length old ≤ n → IsAppended old (places ++ n ∷ []) (n + 1)
IsAppended-more old places n so more =
    let size : length places ≡ n = so.known in
    let long : length (places ++ n ∷ []) ≡ length places + 1 = length_push places n in
    record {
      known = omega arith;
      as_before = λ v w. get_or_append_left places (n ∷ []) 0 v (omega arith) ∙ so.as_before v w;
      last = λ v low w. elim (cases_lt v n) [
        | inl below ↦ get_or_append_left places (n ∷ []) 0 v (omega arith) ∙ so.last v low below
        | inr high ↦ let is : v ≡ n = omega arith in subst (λ (u : ℕ). get_or (places ++ n ∷ []) u 0 ≡ u) (sym is) (get_or_push places n 0 n size)
      ];
    }
