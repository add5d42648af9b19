-- Which parts lie on the sides of cuts and between them.
use Rattle.std.proofs.Common.{◌≡◌, ◌⊎◌, inl, inr, ℕ, ◌<◌, ◌≤◌, Bool, true, false, ◌&&◌, eqb, leb, ltb, arith, le-leb, leb-true, lt-ltb, ltb-true, eq-eqb, eqb-true}
use Rattle.std.proofs.lemmas.Bool.{and_from, and_parts, cases_Bool, leb-false, or_cases, or_left, or_right, both_ways}
use Rattle.craig_spec.specs.Cut.{is_between, is_on_side_a, is_on_side_b}

-- whether the clauses of a part are leaves of side A at a cut
abbrev pub is_leaf : ℕ → ℕ → Bool
is_leaf cut part = leb 1 part && leb part cut

pub is_leaf-true : (cut part : ℕ) → is_leaf cut part ≡ true → (1 ≤ part) × (part ≤ cut)
is_leaf-true cut part h = let both = and_parts (leb 1 part) (leb part cut) h in (leb-true 1 part both.0, leb-true part cut both.1)

pub is_leaf-from : (cut part : ℕ) → 1 ≤ part → part ≤ cut → is_leaf cut part ≡ true
is_leaf-from cut part low high = and_from (leb 1 part) (leb part cut) (le-leb 1 part low) (le-leb part cut high)

pub is_leaf-false : (cut part : ℕ) → is_leaf cut part ≡ false → (part ≡ 0) ⊎ (cut < part)
is_leaf-false cut part h =
    elim (cases_Bool (leb 1 part)) [
      | inl some ↦ elim (cases_Bool (leb part cut)) [
        | inl within ↦ absurd (both_ways (is_leaf cut part) h (and_from (leb 1 part) (leb part cut) some within))
        | inr above ↦ inr (leb-false part cut above)
      ]
      | inr none ↦ inl (let low : part < 1 = leb-false 1 part none in omega arith)
    ]

pub is_on_side_a-from : (cut part : ℕ) → part ≤ cut → is_on_side_a cut part ≡ true
is_on_side_a-from cut part h = or_right (eqb part 0) (leb part cut) (le-leb part cut h)

pub is_on_side_a-true : (cut part : ℕ) → is_on_side_a cut part ≡ true → part ≤ cut
is_on_side_a-true cut part h =
    elim (or_cases (eqb part 0) (leb part cut) h) [
      | inl common ↦ (let zero : part ≡ 0 = eqb-true part 0 common in omega arith)
      | inr within ↦ leb-true part cut within
    ]

pub is_on_side_b-from : (cut part : ℕ) → (part ≡ 0) ⊎ (cut < part) → is_on_side_b cut part ≡ true
is_on_side_b-from cut part (inl common) = or_left (eqb part 0) (ltb cut part) (eq-eqb part 0 common)
is_on_side_b-from cut part (inr above) = or_right (eqb part 0) (ltb cut part) (lt-ltb cut part above)

pub is_on_side_b-true : (cut part : ℕ) → is_on_side_b cut part ≡ true → (part ≡ 0) ⊎ (cut < part)
is_on_side_b-true cut part h =
    elim (or_cases (eqb part 0) (ltb cut part) h) [
      | inl common ↦ inl (eqb-true part 0 common)
      | inr above ↦ inr (ltb-true cut part above)
    ]

pub is_between-from : (cut later part : ℕ) → (part ≡ 0) ⊎ (cut < part) → part ≤ later → is_between cut later part ≡ true
is_between-from cut later part (inl common) within = or_left (eqb part 0) (ltb cut part && leb part later) (eq-eqb part 0 common)
is_between-from cut later part (inr above) within = or_right (eqb part 0) (ltb cut part && leb part later) (and_from (ltb cut part) (leb part later) (lt-ltb cut part above) (le-leb part later within))
