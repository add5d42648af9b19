-- The counter of a generated script can't end above twice the number of steps, so its clauses can't all be true.
use Rattle.std.proofs.Common.{◌≡◌, ◌∙◌, sym, ap, refl, ℕ, zero, suc, ◌+◌, ◌-◌, ◌*◌, ◌<◌, ◌≤◌, Bool, true, false, not, ◌&&◌, ◌||◌, ◌==◌, List, [], ◌∷◌, ◌++◌, length, map, get_or, eqb-true, zero-add, ℤ, arith}
use Rattle.std.proofs.lemmas.Bool.{and_parts}
use Rattle.std.proofs.lemmas.List.Folds.{list_all-append}
use Rattle.std.proofs.lemmas.List.FromFn.{get_or-range_with_len, length-range_with_len}
use Rattle.std.proofs.lemmas.List.Sums.{AllPass-from_list_all}
use Rattle.std.specs.Bool.{if◌then◌else◌}
use Rattle.std.specs.List.{filter, flat_map, list_all, list_any, range_with_len}
use Rattle.craig_script.specs.declared.command.Command.TheVariants.{Solve}
use Rattle.craig_script.proofs.WritingLemmas.{both_true}
use Rattle.craig_script.specs.Generator.{end_bound, end_clause, end_clauses, fails, falling_bits, first_helper, generated, has_bit, higher_bit, holds, in_part, inner_bit, is_true_command, is_true_literal, lowest_bit, next_helper, start_clause, state_bit, step_clauses, step_commands, step_helper, step_input}

-- a bit as a number
abbrev bit : Bool → ℕ
bit true = 1
bit false = 0

-- ---- what the rows say of bits

-- the first helper is the input or the lowest bit
first_row : (t e b : Bool) → ((not t || (e || (b || false))) && ((t || (not e || false)) && ((t || (not b || false)) && true))) ≡ true → t ≡ (e || b)
first_row true true b h = refl
first_row true false true h = refl
first_row true false false h = absurd (cc)
first_row false true b h = absurd (cc)
first_row false false true h = absurd (cc)
first_row false false false h = refl

-- the lowest bit and what is carried are its sum with one and the input
lowest_row : (a b e : Bool) → ((a || (b || (e || false))) && ((a || (not b || (not e || false))) && ((not a || (b || (not e || false))) && ((not a || (not b || (e || false))) && true)))) ≡ true → bit a + 2 * bit (e || b) ≡ bit b + 1 + bit e
lowest_row true true true h = refl
lowest_row true true false h = absurd (cc)
lowest_row true false true h = absurd (cc)
lowest_row true false false h = refl
lowest_row false true true h = absurd (cc)
lowest_row false true false h = refl
lowest_row false false true h = refl
lowest_row false false false h = absurd (cc)

-- a higher bit and what is carried are its sum with its helper
higher_row : (a b t : Bool) → ((not a || (b || (t || false))) && ((not a || (not b || (not t || false))) && ((a || (not b || (t || false))) && ((a || (b || (not t || false))) && true)))) ≡ true → bit a + 2 * bit (b && t) ≡ bit b + bit t
higher_row true true true h = absurd (cc)
higher_row true true false h = refl
higher_row true false true h = refl
higher_row true false false h = absurd (cc)
higher_row false true true h = refl
higher_row false true false h = absurd (cc)
higher_row false false true h = absurd (cc)
higher_row false false false h = refl

-- the next helper is what is carried
next_row : (u b t : Bool) → ((not u || (b || false)) && ((not u || (t || false)) && ((u || (not b || (not t || false))) && true))) ≡ true → u ≡ (b && t)
next_row true true true h = refl
next_row true true false h = absurd (cc)
next_row true false t h = absurd (cc)
next_row false true true h = absurd (cc)
next_row false true false h = refl
next_row false false t h = refl

-- ---- the rows under values of the variables

-- the negation of a variable is true where the variable is false
fails-true : (values : ℕ → Bool) (v : ℕ) → 1 ≤ v → is_true_literal values (fails v) ≡ not (values v)
fails-true values zero some = absurd (omega (arith, some))
fails-true values (suc v) some = refl

-- all the clauses are true
abbrev AreTrue : (ℕ → Bool) → List (List ℤ) → Type 0
AreTrue values clauses = list_all (list_any (is_true_literal values)) clauses ≡ true

first_true : (values : ℕ → Bool) (t e b : ℕ) → 1 ≤ t → 1 ≤ e → 1 ≤ b → AreTrue values ((fails t ∷ (holds e ∷ (holds b ∷ []))) ∷ ((holds t ∷ (fails e ∷ [])) ∷ ((holds t ∷ (fails b ∷ [])) ∷ []))) → values t ≡ (values e || values b)
first_true values t e b p q r h = first_row (values t) (values e) (values b) (rw (fails-true values t p, fails-true values e q, fails-true values b r) at h)

lowest_true : (values : ℕ → Bool) (a b e : ℕ) → 1 ≤ a → 1 ≤ b → 1 ≤ e → AreTrue values ((holds a ∷ (holds b ∷ (holds e ∷ []))) ∷ ((holds a ∷ (fails b ∷ (fails e ∷ []))) ∷ ((fails a ∷ (holds b ∷ (fails e ∷ []))) ∷ ((fails a ∷ (fails b ∷ (holds e ∷ []))) ∷ []))))
    → bit (values a) + 2 * bit (values e || values b) ≡ bit (values b) + 1 + bit (values e)
lowest_true values a b e p q r h = lowest_row (values a) (values b) (values e) (rw (fails-true values a p, fails-true values b q, fails-true values e r) at h)

higher_true : (values : ℕ → Bool) (a b t : ℕ) → 1 ≤ a → 1 ≤ b → 1 ≤ t → AreTrue values ((fails a ∷ (holds b ∷ (holds t ∷ []))) ∷ ((fails a ∷ (fails b ∷ (fails t ∷ []))) ∷ ((holds a ∷ (fails b ∷ (holds t ∷ []))) ∷ ((holds a ∷ (holds b ∷ (fails t ∷ []))) ∷ []))))
    → bit (values a) + 2 * bit (values b && values t) ≡ bit (values b) + bit (values t)
higher_true values a b t p q r h = higher_row (values a) (values b) (values t) (rw (fails-true values a p, fails-true values b q, fails-true values t r) at h)

next_true : (values : ℕ → Bool) (u b t : ℕ) → 1 ≤ u → 1 ≤ b → 1 ≤ t → AreTrue values ((fails u ∷ (holds b ∷ [])) ∷ ((fails u ∷ (holds t ∷ [])) ∷ ((holds u ∷ (fails b ∷ (fails t ∷ []))) ∷ []))) → values u ≡ (values b && values t)
next_true values u b t p q r h = next_row (values u) (values b) (values t) (rw (fails-true values u p, fails-true values b q, fails-true values t r) at h)

-- what all of two lists pass, all of each pass
both_parts : {X : Type 0} (p : X → Bool) (xs ys : List X) → list_all p (xs ++ ys) ≡ true → (list_all p xs ≡ true) × (list_all p ys ≡ true)
both_parts p xs ys h = and_parts (list_all p xs) (list_all p ys) (sym (list_all-append p xs ys) ∙ h)

-- ---- a step

-- the number of the state after so many steps
abbrev counter : (ℕ → Bool) → ℕ → ℕ
counter values k = bit (values (state_bit k 0)) + 2 * bit (values (state_bit k 1)) + 4 * bit (values (state_bit k 2)) + 8 * bit (values (state_bit k 3)) + 16 * bit (values (state_bit k 4)) + 32 * bit (values (state_bit k 5)) + 64 * bit (values (state_bit k 6))

bit-small : (b : Bool) → bit b ≤ 1
bit-small true = omega arith
bit-small false = omega arith

-- a bit between the lowest and the highest after a step
inner_true : (values : ℕ → Bool) (before j : ℕ) → AreTrue values (inner_bit before j) → bit (values (state_bit (before + 1) j)) + 2 * bit (values (step_helper before (j + 1))) ≡ bit (values (state_bit before j)) + bit (values (step_helper before j))
inner_true values before j h =
    let both = both_parts (list_any (is_true_literal values)) (higher_bit before j) (next_helper before j) h in
    let next : values (step_helper before (j + 1)) ≡ (values (state_bit before j) && values (step_helper before j)) = next_true values (step_helper before (j + 1)) (state_bit before j) (step_helper before j) (omega arith) (omega arith) (omega arith) both.1 in
    ap (λ t. bit (values (state_bit (before + 1) j)) + 2 * bit t) next ∙ higher_true values (state_bit (before + 1) j) (state_bit before j) (step_helper before j) (omega arith) (omega arith) (omega arith) both.0

-- the highest bit after a step, whose carry is dropped
highest_true : (values : ℕ → Bool) (before : ℕ) → AreTrue values (higher_bit before 6) → bit (values (state_bit (before + 1) 6)) ≤ bit (values (state_bit before 6)) + bit (values (step_helper before 6))
highest_true values before h = omega (arith, higher_true values (state_bit (before + 1) 6) (state_bit before 6) (step_helper before 6) (omega arith) (omega arith) (omega arith) h)

-- a step moves the counter by at most two
step_moves : (values : ℕ → Bool) (before : ℕ) → AreTrue values (step_clauses before) → counter values (before + 1) ≤ counter values before + 2
step_moves values before h =
    let p = list_any (is_true_literal values) in
    let rows = both_parts p (first_helper before) (lowest_bit before ++ (flat_map (inner_bit before) (range_with_len 1 5) ++ higher_bit before 6)) h in
    let low = both_parts p (lowest_bit before) (flat_map (inner_bit before) (range_with_len 1 5) ++ higher_bit before 6) rows.1 in
    let ends = both_parts p (flat_map (inner_bit before) (range_with_len 1 5)) (higher_bit before 6) low.1 in
    let one = both_parts p (inner_bit before 1) (flat_map (inner_bit before) (range_with_len 2 4)) ends.0 in
    let two = both_parts p (inner_bit before 2) (flat_map (inner_bit before) (range_with_len 3 3)) one.1 in
    let three = both_parts p (inner_bit before 3) (flat_map (inner_bit before) (range_with_len 4 2)) two.1 in
    let four = both_parts p (inner_bit before 4) (flat_map (inner_bit before) (range_with_len 5 1)) three.1 in
    let five = both_parts p (inner_bit before 5) [] four.1 in
    let helper : values (step_helper before 1) ≡ (values (step_input before) || values (state_bit before 0)) = first_true values (step_helper before 1) (step_input before) (state_bit before 0) (omega arith) (omega arith) (omega arith) rows.0 in
    let lowest : bit (values (state_bit (before + 1) 0)) + 2 * bit (values (step_helper before 1)) ≡ bit (values (state_bit before 0)) + 1 + bit (values (step_input before)) =
    ap (λ t. bit (values (state_bit (before + 1) 0)) + 2 * bit t) helper ∙ lowest_true values (state_bit (before + 1) 0) (state_bit before 0) (step_input before) (omega arith) (omega arith) (omega arith) low.0 in
    moved (bit (values (step_input before))) (bit (values (state_bit before 0))) (bit (values (state_bit before 1))) (bit (values (state_bit before 2))) (bit (values (state_bit before 3))) (bit (values (state_bit before 4))) (bit (values (state_bit before 5))) (bit (values (state_bit before 6)))
    (bit (values (state_bit (before + 1) 0))) (bit (values (state_bit (before + 1) 1))) (bit (values (state_bit (before + 1) 2))) (bit (values (state_bit (before + 1) 3))) (bit (values (state_bit (before + 1) 4))) (bit (values (state_bit (before + 1) 5))) (bit (values (state_bit (before + 1) 6)))
    (bit (values (step_helper before 1))) (bit (values (step_helper before 2))) (bit (values (step_helper before 3))) (bit (values (step_helper before 4))) (bit (values (step_helper before 5))) (bit (values (step_helper before 6)))
    (bit-small (values (step_input before))) lowest (inner_true values before 1 one.0) (inner_true values before 2 two.0) (inner_true values before 3 three.0) (inner_true values before 4 four.0) (inner_true values before 5 five.0) (highest_true values before ends.1)
  where
    moved : (e b0 b1 b2 b3 b4 b5 b6 a0 a1 a2 a3 a4 a5 a6 t1 t2 t3 t4 t5 t6 : ℕ) → e ≤ 1 → a0 + 2 * t1 ≡ b0 + 1 + e → a1 + 2 * t2 ≡ b1 + t1 → a2 + 2 * t3 ≡ b2 + t2 → a3 + 2 * t4 ≡ b3 + t3 → a4 + 2 * t5 ≡ b4 + t4 → a5 + 2 * t6 ≡ b5 + t5 → a6 ≤ b6 + t6
        → a0 + 2 * a1 + 4 * a2 + 8 * a3 + 16 * a4 + 32 * a5 + 64 * a6 ≤ b0 + 2 * b1 + 4 * b2 + 8 * b3 + 16 * b4 + 32 * b5 + 64 * b6 + 2
    moved e b0 b1 b2 b3 b4 b5 b6 a0 a1 a2 a3 a4 a5 a6 t1 t2 t3 t4 t5 t6 small p0 p1 p2 p3 p4 p5 p6 = omega arith

in_part_true : (values : ℕ → Bool) (part : ℕ) (clauses : List (List ℤ)) → list_all (is_true_command values) (in_part part clauses) ≡ true → AreTrue values clauses
in_part_true values part [] h = refl
in_part_true values part (lits ∷ clauses) h =
    let both = and_parts (list_any (is_true_literal values) lits) (list_all (is_true_command values) (in_part part clauses)) h in
    both_true (list_any (is_true_literal values) lits) (list_all (list_any (is_true_literal values)) clauses) both.0 (in_part_true values part clauses both.1)

-- so many steps move it by at most twice their number
steps_move : (values : ℕ → Bool) (from n : ℕ) → list_all (is_true_command values) (flat_map step_commands (range_with_len from n)) ≡ true → counter values (from + n) ≤ counter values from + 2 * n
steps_move values from zero h = let same : counter values (from + 0) ≡ counter values from = ap (counter values) (let e : from + 0 ≡ from = omega arith in e) in omega (arith, same)
steps_move values from (suc n) h =
    let both = both_parts (is_true_command values) (step_commands from) (flat_map step_commands (range_with_len (from + 1) n)) h in
    let here : counter values (from + 1) ≤ counter values from + 2 = step_moves values from (in_part_true values (from + 1) (step_clauses from) both.0) in
    let later : counter values (from + 1 + n) ≤ counter values (from + 1) + 2 * n = steps_move values (from + 1) n both.1 in
    let same : counter values (from + suc n) ≡ counter values (from + 1 + n) = ap (counter values) (let e : from + suc n ≡ from + 1 + n = omega arith in e) in
    along (counter values (from + suc n)) (counter values (from + 1 + n)) (counter values (from + 1)) (counter values from) n same later here
  where
    along : (last again next first n : ℕ) → last ≡ again → again ≤ next + 2 * n → next ≤ first + 2 → last ≤ first + 2 * suc n
    along last again next first n e p q = omega (arith, e, p, q)

unset : (b : Bool) → (not b || false) ≡ true → bit b ≡ 0
unset true h = absurd (cc)
unset false h = refl

-- at the start it is 0
start_true : (values : ℕ → Bool) → AreTrue values (map start_clause (range_with_len 0 7)) → counter values 0 ≡ 0
start_true values h =
    let b0 = and_parts _ _ h in let b1 = and_parts _ _ b0.1 in let b2 = and_parts _ _ b1.1 in let b3 = and_parts _ _ b2.1 in let b4 = and_parts _ _ b3.1 in let b5 = and_parts _ _ b4.1 in let b6 = and_parts _ _ b5.1 in
    none (bit (values 1)) (bit (values 2)) (bit (values 3)) (bit (values 4)) (bit (values 5)) (bit (values 6)) (bit (values 7)) (unset (values 1) b0.0) (unset (values 2) b1.0) (unset (values 3) b2.0) (unset (values 4) b3.0) (unset (values 5) b4.0) (unset (values 6) b5.0) (unset (values 7) b6.0)
  where
    none : (a b d e f g i : ℕ) → a ≡ 0 → b ≡ 0 → d ≡ 0 → e ≡ 0 → f ≡ 0 → g ≡ 0 → i ≡ 0 → a + 2 * b + 4 * d + 8 * e + 16 * f + 32 * g + 64 * i ≡ 0
    none a b d e f g i p q r s t u v = omega arith

-- ---- the end

-- the number that the bits from a place on make
abbrev number : (ℕ → Bool) → ℕ → ℕ → ℕ
number bits from zero = 0
number bits from (suc n) = bit (bits from) + 2 * number bits (from + 1) n

-- whether a bit is set that the bound lacks
abbrev leads : (ℕ → Bool) → (ℕ → Bool) → ℕ → ℕ → Bool
leads bound bits from n = list_any bits (filter (λ i. not (bound i)) (range_with_len from n))

-- one of the images passes where one of the numbers does under the map
any-map : (p : ℤ → Bool) (f : ℕ → ℤ) (js : List ℕ) → list_any p (map f js) ≡ list_any (λ j. p (f j)) js
any-map p f [] = refl
any-map p f (j ∷ js) = ap (λ t. p (f j) || t) (any-map p f js)

any-chosen : (p : ℕ → Bool) (t : Bool) (j : ℕ) (js : List ℕ) → list_any p (if t then j ∷ js else js) ≡ (if t then (p j || list_any p js) else list_any p js)
any-chosen p true j js = refl
any-chosen p false j js = refl

-- one bit more below those that were compared
lead_more : (bound set leading : Bool) (low high : ℕ) → (not bound || (set || leading)) ≡ true → low ≤ high → (leading ≡ true → suc low ≤ high)
    → (bit bound + 2 * low ≤ bit set + 2 * high) × ((if not bound then (set || leading) else leading) ≡ true → suc (bit bound + 2 * low) ≤ bit set + 2 * high)
lead_more true true true low high fact p q = let r = q refl in (omega (arith, r), λ e. omega (arith, r))
lead_more true true false low high fact p q = (omega (arith, p), λ e. absurd (cc))
lead_more true false true low high fact p q = let r = q refl in (omega (arith, r), λ e. omega (arith, r))
lead_more true false false low high fact p q = absurd (cc)
lead_more false true true low high fact p q = (omega (arith, p), λ e. omega (arith, p))
lead_more false true false low high fact p q = (omega (arith, p), λ e. omega (arith, p))
lead_more false false true low high fact p q = let r = q refl in (omega (arith, r), λ e. omega (arith, r))
lead_more false false false low high fact p q = (omega (arith, p), λ e. absurd (cc))

-- what the clauses of the end say from a place on
at_least : (bound bits : ℕ → Bool) → ((j : ℕ) → j ≤ 6 → (not (bound j) || (bits j || leads bound bits (j + 1) (6 - j))) ≡ true) → (from n : ℕ) → from + n ≡ 7
    → (number bound from n ≤ number bits from n) × (leads bound bits from n ≡ true → suc (number bound from n) ≤ number bits from n)
at_least bound bits facts from zero at = (omega arith, λ e. absurd (cc))
at_least bound bits facts from (suc n) at =
    let later = at_least bound bits facts (from + 1) n (omega (arith, at)) in
    let fact : (not (bound from) || (bits from || leads bound bits (from + 1) n)) ≡ true = ap (λ k. not (bound from) || (bits from || leads bound bits (from + 1) k)) (let e : n ≡ 6 - from = omega (arith, at) in e) ∙ facts from (omega (arith, at)) in
    let more = lead_more (bound from) (bits from) (leads bound bits (from + 1) n) (number bound (from + 1) n) (number bits (from + 1) n) fact later.0 later.1 in
    (more.0, λ e. more.1 (sym (any-chosen bits (not (bound from)) from (filter (λ i. not (bound i)) (range_with_len (from + 1) n))) ∙ e))

-- the clauses of the end, bit by bit
end_facts : (values : ℕ → Bool) (steps : ℕ) (p : ℕ → Bool) (js : List ℕ) → AreTrue values (map (end_clause steps) (filter p js)) → list_all (λ j. not (p j) || list_any (is_true_literal values) (end_clause steps j)) js ≡ true
end_facts values steps p [] h = refl
end_facts values steps p (j ∷ js) h = cases (p j) refl (end_facts values steps p js)
  where
    cases : (t : Bool) → p j ≡ t → (AreTrue values (map (end_clause steps) (filter p js)) → list_all (λ k. not (p k) || list_any (is_true_literal values) (end_clause steps k)) js ≡ true) → list_all (λ k. not (p k) || list_any (is_true_literal values) (end_clause steps k)) (j ∷ js) ≡ true
    cases true is later = let both = and_parts (list_any (is_true_literal values) (end_clause steps j)) (list_all (list_any (is_true_literal values)) (map (end_clause steps) (filter p js))) (rw is at h) in rw (is, both.0) (later both.1)
    cases false is later = rw is (later (rw is at h))

falling_at : (j : ℕ) → j ≤ 6 → get_or falling_bits (6 - j) j ≡ j
falling_at zero h = refl
falling_at (suc zero) h = refl
falling_at (suc (suc zero)) h = refl
falling_at (suc (suc (suc zero))) h = refl
falling_at (suc (suc (suc (suc zero)))) h = refl
falling_at (suc (suc (suc (suc (suc zero))))) h = refl
falling_at (suc (suc (suc (suc (suc (suc zero)))))) h = refl
falling_at (suc (suc (suc (suc (suc (suc (suc n))))))) h = absurd (omega (arith, h))

-- the table of the bounds, each made by its bits
bound_table : list_all (λ n. number (has_bit (2 * n + 1)) 0 7 == 2 * n + 1) (range_with_len 0 61) ≡ true
bound_table = refl

bound_made : (n : ℕ) → n ≤ 60 → number (has_bit (2 * n + 1)) 0 7 ≡ 2 * n + 1
bound_made n few =
    let test : ℕ → Bool = λ k. number (has_bit (2 * k + 1)) 0 7 == 2 * k + 1 in
    let within : n < length (range_with_len 0 61) = omega (arith, few, length-range_with_len 0 61) in
    let at : get_or (range_with_len 0 61) n n ≡ n = get_or-range_with_len 0 61 n n (omega (arith, few)) ∙ zero-add n in
    let passed : test n ≡ true = sym (ap test at) ∙ AllPass-from_list_all test (range_with_len 0 61) bound_table n n within in
    eqb-true (number (has_bit (2 * n + 1)) 0 7) (2 * n + 1) passed

-- where the clauses of the end are true the counter is at the bound or above it
end_reached : (values : ℕ → Bool) (n : ℕ) → n ≤ 60 → AreTrue values (end_clauses n) → 2 * n + 1 ≤ counter values n
end_reached values n few h =
    let bound = has_bit (end_bound n) in
    let bits : ℕ → Bool = λ j. values (state_bit n j) in
    let test : ℕ → Bool = λ j. not (bound j) || list_any (is_true_literal values) (end_clause n j) in
    let all : list_all test falling_bits ≡ true = end_facts values n bound falling_bits h in
    let fact : (j : ℕ) → j ≤ 6 → (not (bound j) || (bits j || leads bound bits (j + 1) (6 - j))) ≡ true =
    λ j low. (
    let at : test j ≡ true = sym (ap test (falling_at j low)) ∙ AllPass-from_list_all test falling_bits all (6 - j) j (omega arith) in
    ap (λ t. not (bound j) || t) (sym (any-map (is_true_literal values) (λ i. holds (state_bit n i)) (j ∷ filter (λ i. not (bound i)) (range_with_len (j + 1) (6 - j))))) ∙ at) in
    let reached : number bound 0 7 ≤ number bits 0 7 = (at_least bound bits fact 0 7 refl).0 in
    let made : number bits 0 7 ≡ counter values n = flat (bit (bits 0)) (bit (bits 1)) (bit (bits 2)) (bit (bits 3)) (bit (bits 4)) (bit (bits 5)) (bit (bits 6)) in
    omega (arith, reached, made, bound_made n few)
  where
    flat : (a b d e f g i : ℕ) → a + 2 * (b + 2 * (d + 2 * (e + 2 * (f + 2 * (g + 2 * (i + 2 * 0)))))) ≡ a + 2 * b + 4 * d + 8 * e + 16 * f + 32 * g + 64 * i
    flat a b d e f g i = omega arith

never_all : (values : ℕ → Bool) (n : ℕ) → n ≤ 60 → list_all (is_true_command values) (generated n) ≡ true → ⊥
never_all values n few h =
    let T = is_true_command values in
    let starts = in_part 1 (map start_clause (range_with_len 0 7)) in
    let steps = flat_map step_commands (range_with_len 0 n) in
    let ends = in_part (n + 1) (end_clauses n) in
    let one = both_parts T starts (steps ++ (ends ++ Solve [] ∷ [])) h in
    let two = both_parts T steps (ends ++ Solve [] ∷ []) one.1 in
    let three = both_parts T ends (Solve [] ∷ []) two.1 in
    let start : counter values 0 ≡ 0 = start_true values (in_part_true values 1 (map start_clause (range_with_len 0 7)) one.0) in
    let moved : counter values (0 + n) ≤ counter values 0 + 2 * n = steps_move values 0 n two.0 in
    let end : 2 * n + 1 ≤ counter values n = end_reached values n few (in_part_true values (n + 1) (end_clauses n) three.0) in
    let same : counter values (0 + n) ≡ counter values n = ap (counter values) (zero-add n) in
    absent (counter values 0) (counter values (0 + n)) (counter values n) n start moved end same
  where
    absent : (first last again n : ℕ) → first ≡ 0 → last ≤ first + 2 * n → 2 * n + 1 ≤ again → last ≡ again → ⊥
    absent first last again n p q r e = omega (arith, p, q, r, e)

-- no values make all the clauses true
pub generated-unsatisfiable : (n : ℕ) (values : ℕ → Bool) → n ≤ 60 → list_all (is_true_command values) (generated n) ≡ false
generated-unsatisfiable n values few = cases (list_all (is_true_command values) (generated n)) refl
  where
    cases : (t : Bool) → list_all (is_true_command values) (generated n) ≡ t → list_all (is_true_command values) (generated n) ≡ false
    cases true e = absurd (never_all values n few e)
    cases false e = e
