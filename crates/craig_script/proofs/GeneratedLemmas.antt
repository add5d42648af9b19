-- What the commands of a generated script name, how many they are, and that each is accepted and read back.
use Rattle.std.proofs.Common.{◌≡◌, ◌∙◌, sym, ap, subst, refl, ℕ, zero, suc, ◌+◌, ◌-◌, ◌*◌, ◌≤◌, Bool, true, false, not, ◌&&◌, ◌==◌, nat_le, List, [], ◌∷◌, ◌++◌, length, map, Contains, Ok, codes, ℤ, pos, negsuc, length-append, lit<, lit≤, eqb-true, zero-add, leb-true, arith}
use Rattle.std.proofs.lemmas.Bool.{and_parts}
use Rattle.std.proofs.lemmas.Bool.Decides.{nat_tests}
use Rattle.std.proofs.lemmas.Fmt.{length-decimal-le}
use Rattle.std.specs.Fmt.{decimal, signed_decimal}
use Rattle.std.proofs.lemmas.List.Folds.{list_all-append}
use Rattle.std.proofs.lemmas.List.Sums.{AllPass-from_list_all, length-filter}
use Rattle.std.proofs.lemmas.List.{length-map}
use Rattle.std.proofs.lemmas.List.Elements.{Contains-append_left, Contains-append_right, filter-append}
use Rattle.std.proofs.lemmas.List.FromFn.{get_or-range_with_len, length-range_with_len}
use lib.Count.{ones as count_ones, ones_in}
use Rattle.std.specs.Int.RustNames.{unsigned_abs}
use Rattle.std.specs.List.{count_by, filter, flat_map, list_all, range_with_len}
use Rattle.craig_script.specs.declared.command.Command.{Command}
use Rattle.craig_script.specs.declared.command.Command.TheVariants.{Parts, Add, Solve}
use Rattle.craig_script.specs.declared.line.Line.TheVariants as line
use Rattle.craig_script.specs.Generator.{adds_clause, end_bound, end_clause, end_clauses, fails, falling_bits, first_helper, generated, has_bit, higher_bit, holds, in_part, inner_bit, lowest_bit, next_helper, start_clause, state_bit, step_clauses, step_commands, step_helper, step_input}
use Rattle.craig_script.proofs.GeneratorLemmas.{flat_map_push, range_more}
use Rattle.craig_script.specs.Reading.{admitted, is_within, parsed, variable_limit, variables_named}
use Rattle.craig_script.specs.Writing.{command_line, is_writable, is_writable_literal, is_writable_number, spaced}
use Rattle.craig_script.proofs.WritingLemmas.{both_true, joined-spaced, line_parsed}

all_both : {X : Type 0} (p : X → Bool) (xs ys : List X) → list_all p xs ≡ true → list_all p ys ≡ true → list_all p (xs ++ ys) ≡ true
all_both p xs ys e h = list_all-append p xs ys ∙ both_true (list_all p xs) (list_all p ys) e h

-- what all pass each member does
member-passes : {X : Type 0} (p : X → Bool) (xs : List X) (x : X) → Contains xs x → list_all p xs ≡ true → p x ≡ true
member-passes p xs x (k, within, at) e = sym (ap p at) ∙ AllPass-from_list_all p xs e k x within

-- ---- the clauses of the rows

-- whether the variables are from 1 to the limit, and at most seven literals
abbrev pub is_small_clause : ℕ → List ℤ → Bool
is_small_clause limit lits = list_all (is_within limit) (map unsigned_abs lits) && nat_le (length lits) 7

-- the literal's variable is from 1 to the limit
record Within (limit : ℕ) (z : ℤ) : Type 0 where
  within : is_within limit (unsigned_abs z) ≡ true

-- the clause is small
record IsSmall (limit : ℕ) (lits : List ℤ) : Type 0 where
  small : is_small_clause limit lits ≡ true

within-test : (limit v : ℕ) → 1 ≤ v → v ≤ limit → is_within limit v ≡ true
within-test limit v some small = grind (arith, nat_tests, some, small)

unsigned_abs-fails : (v : ℕ) → unsigned_abs (fails v) ≡ v
unsigned_abs-fails zero = refl
unsigned_abs-fails (suc v) = refl

holds-within : (limit v : ℕ) → 1 ≤ v → v ≤ limit → Within limit (holds v)
holds-within limit v some small = record { within = within-test limit v some small }

fails-within : (limit v : ℕ) → 1 ≤ v → v ≤ limit → Within limit (fails v)
fails-within limit v some small = record { within = ap (is_within limit) (unsigned_abs-fails v) ∙ within-test limit v some small }

one_small : (limit : ℕ) (a : ℤ) → Within limit a → IsSmall limit (a ∷ [])
one_small limit a p = record { small = rw p.within refl }

two_small : (limit : ℕ) (a b : ℤ) → Within limit a → Within limit b → IsSmall limit (a ∷ (b ∷ []))
two_small limit a b p q = record { small = rw (p.within, q.within) refl }

three_small : (limit : ℕ) (a b d : ℤ) → Within limit a → Within limit b → Within limit d → IsSmall limit (a ∷ (b ∷ (d ∷ [])))
three_small limit a b d p q r = record { small = rw (p.within, q.within, r.within) refl }

-- each clause is small
abbrev AreSmall : ℕ → List (List ℤ) → Type 0
AreSmall limit clauses = list_all (is_small_clause limit) clauses ≡ true

three_clauses : (limit : ℕ) (a b d : List ℤ) → IsSmall limit a → IsSmall limit b → IsSmall limit d → AreSmall limit (a ∷ (b ∷ (d ∷ [])))
three_clauses limit a b d p q r = both_true (is_small_clause limit a) (is_small_clause limit b && (is_small_clause limit d && true)) p.small (both_true (is_small_clause limit b) (is_small_clause limit d && true) q.small (both_true (is_small_clause limit d) true r.small refl))

four_clauses : (limit : ℕ) (a b d f : List ℤ) → IsSmall limit a → IsSmall limit b → IsSmall limit d → IsSmall limit f → AreSmall limit (a ∷ (b ∷ (d ∷ (f ∷ []))))
four_clauses limit a b d f p q r s = both_true (is_small_clause limit a) (is_small_clause limit b && (is_small_clause limit d && (is_small_clause limit f && true))) p.small (three_clauses limit b d f q r s)

first_helper-small : (limit before : ℕ) → 14 * before + 21 ≤ limit → AreSmall limit (first_helper before)
first_helper-small limit before h =
    let helper = step_helper before 1 in let input = step_input before in let bit = state_bit before 0 in
    let th : Within limit (holds helper) = holds-within limit helper (omega arith) (omega (arith, h)) in
    let fh : Within limit (fails helper) = fails-within limit helper (omega arith) (omega (arith, h)) in
    let ti : Within limit (holds input) = holds-within limit input (omega arith) (omega (arith, h)) in
    let fi : Within limit (fails input) = fails-within limit input (omega arith) (omega (arith, h)) in
    let tb : Within limit (holds bit) = holds-within limit bit (omega arith) (omega (arith, h)) in
    let fb : Within limit (fails bit) = fails-within limit bit (omega arith) (omega (arith, h)) in
    three_clauses limit _ _ _ (three_small limit _ _ _ fh ti tb) (two_small limit _ _ th fi) (two_small limit _ _ th fb)

lowest_bit-small : (limit before : ℕ) → 14 * before + 21 ≤ limit → AreSmall limit (lowest_bit before)
lowest_bit-small limit before h =
    let after = state_bit (before + 1) 0 in let input = step_input before in let bit = state_bit before 0 in
    let ta : Within limit (holds after) = holds-within limit after (omega arith) (omega (arith, h)) in
    let fa : Within limit (fails after) = fails-within limit after (omega arith) (omega (arith, h)) in
    let ti : Within limit (holds input) = holds-within limit input (omega arith) (omega (arith, h)) in
    let fi : Within limit (fails input) = fails-within limit input (omega arith) (omega (arith, h)) in
    let tb : Within limit (holds bit) = holds-within limit bit (omega arith) (omega (arith, h)) in
    let fb : Within limit (fails bit) = fails-within limit bit (omega arith) (omega (arith, h)) in
    four_clauses limit _ _ _ _ (three_small limit _ _ _ ta tb ti) (three_small limit _ _ _ ta fb fi) (three_small limit _ _ _ fa tb fi) (three_small limit _ _ _ fa fb ti)

higher_bit-small : (limit before j : ℕ) → j ≤ 6 → 14 * before + 21 ≤ limit → AreSmall limit (higher_bit before j)
higher_bit-small limit before j low h =
    let after = state_bit (before + 1) j in let helper = step_helper before j in let bit = state_bit before j in
    let ta : Within limit (holds after) = holds-within limit after (omega arith) (omega (arith, h, low)) in
    let fa : Within limit (fails after) = fails-within limit after (omega arith) (omega (arith, h, low)) in
    let th : Within limit (holds helper) = holds-within limit helper (omega arith) (omega (arith, h, low)) in
    let fh : Within limit (fails helper) = fails-within limit helper (omega arith) (omega (arith, h, low)) in
    let tb : Within limit (holds bit) = holds-within limit bit (omega arith) (omega (arith, h, low)) in
    let fb : Within limit (fails bit) = fails-within limit bit (omega arith) (omega (arith, h, low)) in
    four_clauses limit _ _ _ _ (three_small limit _ _ _ fa tb th) (three_small limit _ _ _ fa fb fh) (three_small limit _ _ _ ta fb th) (three_small limit _ _ _ ta tb fh)

next_helper-small : (limit before j : ℕ) → j ≤ 5 → 14 * before + 21 ≤ limit → AreSmall limit (next_helper before j)
next_helper-small limit before j low h =
    let next = step_helper before (j + 1) in let helper = step_helper before j in let bit = state_bit before j in
    let tn : Within limit (holds next) = holds-within limit next (omega arith) (omega (arith, h, low)) in
    let fn : Within limit (fails next) = fails-within limit next (omega arith) (omega (arith, h, low)) in
    let th : Within limit (holds helper) = holds-within limit helper (omega arith) (omega (arith, h, low)) in
    let fh : Within limit (fails helper) = fails-within limit helper (omega arith) (omega (arith, h, low)) in
    let tb : Within limit (holds bit) = holds-within limit bit (omega arith) (omega (arith, h, low)) in
    let fb : Within limit (fails bit) = fails-within limit bit (omega arith) (omega (arith, h, low)) in
    three_clauses limit _ _ _ (two_small limit _ _ fn tb) (two_small limit _ _ fn th) (three_small limit _ _ _ tn fb fh)

inner_bits-small : (limit before from n : ℕ) → from + n ≤ 6 → 14 * before + 21 ≤ limit → AreSmall limit (flat_map (inner_bit before) (range_with_len from n))
inner_bits-small limit before from zero low h = refl
inner_bits-small limit before from (suc n) low h =
    all_both (is_small_clause limit) (inner_bit before from) (flat_map (inner_bit before) (range_with_len (from + 1) n))
    (all_both (is_small_clause limit) (higher_bit before from) (next_helper before from) (higher_bit-small limit before from (omega (arith, low)) h) (next_helper-small limit before from (omega (arith, low)) h))
    (inner_bits-small limit before (from + 1) n (omega (arith, low)) h)

step-small : (limit before : ℕ) → 14 * before + 21 ≤ limit → AreSmall limit (step_clauses before)
step-small limit before h =
    all_both (is_small_clause limit) (first_helper before) (lowest_bit before ++ (flat_map (inner_bit before) (range_with_len 1 5) ++ higher_bit before 6)) (first_helper-small limit before h)
    (all_both (is_small_clause limit) (lowest_bit before) (flat_map (inner_bit before) (range_with_len 1 5) ++ higher_bit before 6) (lowest_bit-small limit before h)
    (all_both (is_small_clause limit) (flat_map (inner_bit before) (range_with_len 1 5)) (higher_bit before 6) (inner_bits-small limit before 1 5 (lit≤ tt) h) (higher_bit-small limit before 6 (lit≤ tt) h)))

-- the clauses of each row are small
start-small : (limit from n : ℕ) → from + n ≤ 7 → 7 ≤ limit → AreSmall limit (map start_clause (range_with_len from n))
start-small limit from zero low h = refl
start-small limit from (suc n) low h =
    both_true (is_small_clause limit (start_clause from)) _ (one_small limit (fails (state_bit 0 from)) (fails-within limit (state_bit 0 from) (omega arith) (omega (arith, low, h)))).small (start-small limit (from + 1) n (omega (arith, low)) h)

-- ---- the clauses of the end

-- the literals of the bits that pass
above-within : (limit steps : ℕ) (p : ℕ → Bool) (from n : ℕ) → from + n ≤ 7 → 14 * steps + 7 ≤ limit → list_all (is_within limit) (map unsigned_abs (map (λ i. holds (state_bit steps i)) (filter p (range_with_len from n)))) ≡ true
above-within limit steps p from zero low h = refl
above-within limit steps p from (suc n) low h = cases (p from) refl (above-within limit steps p (from + 1) n (omega (arith, low)) h)
  where
    cases : (b : Bool) → p from ≡ b → list_all (is_within limit) (map unsigned_abs (map (λ i. holds (state_bit steps i)) (filter p (range_with_len (from + 1) n)))) ≡ true → list_all (is_within limit) (map unsigned_abs (map (λ i. holds (state_bit steps i)) (filter p (range_with_len from (suc n))))) ≡ true
    cases true e later = rw e (both_true (is_within limit (state_bit steps from)) _ (holds-within limit (state_bit steps from) (omega arith) (omega (arith, low, h))).within later)
    cases false e later = rw e later

-- there are no more of them than bits
above-few : (f : ℕ → ℤ) (p : ℕ → Bool) (from n : ℕ) → length (map f (filter p (range_with_len from n))) ≤ n
above-few f p from zero = omega arith
above-few f p from (suc n) = cases (p from) refl (above-few f p (from + 1) n)
  where
    cases : (b : Bool) → p from ≡ b → length (map f (filter p (range_with_len (from + 1) n))) ≤ n → length (map f (filter p (range_with_len from (suc n)))) ≤ suc n
    cases true e later = rw e (omega (arith, later))
    cases false e later = rw e (omega (arith, later))

end_clause-small : (limit steps j : ℕ) → j ≤ 6 → 14 * steps + 7 ≤ limit → is_small_clause limit (end_clause steps j) ≡ true
end_clause-small limit steps j low h =
    let lacks : ℕ → Bool = λ i. not (has_bit (end_bound steps) i) in
    let few : length (map (λ i. holds (state_bit steps i)) (filter lacks (range_with_len (j + 1) (6 - j)))) ≤ 6 - j = above-few (λ i. holds (state_bit steps i)) lacks (j + 1) (6 - j) in
    both_true _ _ (both_true _ _ (holds-within limit (state_bit steps j) (omega arith) (omega (arith, low, h))).within (above-within limit steps lacks (j + 1) (6 - j) (omega (arith, low)) h)) (seven (length (map (λ i. holds (state_bit steps i)) (filter lacks (range_with_len (j + 1) (6 - j))))) (omega (arith, few)))
  where
    seven : (n : ℕ) → n ≤ 6 → nat_le (suc n) 7 ≡ true
    seven n h = grind (arith, nat_tests, h)

end-small : (limit steps : ℕ) (p : ℕ → Bool) (js : List ℕ) → list_all (λ j. nat_le j 6) js ≡ true → 14 * steps + 7 ≤ limit → AreSmall limit (map (end_clause steps) (filter p js))
end-small limit steps p [] e h = refl
end-small limit steps p (j ∷ js) e h =
    let both = and_parts (nat_le j 6) (list_all (λ k. nat_le k 6) js) e in
    cases (p j) refl (end_clause-small limit steps j (leb-true j 6 both.0) h) (end-small limit steps p js both.1 h)
  where
    cases : (b : Bool) → p j ≡ b → is_small_clause limit (end_clause steps j) ≡ true → AreSmall limit (map (end_clause steps) (filter p js)) → AreSmall limit (map (end_clause steps) (filter p (j ∷ js)))
    cases true is here later = rw is (both_true (is_small_clause limit (end_clause steps j)) _ here later)
    cases false is here later = rw is later

-- ---- the commands

-- whether the command adds a small clause to one of the parts, or solves without assumptions
abbrev pub is_small_command : ℕ → ℕ → Command → Bool
is_small_command limit parts (Add part lits) = nat_le part parts && is_small_clause limit lits
is_small_command limit parts (Solve []) = true
is_small_command limit parts _ = false

in_part-small : (limit parts part : ℕ) (clauses : List (List ℤ)) → part ≤ parts → AreSmall limit clauses → list_all (is_small_command limit parts) (in_part part clauses) ≡ true
in_part-small limit parts part [] within e = refl
in_part-small limit parts part (lits ∷ clauses) within e =
    let both = and_parts (is_small_clause limit lits) (list_all (is_small_clause limit) clauses) e in
    both_true (nat_le part parts && is_small_clause limit lits) _ (both_true (nat_le part parts) _ (grind (arith, nat_tests, within)) both.0) (in_part-small limit parts part clauses within both.1)

-- the commands of the steps are small, and so is the whole script behind its first command
steps-small : (limit parts from n : ℕ) → from + n ≤ parts → 14 * (from + n) + 7 ≤ limit → list_all (is_small_command limit parts) (flat_map step_commands (range_with_len from n)) ≡ true
steps-small limit parts from zero within h = refl
steps-small limit parts from (suc n) within h =
    all_both (is_small_command limit parts) (step_commands from) (flat_map step_commands (range_with_len (from + 1) n))
    (in_part-small limit parts (from + 1) (step_clauses from) (omega (arith, within)) (step-small limit from (omega (arith, h)))) (steps-small limit parts (from + 1) n (omega (arith, within)) (omega (arith, h)))

-- the commands behind the first
abbrev pub later_commands : ℕ → List Command
later_commands n = in_part 1 (map start_clause (range_with_len 0 7)) ++ (flat_map step_commands (range_with_len 0 n) ++ (in_part (n + 1) (end_clauses n) ++ Solve [] ∷ []))

generated-small : (limit n : ℕ) → 14 * n + 7 ≤ limit → list_all (is_small_command limit (n + 1)) (later_commands n) ≡ true
generated-small limit n h =
    let T = is_small_command limit (n + 1) in
    all_both T (in_part 1 (map start_clause (range_with_len 0 7))) (flat_map step_commands (range_with_len 0 n) ++ (in_part (n + 1) (end_clauses n) ++ Solve [] ∷ []))
    (in_part-small limit (n + 1) 1 (map start_clause (range_with_len 0 7)) (omega arith) (start-small limit 0 7 (lit≤ tt) (omega (arith, h))))
    (all_both T (flat_map step_commands (range_with_len 0 n)) (in_part (n + 1) (end_clauses n) ++ Solve [] ∷ []) (steps-small limit (n + 1) 0 n (omega arith) (omega (arith, h)))
    (all_both T (in_part (n + 1) (end_clauses n)) (Solve [] ∷ []) (in_part-small limit (n + 1) (n + 1) (end_clauses n) (omega arith) (end-small limit n (has_bit (end_bound n)) falling_bits refl h)) refl))

small_later : (limit n : ℕ) (c : Command) → 14 * n + 7 ≤ limit → Contains (later_commands n) c → is_small_command limit (n + 1) c ≡ true
small_later limit n c h here = member-passes (is_small_command limit (n + 1)) (later_commands n) c here (generated-small limit n h)

-- the first command or a later one
either : (P : Command → Type 0) (first c : Command) (later : List Command) → Contains (first ∷ later) c → P first → (Contains later c → P c) → P c
either P first c later (zero, within, at) p next = subst P at p
either P first c later (suc k, within, at) p next = next (k, omega (arith, within), at)

-- ---- what they name

range_of : (limit v : ℕ) → is_within limit v ≡ true → (1 ≤ v) × (v ≤ limit)
range_of limit v e = let both = and_parts _ _ e in (leb-true 1 v both.0, leb-true v limit both.1)

small_variables : (limit parts : ℕ) (c : Command) (v : ℕ) → is_small_command limit parts c ≡ true → Contains (variables_named c) v → (1 ≤ v) × (v ≤ limit)
small_variables limit parts (Add part lits) v e here =
    let both = and_parts (nat_le part parts) (is_small_clause limit lits) e in
    range_of limit v (member-passes (is_within limit) (map unsigned_abs lits) v here (and_parts _ _ both.1).0)
small_variables limit parts (Solve []) v e (k, within, at) = absurd (omega (arith, within))
small_variables limit parts _ v e here = absurd (cc)

-- each variable that a command names is from 1 to seven more than fourteen times the steps
pub variables_of_generated : (n : ℕ) (c : Command) (v : ℕ) → Contains (generated n) c → Contains (variables_named c) v → (1 ≤ v) × (v ≤ 14 * n + 7)
variables_of_generated n c v here =
    either (λ d. Contains (variables_named d) v → (1 ≤ v) × (v ≤ 14 * n + 7)) (Parts (n + 1)) c (later_commands n) here
    (λ (k, within, at). absurd (omega (arith, within))) (λ later. small_variables (14 * n + 7) (n + 1) c v (small_later (14 * n + 7) n c (omega arith) later))

-- behind another command
behind_first : (first c : Command) (later : List Command) → Contains later c → Contains (first ∷ later) c
behind_first first c later (k, within, at) = (suc k, omega (arith, within), at)

-- the last clause of the step behind so many others
last_of_step : ℕ → Command
last_of_step before = Add (before + 1) (holds (state_bit (before + 1) 6) ∷ (holds (state_bit before 6) ∷ (fails (step_helper before 6) ∷ [])))

last_in_step : (before : ℕ) → Contains (step_commands before) (last_of_step before)
unfolding last_of_step
last_in_step before = (45, lit< tt, refl)

last_in_steps : (before : ℕ) → Contains (flat_map step_commands (range_with_len 0 (suc before))) (last_of_step before)
last_in_steps before =
    subst (λ cs. Contains cs (last_of_step before)) (sym (flat_map_push step_commands (range_with_len 0 before) before) ∙ ap (flat_map step_commands) (sym (range_more 0 before before (omega arith))))
    (Contains-append_right (flat_map step_commands (range_with_len 0 before)) (step_commands before) (last_of_step before) (last_in_step before))

last_names : (before : ℕ) → Contains (variables_named (last_of_step before)) (14 * suc before + 7)
unfolding last_of_step
last_names before = (0, lit< tt, let is : state_bit (before + 1) 6 ≡ 14 * suc before + 7 = omega arith in is)

-- the greatest variable is named by the last clause of the last step
pub greatest_of_generated : (n : ℕ) → 1 ≤ n → (c : Command) × Contains (generated n) c × Contains (variables_named c) (14 * n + 7)
greatest_of_generated zero some = absurd (omega (arith, some))
greatest_of_generated (suc before) some =
    let n = suc before in
    let steps = flat_map step_commands (range_with_len 0 n) in
    let rest = in_part (n + 1) (end_clauses n) ++ Solve [] ∷ [] in (
      last_of_step before,
      behind_first (Parts (n + 1)) (last_of_step before) (later_commands n)
          (Contains-append_right (in_part 1 (map start_clause (range_with_len 0 7))) (steps ++ rest) (last_of_step before) (Contains-append_left steps rest (last_of_step before) (last_in_steps before))),
      last_names before,
    )

-- ---- that each is accepted

within-more : (limit more v : ℕ) → limit ≤ more → is_within limit v ≡ true → is_within more v ≡ true
within-more limit more v h e = let range = range_of limit v e in within-test more v range.0 (omega (arith, h, range.1))

admits_add : (parts part : ℕ) (any : Bool) (lits : List ℤ) → nat_le part parts ≡ true → list_all (is_within variable_limit) (map unsigned_abs lits) ≡ true → admitted parts any (Add part lits) ≡ Ok tt
admits_add parts part true lits e h = rw (e, h) refl
admits_add parts part false lits e h = rw (e, h) refl

admits_solve : (parts : ℕ) (any : Bool) → admitted parts any (Solve []) ≡ Ok tt
admits_solve parts true = refl
admits_solve parts false = refl

small_admitted : (parts : ℕ) (any : Bool) (c : Command) → is_small_command variable_limit parts c ≡ true → admitted parts any c ≡ Ok tt
small_admitted parts any (Add part lits) e =
    let both = and_parts (nat_le part parts) (is_small_clause variable_limit lits) e in
    admits_add parts part any lits both.0 (and_parts (list_all (is_within variable_limit) (map unsigned_abs lits)) (nat_le (length lits) 7) both.1).0
small_admitted parts any (Solve []) e = admits_solve parts any
small_admitted parts any _ e = absurd (cc)

-- the first command is accepted where a script begins
pub parts_accepted : (n : ℕ) → n ≤ 60 → admitted 2 false (Parts (n + 1)) ≡ Ok tt
parts_accepted n few = let within : is_within 4096 (n + 1) ≡ true = within-test 4096 (n + 1) (omega arith) (omega (arith, few)) in rw within refl

-- each later one is accepted with the parts that the first gave
pub later_accepted : (n : ℕ) (any : Bool) (c : Command) → n ≤ 60 → Contains (later_commands n) c → admitted (n + 1) any c ≡ Ok tt
later_accepted n any c few here = small_admitted (n + 1) any c (small_later variable_limit n c (omega (arith, few)) here)

-- ---- that each is read back

small_literals : (lits : List ℤ) → list_all (is_within variable_limit) (map unsigned_abs lits) ≡ true → list_all is_writable_literal lits ≡ true
small_literals [] e = refl
small_literals (z ∷ zs) e =
    let both = and_parts (is_within variable_limit (unsigned_abs z)) (list_all (is_within variable_limit) (map unsigned_abs zs)) e in
    both_true (is_writable_literal z) (list_all is_writable_literal zs) (one z (range_of variable_limit (unsigned_abs z) both.0)) (small_literals zs both.1)
  where
    one : (z : ℤ) → (1 ≤ unsigned_abs z) × (unsigned_abs z ≤ 2147483647) → is_writable_literal z ≡ true
    one z range = let low = range.0 in let high = range.1 in both_true (not (unsigned_abs z == 0)) (is_writable_number (unsigned_abs z)) (grind (arith, nat_tests, low)) (grind (arith, nat_tests, high))

number-writable : (n : ℕ) → n ≤ 61 → is_writable_number n ≡ true
number-writable n h = grind (arith, nat_tests, h)

small_writable : (parts : ℕ) (c : Command) → parts ≤ 61 → is_small_command variable_limit parts c ≡ true → is_writable c ≡ true
small_writable parts (Add part lits) few e =
    let both = and_parts (nat_le part parts) (is_small_clause variable_limit lits) e in
    let small = and_parts (list_all (is_within variable_limit) (map unsigned_abs lits)) (nat_le (length lits) 7) both.1 in
    let low : part ≤ parts = leb-true part parts both.0 in
    both_true (is_writable_number part) (list_all is_writable_literal lits) (number-writable part (omega (arith, low, few))) (small_literals lits small.0)
small_writable parts (Solve []) few e = refl
small_writable parts _ few e = absurd (cc)

-- each can be written
pub generated_is_writable : (n : ℕ) (c : Command) → n ≤ 60 → Contains (generated n) c → is_writable c ≡ true
generated_is_writable n c few here =
    either (λ d. is_writable d ≡ true) (Parts (n + 1)) c (later_commands n) here (number-writable (n + 1) (omega (arith, few)))
    (λ later. small_writable (n + 1) c (omega (arith, few)) (small_later variable_limit n c (omega (arith, few)) later))

-- ---- how many clauses there are

-- how many clauses the commands add
added : List Command → ℕ
added commands = length (filter adds_clause commands)

added-part : (part : ℕ) (clauses : List (List ℤ)) → added (in_part part clauses) ≡ length clauses
unfolding added
added-part part [] = refl
added-part part (lits ∷ clauses) = ap suc (added-part part clauses)

added-both : (xs ys : List Command) → added (xs ++ ys) ≡ added xs + added ys
unfolding added
added-both xs ys = ap length (filter-append adds_clause xs ys) ∙ length-append (filter adds_clause xs) (filter adds_clause ys)

step_count : (before : ℕ) → length (step_clauses before) ≡ 46
step_count before = refl

steps_count : (from n : ℕ) → added (flat_map step_commands (range_with_len from n)) ≡ 46 * n
unfolding added
steps_count from zero = refl
steps_count from (suc n) =
    let here : added (step_commands from) ≡ 46 = added-part (from + 1) (step_clauses from) ∙ step_count from in
    omega (arith, added-both (step_commands from) (flat_map step_commands (range_with_len (from + 1) n)), here, steps_count (from + 1) n)

-- the table of the numbers of bits, for each bound
bits_table : list_all (λ n. length (filter (has_bit (2 * n + 1)) falling_bits) == count_ones (2 * n + 1)) (range_with_len 0 61) ≡ true
unfolding count_ones ones_in
bits_table = refl

bits_counted : (n : ℕ) → n ≤ 60 → length (filter (has_bit (2 * n + 1)) falling_bits) ≡ count_ones (2 * n + 1)
bits_counted n few =
    eqb-true _ _ (member-passes (λ k. length (filter (has_bit (2 * k + 1)) falling_bits) == count_ones (2 * k + 1)) (range_with_len 0 61) n (n, omega (arith, few, length-range_with_len 0 61), get_or-range_with_len 0 61 n n (omega (arith, few)) ∙ zero-add n) bits_table)

added-generated : (n : ℕ) → n ≤ 60 → added (generated n) ≡ 7 + 46 * n + count_ones (2 * n + 1)
unfolding added
added-generated n few =
    let starts = in_part 1 (map start_clause (range_with_len 0 7)) in
    let steps = flat_map step_commands (range_with_len 0 n) in
    let ends = in_part (n + 1) (end_clauses n) in
    let head : added (generated n) ≡ added (starts ++ (steps ++ (ends ++ Solve [] ∷ []))) = refl in
    let start : added starts ≡ 7 = refl in
    let last : added (Solve [] ∷ []) ≡ 0 = refl in
    let end : added ends ≡ count_ones (2 * n + 1) = added-part (n + 1) (end_clauses n) ∙ length-map (filter (has_bit (end_bound n)) falling_bits) (end_clause n) ∙ bits_counted n few in
    omega (arith, head, start, last, end, steps_count 0 n, added-both starts (steps ++ (ends ++ Solve [] ∷ [])), added-both steps (ends ++ Solve [] ∷ []), added-both ends (Solve [] ∷ []))

-- seven clauses, 46 for each step and one for each bit of the bound
pub generated_count : (n : ℕ) → n ≤ 60 → count_by adds_clause (generated n) ≡ 7 + 46 * n + count_ones (2 * n + 1)
unfolding added
generated_count n few = sym (length-filter adds_clause (generated n)) ∙ added-generated n few

-- ---- the lines

short_number : (n : ℕ) → n ≤ 2147483647 → length (decimal n) ≤ 10
short_number n h = length-decimal-le 10 n (omega arith) (omega (arith, h)) (omega (arith, h))

short_literal : (z : ℤ) → unsigned_abs z ≤ 2147483647 → length (signed_decimal z) ≤ 11
short_literal (pos n) h = omega (arith, short_number n h)
short_literal (negsuc n) h = omega (arith, short_number (suc n) h)

short_literals : (lits : List ℤ) → list_all (is_within variable_limit) (map unsigned_abs lits) ≡ true → length (spaced (map signed_decimal lits ++ codes "0" ∷ [])) ≤ 12 * length lits + 2
short_literals [] e = lit≤ tt
short_literals (z ∷ zs) e =
    let both = and_parts (is_within variable_limit (unsigned_abs z)) (list_all (is_within variable_limit) (map unsigned_abs zs)) e in
    omega (arith, short_literal z (range_of variable_limit (unsigned_abs z) both.0).1, short_literals zs both.1, length-append (signed_decimal z) (spaced (map signed_decimal zs ++ codes "0" ∷ [])))

short_clause : (part : ℕ) (lits : List ℤ) → part ≤ 61 → list_all (is_within variable_limit) (map unsigned_abs lits) ≡ true → length lits ≤ 7 → length (command_line (Add part lits)) ≤ 1048576
short_clause part lits low within few =
    let rest = spaced (map signed_decimal lits ++ codes "0" ∷ []) in
    let whole : length (command_line (Add part lits)) ≡ suc (suc (suc (suc (length (decimal part ++ rest))))) = ap length (joined-spaced (codes "add") (decimal part ∷ (map signed_decimal lits ++ codes "0" ∷ []))) in
    omega (arith, whole, length-append (decimal part) rest, short_number part (omega (arith, low)), short_literals lits within, few)

small_short : (parts : ℕ) (c : Command) → parts ≤ 61 → is_small_command variable_limit parts c ≡ true → length (command_line c) ≤ 1048576
small_short parts (Add part lits) few e =
    let both = and_parts (nat_le part parts) (is_small_clause variable_limit lits) e in
    let small = and_parts (list_all (is_within variable_limit) (map unsigned_abs lits)) (nat_le (length lits) 7) both.1 in
    short_clause part lits (omega (arith, leb-true part parts both.0, few)) small.0 (leb-true (length lits) 7 small.1)
small_short parts (Solve []) few e = lit≤ tt
small_short parts _ few e = absurd (cc)

-- the line of each is read as it
pub generated_is_read : (n : ℕ) (c : Command) → n ≤ 60 → Contains (generated n) c → parsed (line.Text (command_line c)) ≡ Ok c
generated_is_read n c few here = line_parsed c (generated_is_writable n c few here) short
  where
    first_short : length (command_line (Parts (n + 1))) ≤ 1048576
    first_short = omega (arith, short_number (n + 1) (omega (arith, few)))

    short : length (command_line c) ≤ 1048576
    short =
        either (λ d. length (command_line d) ≤ 1048576) (Parts (n + 1)) c (later_commands n) here first_short
        (λ later. small_short (n + 1) c (omega (arith, few)) (small_later variable_limit n c (omega (arith, few)) later))
