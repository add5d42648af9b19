-- The script of a counter of seven bits that moves by one or two at each step, as a free input says, and is said to end
-- above twice the number of steps, which it can't.
use Rattle.std.specs.Prelude.{ℕ, suc, ◌+◌, ◌-◌, ◌*◌, ◌/◌, ◌%◌, ◌^◌, Bool, true, false, not, ◌==◌, List, [], ◌∷◌, ◌++◌, ℤ, pos, negsuc, neg_ℤ, map}
use Rattle.std.specs.List.{filter, flat_map, list_any, range_with_len}
use Rattle.craig_script.specs.declared.command.Command.{Command}
use Rattle.craig_script.specs.declared.command.Command.TheVariants.{Nothing, Parts, Add, System, Mark, Cuts, Limit, Format, Solve}
use Rattle.craig_script.specs.declared.generator.Said.{Said}
use Rattle.craig_script.specs.declared.generator.Said.TheVariants.{Holds, Fails}

-- the literal that says that the variable is true
abbrev pub holds : ℕ → ℤ
holds variable = pos variable

-- the literal that says that it is false
abbrev pub fails : ℕ → ℤ
fails variable = neg_ℤ (pos variable)

-- the number of what a clause says of a variable
abbrev pub number_said : Said → ℤ
number_said (Holds variable) = holds variable
number_said (Fails variable) = fails variable

-- the variable of a bit of the state, the lowest bit 0, after so many steps
abbrev pub state_bit : ℕ → ℕ → ℕ
state_bit steps j = 14 * steps + 1 + j

-- the variable of the input of the step that comes after so many others
abbrev pub step_input : ℕ → ℕ
step_input before = 14 * before + 8

-- the variable of a helper of that step, the first helper 1
abbrev pub step_helper : ℕ → ℕ → ℕ
step_helper before j = 14 * before + 8 + j

-- at the start no bit is set
abbrev pub start_clause : ℕ → List ℤ
start_clause j = fails (state_bit 0 j) ∷ []

-- the first helper: the input or the lowest bit
abbrev pub first_helper : ℕ → List (List ℤ)
first_helper before =
    let helper = step_helper before 1 in
    let input = step_input before in
    let bit = state_bit before 0 in
    (fails helper ∷ (holds input ∷ (holds bit ∷ []))) ∷ ((holds helper ∷ (fails input ∷ [])) ∷ ((holds helper ∷ (fails bit ∷ [])) ∷ []))

-- the lowest bit is set where it was as the input
abbrev pub lowest_bit : ℕ → List (List ℤ)
lowest_bit before =
    let after = state_bit (before + 1) 0 in
    let bit = state_bit before 0 in
    let input = step_input before in
    (holds after ∷ (holds bit ∷ (holds input ∷ []))) ∷ ((holds after ∷ (fails bit ∷ (fails input ∷ []))) ∷ ((fails after ∷ (holds bit ∷ (fails input ∷ []))) ∷ ((fails after ∷ (fails bit ∷ (holds input ∷ []))) ∷ [])))

-- each higher bit is set where it was other than its helper
abbrev pub higher_bit : ℕ → ℕ → List (List ℤ)
higher_bit before j =
    let after = state_bit (before + 1) j in
    let bit = state_bit before j in
    let helper = step_helper before j in
    (fails after ∷ (holds bit ∷ (holds helper ∷ []))) ∷ ((fails after ∷ (fails bit ∷ (fails helper ∷ []))) ∷ ((holds after ∷ (fails bit ∷ (holds helper ∷ []))) ∷ ((holds after ∷ (holds bit ∷ (fails helper ∷ []))) ∷ [])))

-- the helper of the next bit: the bit and its helper
abbrev pub next_helper : ℕ → ℕ → List (List ℤ)
next_helper before j =
    let next = step_helper before (j + 1) in
    let bit = state_bit before j in
    let helper = step_helper before j in
    (fails next ∷ (holds bit ∷ [])) ∷ ((fails next ∷ (holds helper ∷ [])) ∷ ((holds next ∷ (fails bit ∷ (fails helper ∷ []))) ∷ []))

-- a bit between the lowest and the highest, and the helper of the one above it
abbrev pub inner_bit : ℕ → ℕ → List (List ℤ)
inner_bit before j = higher_bit before j ++ next_helper before j

-- the clauses of a step
abbrev pub step_clauses : ℕ → List (List ℤ)
step_clauses before = first_helper before ++ (lowest_bit before ++ (flat_map (inner_bit before) (range_with_len 1 5) ++ higher_bit before 6))

-- whether a bit of the number is set
abbrev pub has_bit : ℕ → ℕ → Bool
has_bit n j = n / 2 ^ j % 2 == 1

-- the least that the counter is said to end with
abbrev pub end_bound : ℕ → ℕ
end_bound steps = 2 * steps + 1

-- where a bit of the bound is set, the state after all steps has this bit or a higher one that the bound lacks
abbrev pub end_clause : ℕ → ℕ → List ℤ
end_clause steps j = map (λ i. holds (state_bit steps i)) (j ∷ filter (λ i. not (has_bit (end_bound steps) i)) (range_with_len (j + 1) (6 - j)))

-- the bits from the highest on
abbrev pub falling_bits : List ℕ
falling_bits = 6 ∷ (5 ∷ (4 ∷ (3 ∷ (2 ∷ (1 ∷ (0 ∷ []))))))

-- the counter ends at the bound or above it
abbrev pub end_clauses : ℕ → List (List ℤ)
end_clauses steps = map (end_clause steps) (filter (has_bit (end_bound steps)) falling_bits)

-- the clauses are added to the part
abbrev pub in_part : ℕ → List (List ℤ) → List Command
in_part part clauses = map (λ lits. Add part lits) clauses

-- the step that comes after so many others is the part with its number
abbrev pub step_commands : ℕ → List Command
step_commands before = in_part (before + 1) (step_clauses before)

-- the script of so many steps
abbrev pub generated : ℕ → List Command
generated steps =
    Parts (steps + 1) ∷ (in_part 1 (map start_clause (range_with_len 0 7)) ++ (flat_map step_commands (range_with_len 0 steps) ++ (in_part (steps + 1) (end_clauses steps) ++ Solve [] ∷ [])))

-- whether the command adds a clause
abbrev pub adds_clause : Command → Bool
adds_clause Nothing = false
adds_clause (Parts n) = false
adds_clause (Add part lits) = true
adds_clause (System s) = false
adds_clause (Mark name m) = false
adds_clause (Cuts cuts) = false
adds_clause (Limit limit) = false
adds_clause (Format f) = false
adds_clause (Solve pairs) = false

-- whether the literal is true where the variables have these values
abbrev pub is_true_literal : (ℕ → Bool) → ℤ → Bool
is_true_literal values (pos n) = values n
is_true_literal values (negsuc n) = not (values (suc n))

-- whether the clause is true that the command adds, if it adds one
abbrev pub is_true_command : (ℕ → Bool) → Command → Bool
is_true_command values Nothing = true
is_true_command values (Parts n) = true
is_true_command values (Add part lits) = list_any (is_true_literal values) lits
is_true_command values (System s) = true
is_true_command values (Mark name m) = true
is_true_command values (Cuts cuts) = true
is_true_command values (Limit limit) = true
is_true_command values (Format f) = true
is_true_command values (Solve pairs) = true
