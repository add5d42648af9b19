-- The order of gates by depth, and their variables in it.
use Rattle.std.specs.Prelude.{◌≡◌, ℕ, ◌+◌, ◌-◌, ◌*◌, ◌/◌, ◌%◌, ◌<◌, ◌≤◌, nat_lt, if◌then◌else◌, List, length, filter, slice_index, slice_index_or, Option, Some, None}
use Rattle.std.specs.List.{flat_map, range_with_len}
use Rattle.craig_spec.specs.AigerReading.{is_depth, place_in}
use Rattle.craig_spec.specs.Circuit.{Gate}

-- the places of depths by rising depth, and those of one depth in order
abbrev pub order_by : List (Option ℕ) → List ℕ
order_by depths = flat_map (λ n. filter (λ j. is_depth n (slice_index_or depths j None)) (range_with_len 0 (length depths))) (range_with_len 1 (length depths))

-- each depth is there, and is from 1 to the number of them
abbrev pub AreDeep : List (Option ℕ) → Type 0
AreDeep depths = (j : ℕ) → j < length depths → (d : ℕ) × (slice_index_or depths j None ≡ Some d) × (1 ≤ d) × (d ≤ length depths)

-- these are the variables of the places in the order, from the first one on
abbrev pub AreNewVariables : ℕ → List ℕ → List ℕ → Type 0
AreNewVariables first order variables = (j : ℕ) → j < length variables → slice_index variables j ≡ first + place_in order j

-- the literal with the variable of its gate among these, and any other as it is
abbrev pub moved_by : ℕ → List ℕ → ℕ → ℕ
moved_by first variables l = if nat_lt (l / 2) first then l else 2 * slice_index variables (l / 2 - first) + l % 2

-- the gate of a place with its operands so moved
abbrev pub gate_moved_by : ℕ → List ℕ → List Gate → ℕ → Gate
gate_moved_by first variables gates j =
    let g = slice_index_or gates j (record { left = 0; right = 0 }) in record { left = moved_by first variables g.left; right = moved_by first variables g.right }

-- the variables are small enough to be doubled
abbrev pub AreSmall : List ℕ → Type 0
AreSmall variables = (j : ℕ) → j < length variables → slice_index variables j ≤ 1000000000000000001
