-- The depths of gates, as they become known.
use Rattle.std.specs.Prelude.{◌≡◌, ℕ, suc, ◌+◌, ◌-◌, ◌/◌, ◌<◌, ◌≤◌, ◌⊎◌, nat_lt, max, if◌then◌else◌, List, [], ◌∷◌, length, map, slice_index_or, Option, Some, None, Result, Ok}
use Rattle.std.specs.List.{range_with_len}
use Rattle.craig_spec.specs.AigerFault.{Fault, FaultKind}
use Rattle.craig_spec.specs.AigerReading.{GateLine, first_cyclic, gate_depth, unless_found}
use Rattle.craig_spec.specs.Circuit.{Gate}
use Rattle.craig_aiger_read.specs.declared.gate.Gate.{Gate as KeptGate}
use Rattle.craig_aiger_read.specs.declared.depths.Readiness.{Readiness}
use Rattle.craig_aiger_read.specs.declared.gate.Gate.{Gate as KeptGate}
use Rattle.craig_aiger_read.specs.declared.depths.Readiness.TheVariants.{Depth, Waits}

-- how many depths are known
abbrev pub known_count : List (Option ℕ) → ℕ
known_count [] = 0
known_count (None ∷ known) = known_count known
known_count ((Some d) ∷ known) = suc (known_count known)

-- what is known is right, and no depth is more than the number of those that are known
pub record AreDepths (first : ℕ) (gates : List Gate) (known : List (Option ℕ)) : Type 0 where
  -- there is a place for each gate
  pub long : length known ≡ length gates
  -- what is known is right
  pub right : (j d : ℕ) → slice_index_or known j None ≡ Some d → gate_depth first gates j ≡ Some d
  -- no depth is more than the number of those that are known
  pub few : (j d : ℕ) → slice_index_or known j None ≡ Some d → d ≤ known_count known

-- the depth of a literal's variable, where it is known: 0 for one that is no gate
abbrev pub known_depth : ℕ → List (Option ℕ) → ℕ → Option ℕ
known_depth first known l = if nat_lt (l / 2) first then Some 0 else slice_index_or known (l / 2 - first) None

-- whatever was known is still known
abbrev pub StayKnown : List (Option ℕ) → List (Option ℕ) → Type 0
StayKnown old new = (j d : ℕ) → slice_index_or old j None ≡ Some d → slice_index_or new j None ≡ Some d

-- the depths of all gates, or the first line of one that has none
abbrev pub depths_of : ℕ → List Gate → List GateLine → Result (List (Option ℕ)) Fault
depths_of first gates lines =
    unless_found FaultKind.Cycle (first_cyclic first gates lines) (Ok (map (gate_depth first gates) (range_with_len 0 (length gates))))

-- what is known of a gate: its depth, by those of its operands, or an operand whose depth is not known
abbrev pub IsReadiness : ℕ → List (Option ℕ) → ℕ → ℕ → Readiness → Type 0
IsReadiness first known left right (Depth d) = (m : ℕ) × (n : ℕ) × (known_depth first known left ≡ Some m) × (known_depth first known right ≡ Some n) × (d ≡ suc (max m n))
IsReadiness first known left right (Waits o) = ((left / 2 ≡ first + o) ⊎ (right / 2 ≡ first + o)) × (o < length known) × (slice_index_or known o None ≡ None)

-- the operands of the gates are variables up to theirs
abbrev pub AreWithin : ℕ → List KeptGate → Type 0
AreWithin first gates = (j : ℕ) (d : KeptGate) → j < length gates → ((slice_index_or gates j d).left / 2 < first + length gates) × ((slice_index_or gates j d).right / 2 < first + length gates)
