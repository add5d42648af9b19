-- Two tracers that are told the same.
use Rattle.std.specs.Prelude.{◌≡◌, Bool, Option, Some, if◌then◌else◌}
use Rattle.std.specs.Option.{option_map, option_or}
use Rattle.craig_spec.specs.Chain.{Told, ToldStep, nothing_told}
use Rattle.craig_proof.specs.Tracer.{Appends}

-- two tracers that are told the same
pub record PairView (T U : Type 0) : Type 0 where
  -- the two
  pub first : T
  -- the tracer that is told what the first was told
  pub second : U
  -- whether a call wanted memory in vain, after which each further one is refused
  pub dead : Bool

-- what the two tell together: what the first tells, or the second where the first tells nothing; a dead pair tells that it was told nothing
abbrev pub pair_told : {T U : Type 0} → (T → Option Told) → (U → Option Told) → PairView T U → Option Told
pair_told first second p =
    if p.dead then option_map (λ _. nothing_told) (option_or (first p.first) (second p.second)) else option_or (first p.first) (second p.second)

-- where they told their meaning, the one step stands behind it
abbrev pub PairAppends : {T U : Type 0} → (T → Option Told) → (U → Option Told) → PairView T U → PairView T U → ToldStep → Type 0
PairAppends first second before after step = Appends (pair_told first second before) (pair_told first second after) step

-- what no call of either changes
abbrev pub pair_kept : {T U A B : Type 0} → (T → A) → (U → B) → PairView T U → A × B
pair_kept first second p = (first p.first, second p.second)

-- where both tell their meanings, these are equal
pub record Agree (first second : Option Told) : Type 0 where
  -- what the first tells, the second tells
  pub same : (t u : Told) → first ≡ Some t → second ≡ Some u → t ≡ u
